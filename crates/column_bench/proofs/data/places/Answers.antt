use Rattle.{
  column_core.proofs.cells.Common.{[], ◌∷◌, ◌++◌, ap, sym, ◌∙◌, List, Option, ℕ, tabulate},
  column_bench.{specs.Data.{place_at}, proofs.DataLaws.{tabulate_more}},
}
use Rattle.column_bench.proofs.data.places.Goals as goal

pub loop-row-preserved : goal.loop-row-preserved
loop-row-preserved c =
    c.in_ok-push.ensures.ok
    ∙ ap (λ (l : List (Option ℕ)). l ++ c.place.result ∷ []) c.loop-row.invariant
    ∙ ap (λ (p : Option ℕ). tabulate c.loop-row.row place_at ++ p ∷ []) c.place.ensures
    ∙ sym (tabulate_more place_at c.loop-row.row)
