use Rattle.{
  column_core.proofs.cells.Common.{◌≡◌, ◌∙◌, ℕ, Bool, List, true, false, not, filter, length, ap, sym, rules},
  factorize.{specs.Numbers.{first_row, number_less, row_holds_na, kept_numbers}, proofs.NumberLaws.{filter_all}},
}
use Rattle.factorize.proofs.places.numbers_kept.Goals as goal

pub returns-then-not-dropna : goal.returns-then-not-dropna
returns-then-not-dropna g c =
    let texts = c.args.dict.now in
    let keys = g.R.KeyLevels.keys _ in
    let meant : Bool → List ℕ → List ℕ = λ dropna firsts. kept_numbers c.args.sorted dropna (number_less texts keys c.args.levels firsts) (λ n. row_holds_na texts keys c.args.levels (first_row firsts n)) (length firsts) in
    let firsts = c.deref-firsts.result.now in
    let off : c.args.dropna ≡ false = search rules in
    c.in_ok-ordered.ensures
    ∙ sym (search filter_all)
    ∙ (λ i. meant (sym off i) (c.deref-firsts.ensures.value i))

pub returns : goal.returns
returns g c =
    let texts = c.args.dict.now in
    let keys = g.R.KeyLevels.keys _ in
    let meant : Bool → List ℕ → List ℕ = λ dropna firsts. kept_numbers c.args.sorted dropna (number_less texts keys c.args.levels firsts) (λ n. row_holds_na texts keys c.args.levels (first_row firsts n)) (length firsts) in
    let firsts = c.deref-firsts.result.now in
    let on : c.args.dropna ≡ true = search rules in
    c.in_ok-kept.ensures texts
    ∙ ap (filter (λ n. not (row_holds_na texts keys c.args.levels (first_row firsts n)))) (c.as_slice.ensures ∙ c.in_ok-ordered.ensures)
    ∙ (λ i. meant (sym on i) (c.deref-firsts.ensures.value i))
