use Rattle.{
  index_core.proofs.cells.Common.{◌∙◌, sym},
  multi_index.proofs.ListedLaws.{slice_found},
}
use Rattle.multi_index.proofs.listed.slice_of.Goals as goal

pub returns-clause-rows : goal.returns-clause-rows
returns-clause-rows c =
    slice_found _ _ (sym c.is_sorted.ensures ∙ c.if-not-is_sorted.false) _ _ _ _ _ c.run_of.ensures.rows c.first_reached-first.ensures c.end_within-end.ensures
