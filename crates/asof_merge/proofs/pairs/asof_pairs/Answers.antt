use Rattle.{
  column_core.proofs.cells.Common.{subst, zip},
  row_keys.specs.Keys.{same_tuple},
  meaning_asof.specs.AsOf.{asof_merged},
  asof_merge.{specs.Answers.{MatchesBy}, proofs.KeyLaws.{cells_read}},
}
use Rattle.asof_merge.proofs.pairs.asof_pairs.Goals as goal

pub returns : goal.returns
returns c =
    λ texts.
    subst (MatchesBy c.asof_rows.result)
    (λ i. asof_merged same_tuple c.args.direction c.args.tolerance (zip (cells_read texts _ _ c.as_slice.ensures i) c.args.left_by.now) (zip (cells_read texts _ _ c.as_slice-2.ensures i) c.args.right_by.now))
    c.asof_rows.ensures
