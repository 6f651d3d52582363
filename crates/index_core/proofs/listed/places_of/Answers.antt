use Rattle.{
  meaning_pick.proofs.{cells.Common.{arith}, RowLaws.{rows_more_yes, rows_more_no}},
  index_core.proofs.listed.places_of.Goals.{then-eq+in_ok-push},
}
use Rattle.index_core.proofs.listed.places_of.Goals as goal

pub loop-place-preserved : goal.loop-place-preserved
loop-place-preserved = grind (arith, then-eq+in_ok-push, rows_more_yes, rows_more_no)
