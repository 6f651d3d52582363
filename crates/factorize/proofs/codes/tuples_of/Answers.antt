use Rattle.{
  column_core.proofs.cells.Common.{[], arith, get_or_from_slice_get},
  multi_index.proofs.SideLaws.{one_row_more},
}
use Rattle.factorize.proofs.codes.tuples_of.Goals as goal

pub loop-place-preserved : goal.loop-place-preserved
loop-place-preserved c = one_row_more _ _ _ 0 _ [] _ _ (omega arith) (grind (arith, get_or_from_slice_get)) c.loop-place.invariant c.in_ok-push.ensures.ok
