use Rattle.{
  column_core.proofs.cells.Common.{nat_eq, arith},
  merge_concat.proofs.JoinLaws.{from_more, pairs_more},
}
use Rattle.merge_concat.proofs.pairs.pairs_by_row.Goals as goal

pub loop-row-preserved : goal.loop-row-preserved
loop-row-preserved c = rw (from_more nat_eq c.args.stays c.args.right.now.codes.now c.args.left.now.codes.now c.loop-row.row 0 (omega arith)) (pairs_more _ _ _ _ c.loop-row.invariant (grind arith))
