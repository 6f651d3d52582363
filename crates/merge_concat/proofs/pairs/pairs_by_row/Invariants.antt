use Rattle.{
  column_core.proofs.cells.Common.{take, nat_eq},
  meaning_join.specs.Pairs.{pairs_from},
  merge_concat.specs.Pairs.{AreListed},
}
use Rattle.merge_concat.proofs.pairs.pairs_by_row.Given as goal

-- the pairs of the rows so far
abbrev pub invariant-loop-row : goal.invariant-loop-row
invariant-loop-row l = AreListed l.out (pairs_from nat_eq l.stays 0 (take l.row l.left.codes.now) l.right.codes.now)
