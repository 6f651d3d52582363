use Rattle.{
  column_core.proofs.cells.Common.{◌≡◌, ◌≤◌, take},
  merge_concat.specs.Codes.{counted_by_row},
}
use Rattle.merge_concat.proofs.pairs.count_by_row.Given as goal

-- the pairs so far are few
abbrev pub invariant-loop-row : goal.invariant-loop-row
invariant-loop-row l = record {
  total : l.total ≡ counted_by_row l.stays (take l.row l.left.codes.now) l.right.codes.now;
  fits : l.total ≤ l.most;
}
