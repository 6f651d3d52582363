use Rattle.{
  column_core.proofs.cells.Common.{◌≡◌, ◌≤◌},
  merge_concat.specs.Codes.{counted_by_key},
}
use Rattle.merge_concat.proofs.pairs.count_by_key.Given as goal

-- the pairs so far are few
abbrev pub invariant-loop-code : goal.invariant-loop-code
invariant-loop-code l = record {
  total : l.total ≡ counted_by_key l.code l.left.codes.now l.right.codes.now;
  fits : l.total ≤ l.most;
}
