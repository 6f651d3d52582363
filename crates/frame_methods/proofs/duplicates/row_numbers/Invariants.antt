use Rattle.{
  frame_parts.proofs.Common.{take},
  frame_methods.specs.Rows.{AreNumbers},
}
use Rattle.frame_methods.proofs.duplicates.row_numbers.Given as goal

-- the rows are told apart by the columns so far
abbrev pub invariant-loop-k : goal.invariant-loop-k
invariant-loop-k l = AreNumbers l.on (take l.k l.places) l.numbers.items
