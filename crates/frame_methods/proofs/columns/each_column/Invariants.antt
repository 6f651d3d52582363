use Rattle.{
  frame_parts.proofs.Common.{length, cells_value},
  frame_methods.specs.Columns.{IsFront},
}
use Rattle.frame_methods.proofs.columns.each_column.Given as goal

-- the columns so far
abbrev pub invariant-loop-place : goal.invariant-loop-place
invariant-loop-place g l = IsFront (g.O.ColumnOp.answer l.op (cells_value l.fn.dict (g.O.ColumnOp.held l.op))) l.fn.dict l.dict l.on.columns (length l.on.labels) l.place l.made
