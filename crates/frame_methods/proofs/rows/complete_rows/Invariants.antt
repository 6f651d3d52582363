use Rattle.{
  frame_parts.proofs.Common.{◌≡◌, List, Text, table_value},
  frame_methods.proofs.RowLaws.{complete_before},
}
use Rattle.frame_methods.proofs.rows.complete_rows.Given as goal

-- the complete rows so far
abbrev pub invariant-loop-row : goal.invariant-loop-row
invariant-loop-row l = (texts : List Text) → l.rows ≡ complete_before (table_value texts l.on) l.row
