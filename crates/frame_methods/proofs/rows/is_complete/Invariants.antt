use Rattle.{
  frame_parts.proofs.Common.{◌≡◌, List, drop, Text},
  frame_methods.proofs.RowLaws.{whole_in},
}
use Rattle.frame_methods.proofs.rows.is_complete.Given as goal

-- no cell of the columns so far is missing
abbrev pub invariant-loop-place : goal.invariant-loop-place
invariant-loop-place l = (texts : List Text) → whole_in texts l.row (drop l.place l.on.columns) ≡ whole_in texts l.row l.on.columns
