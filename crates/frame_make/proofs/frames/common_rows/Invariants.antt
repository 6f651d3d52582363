use Rattle.{
  frame_parts.proofs.Common.{◌≡◌, List, drop, Text, blocks_value},
  frame_make.specs.Made.{same_rows, common_rows},
}
use Rattle.frame_make.proofs.frames.common_rows.Given as goal

-- the columns so far have as many rows as the first
abbrev pub invariant-loop-place : goal.invariant-loop-place
invariant-loop-place l = (texts : List Text) → same_rows l.rows (drop l.place (blocks_value texts l.columns)) ≡ common_rows (blocks_value texts l.columns)
