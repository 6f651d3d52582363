use Rattle.{
  frame_parts.proofs.Common.{◌≡◌, ◌++◌, map, length, reverse},
  frame_make.specs.Frames.{column_block},
}
use Rattle.frame_make.proofs.file_frames.blocks_from_last.Given as goal

-- the blocks so far, before those of the columns that are left
abbrev pub invariant-loop-column : goal.invariant-loop-column
invariant-loop-column l = l.blocks ++ reverse (map column_block l.columns) ≡ reverse (map column_block l.fn.columns)

abbrev pub decreases-loop-column : goal.decreases-loop-column
decreases-loop-column l = length l.columns
