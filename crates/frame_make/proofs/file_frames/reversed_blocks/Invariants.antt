use Rattle.frame_parts.proofs.Common.{◌≡◌, ◌++◌, length, reverse}
use Rattle.frame_make.proofs.file_frames.reversed_blocks.Given as goal

-- the blocks so far, before those that are left
abbrev pub invariant-loop-block : goal.invariant-loop-block
invariant-loop-block l = l.made ++ reverse l.blocks ≡ reverse l.fn.blocks

abbrev pub decreases-loop-block : goal.decreases-loop-block
decreases-loop-block l = length l.blocks
