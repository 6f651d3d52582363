use Rattle.{
  frame_parts.proofs.Common.{◌≡◌, map, take, All, block_column, IsSingle},
  frame_select.specs.Chosen.{columns_at},
}
use Rattle.frame_select.proofs.taking.chosen_blocks.Given as goal

-- the columns so far
abbrev pub invariant-loop-place : goal.invariant-loop-place
invariant-loop-place l = record {
  columns : map block_column l.blocks ≡ columns_at l.rows (take l.place-index l.place-items) l.on;
  single : All IsSingle l.blocks;
}
