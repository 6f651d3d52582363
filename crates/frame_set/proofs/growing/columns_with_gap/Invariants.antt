use Rattle.{
  frame_parts.proofs.Common.{◌≡◌, map, take, All, block_column, IsSingle},
  frame_set.specs.Grown.{with_gap},
}
use Rattle.frame_set.proofs.growing.columns_with_gap.Given as goal

-- the columns so far
abbrev pub invariant-loop-place : goal.invariant-loop-place
invariant-loop-place l = record { columns : map block_column l.blocks ≡ map with_gap (take l.place l.on.columns); single : All IsSingle l.blocks }
