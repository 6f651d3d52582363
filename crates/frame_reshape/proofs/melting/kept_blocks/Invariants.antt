use Rattle.{
  frame_parts.proofs.Common.{◌≡◌, map, take, length, All, columns_of, IsSingle},
  frame_reshape.specs.Melts.{kept_column},
}
use Rattle.frame_reshape.proofs.melting.kept_blocks.Given as goal

-- the columns so far
abbrev pub invariant-loop-k : goal.invariant-loop-k
invariant-loop-k l = record {
  columns : columns_of l.blocks ≡ map (kept_column l.on (length l.m.values)) (take l.k l.m.kept);
  single : All IsSingle l.blocks;
}
