use Rattle.{
  frame_parts.proofs.Common.{◌≡◌, map, All, Na, range_with_len, columns_of, IsSingle},
  column_core.specs.cells.Column.{taken},
  reshape.specs.Answers.{spread_value},
  frame_reshape.specs.Spreads.{places_of_column},
}
use Rattle.frame_reshape.proofs.spreading.spread_blocks.Given as goal

-- the columns so far
abbrev pub invariant-loop-column : goal.invariant-loop-column
invariant-loop-column l = record {
  columns : columns_of l.blocks ≡ map (λ column. record { kind = l.cells.kind; cells = taken Na l.cells.cells (places_of_column (spread_value l.spread) column) }) (range_with_len 0 l.column);
  single : All IsSingle l.blocks;
}
