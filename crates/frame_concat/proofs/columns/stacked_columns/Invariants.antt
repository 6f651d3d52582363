use Rattle.{
  frame_parts.proofs.Common.{◌≡◌, List, take, All, Text, IsSingle, columns_value, blocks_value},
  frame_concat.specs.Columns.{columns_stacked},
}
use Rattle.frame_concat.proofs.columns.stacked_columns.Given as goal

-- the columns so far
abbrev pub invariant-loop-sought : goal.invariant-loop-sought
invariant-loop-sought l = record {
  columns : (texts : List Text) → blocks_value texts l.made ≡ columns_value texts (columns_stacked l.fn.parts (take l.sought-index l.columns));
  single : All IsSingle l.made;
}
