use Rattle.{
  frame_parts.proofs.Common.{◌≡◌, List, All, Text, IsSingle},
  frame_labels.proofs.LevelColumnLaws.{columns_from},
}
use Rattle.frame_labels.specs.LevelColumns as levels
use Rattle.frame_labels.proofs.level_columns.level_columns.Given as goal

-- the levels so far, before the others
abbrev pub invariant-loop-level : goal.invariant-loop-level
invariant-loop-level l = record {
  single : All IsSingle l.blocks;
  columns : (texts : List Text) → columns_from texts l.axis l.level l.blocks ≡ levels.level_columns texts l.axis;
}
