use Rattle.{
  frame_parts.proofs.Common.{◌≡◌, map, Some, range_with_len, IsLonger, IsSettled, table_value, headings_value},
  meaning_method.specs.{Levels.{level_label}, Methods.{as_frame}},
}
use Rattle.frame_labels.proofs.resetting.level_labels.Given as goal

-- the labels of the levels so far
abbrev pub invariant-loop-level : goal.invariant-loop-level
invariant-loop-level l = record {
  longer : IsLonger l.fn.dict l.dict;
  given : IsSettled headings_value l.dict l.labels.items;
  labels : headings_value l.dict l.labels.items ≡ map (λ level. Some (level_label (as_frame (table_value l.fn.dict l.on)) level)) (range_with_len 0 l.level);
}
