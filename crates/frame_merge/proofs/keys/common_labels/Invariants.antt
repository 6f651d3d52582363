use Rattle.{
  frame_parts.proofs.Common.{◌++◌, drop, ◌≡◌, filter_map, table_value, IsSettled, cells_value, headings_value},
  frame_labels.specs.method.Merge.{common_labels},
  frame_merge.specs.Keys.{cell_labels},
}
use Rattle.frame_merge.proofs.keys.common_labels.Given as goal

-- the labels so far
abbrev pub invariant-loop-heading : goal.invariant-loop-heading
invariant-loop-heading l = record {
  given : IsSettled cells_value l.dict l.cells;
  labels : cell_labels l.dict l.cells ++ filter_map (λ h. h) (headings_value l.dict (drop l.heading-index l.headings)) ≡ common_labels (table_value l.dict l.l) (table_value l.dict l.r);
}
