use Rattle.{
  frame_parts.proofs.Common.{◌≡◌, List, length, take, drop, Text, Tables, items_of},
  frame_select.{specs.{Reaches.{labels_in}, Selected.{scalars_in}}, proofs.HeadingLaws.{labels_after}},
}
use Rattle.frame_select.proofs.keys.scalar_labels.Given as goal

-- the labels so far, before those of the other scalars
abbrev pub invariant-loop-k : goal.invariant-loop-k
invariant-loop-k l = record {
  count : length l.labels ≡ 4;
  labels : (live : Tables) (texts : List Text) → labels_after texts (take l.k l.labels) (scalars_in (items_of live texts (drop l.k l.items))) ≡ labels_in (items_of live texts l.items);
}
