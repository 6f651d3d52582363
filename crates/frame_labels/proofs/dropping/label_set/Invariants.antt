use Rattle.{
  frame_parts.proofs.Common.{◌≡◌, map, take, list_any, Option, Label},
  frame_select.specs.Headings.{same_heading},
  frame_labels.specs.Named.{some_label},
}
use Rattle.frame_labels.proofs.dropping.label_set.Given as goal

-- the labels so far
abbrev pub invariant-loop-k : goal.invariant-loop-k
invariant-loop-k l = (h : Option Label) → list_any (same_heading h) l.labels.keys ≡ list_any (same_heading h) (map some_label (take l.k l.cells))
