use Rattle.frame_parts.proofs.Common.{◌≡◌, ◌++◌, map, drop, List, Text, label_datum, labels_of, items_of, Tables}
use Rattle.frame_concat.proofs.gathering.labels_of.Given as goal

-- the labels so far, and those that are left
abbrev pub invariant-loop-item : goal.invariant-loop-item
invariant-loop-item l = (live : Tables) (texts : List Text) → map (label_datum texts) l.labels.items ++ labels_of (items_of live texts (drop l.item-index l.items)) ≡ labels_of (items_of live texts l.items)
