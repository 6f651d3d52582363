use Rattle.{
  frame_parts.proofs.Common.{◌≡◌, drop, label_datum, place_of_label, headings_value},
  frame_select.proofs.PlaceLaws.{moved},
}
use Rattle.frame_labels.proofs.levels.place_of_name.Given as goal

-- no level so far has the name
abbrev pub invariant-loop-level : goal.invariant-loop-level
invariant-loop-level l =
    moved l.level (place_of_label (drop l.level (headings_value l.dict l.on.level_names)) (label_datum l.dict l.name)) ≡ place_of_label (headings_value l.dict l.on.level_names) (label_datum l.dict l.name)
