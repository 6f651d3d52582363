use Rattle.{
  frame_parts.proofs.Common.{◌≡◌, label_datum, place_of_label, headings_value},
  frame_select.proofs.HeadingLaws.{place_from},
}
use Rattle.frame_select.proofs.labels.place_of_label.Given as goal

-- no column so far has the label
abbrev pub invariant-loop-place : goal.invariant-loop-place
invariant-loop-place l = place_from l.dict l.on.headings l.label l.place ≡ place_of_label (headings_value l.dict l.on.headings) (label_datum l.dict l.label)
