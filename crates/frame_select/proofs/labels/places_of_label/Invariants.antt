use Rattle.{
  frame_parts.{proofs.Common.{◌≡◌, ◌<◌, ◌++◌, length, All, label_datum, headings_value}, specs.form.Select.{places_of_label}},
  frame_select.proofs.NamedLaws.{rows_from},
}
use Rattle.frame_select.proofs.labels.places_of_label.Given as goal

-- the columns so far, and those from the place on
abbrev pub invariant-loop-place : goal.invariant-loop-place
invariant-loop-place l = record {
  places : l.places ++ rows_from l.dict l.on.headings l.label l.place ≡ places_of_label (headings_value l.dict l.on.headings) (label_datum l.dict l.label);
  inside : All (λ place. place < length l.on.columns) l.places;
}
