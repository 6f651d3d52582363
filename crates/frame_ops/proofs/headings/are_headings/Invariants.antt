use Rattle.frame_parts.proofs.Common.{◌≡◌, drop, headings_value, labels_value}
use Rattle.frame_parts.specs.form.Infix as meant
use Rattle.frame_ops.proofs.headings.are_headings.Given as goal

abbrev pub invariant-loop-place : goal.invariant-loop-place
invariant-loop-place l =
    meant.are_headings (labels_value l.dict (drop l.place l.series.labels)) (headings_value l.dict (drop l.place l.frame.headings))
    ≡ meant.are_headings (labels_value l.dict l.series.labels) (headings_value l.dict l.frame.headings)
