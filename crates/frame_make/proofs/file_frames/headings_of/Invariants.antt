use Rattle.{
  frame_parts.proofs.Common.{◌≡◌, ◌++◌, map, drop, None},
  frame_make.proofs.FileFrameLaws.{first_label},
}
use Rattle.frame_make.proofs.file_frames.headings_of.Given as goal

-- the headings so far, before those of the other labels
abbrev pub invariant-loop-place : goal.invariant-loop-place
invariant-loop-place l = record {
  nameless : l.headings.columns_name ≡ None;
  labels : l.headings.labels ++ map first_label (drop l.place l.labels) ≡ map first_label l.labels;
}
