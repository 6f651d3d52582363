use Rattle.{
  frame_parts.proofs.Common.{◌≡◌, [], drop},
  frame_select.specs.Headings.{shared_heading, HaveFirstPlaces},
}
use Rattle.frame_concat.proofs.parts.heading_places.Given as goal

-- the headings from a place on
abbrev pub invariant-loop-place : goal.invariant-loop-place
invariant-loop-place l = record {
  first : HaveFirstPlaces l.first.entries l.place (drop l.place l.headings);
  repeated : l.repeated ≡ shared_heading (drop l.place l.headings) [];
}
