use Rattle.{
  frame_parts.proofs.Common.{drop},
  frame_select.specs.Headings.{HaveFirstPlaces, AreRepeated},
}
use Rattle.frame_select.proofs.headings.heading_places.Given as goal

-- the headings from a place on
abbrev pub invariant-loop-place : goal.invariant-loop-place
invariant-loop-place l = record {
  first : HaveFirstPlaces l.first.entries l.place (drop l.place l.on.headings);
  repeated : AreRepeated l.repeated.keys l.place (drop l.place l.on.headings);
}
