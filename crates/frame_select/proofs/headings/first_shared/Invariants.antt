use Rattle.{
  frame_parts.proofs.Common.{◌≡◌, ◌++◌, drop, take, Option, list_any, Label},
  frame_select.specs.Headings.{same_heading, shared_heading},
}
use Rattle.frame_select.proofs.headings.first_shared.Given as goal

-- the others so far
abbrev pub invariant-loop-heading : goal.invariant-loop-heading
invariant-loop-heading l = (q : Option Label) → list_any (same_heading q) l.later.keys ≡ list_any (same_heading q) (take l.heading-index l.others)

-- the headings from a place on, and the others
abbrev pub invariant-loop-place : goal.invariant-loop-place
invariant-loop-place l = record {
  later : (q : Option Label) → list_any (same_heading q) l.later.keys ≡ list_any (same_heading q) (drop l.place l.headings ++ l.others);
  shared : l.shared ≡ shared_heading (drop l.place l.headings) l.others;
}
