use Rattle.{
  frame_parts.proofs.Common.{◌≡◌, ◌++◌, ◌≤◌, drop, length},
  frame_concat.specs.Headings.{numbered},
}
use Rattle.frame_concat.proofs.headings.numbered.Given as goal

-- the headings so far, and the others numbered from the next number on
abbrev pub invariant-loop-heading : goal.invariant-loop-heading
invariant-loop-heading l = record {
  whole : l.made.items ++ numbered l.all l.next (drop l.heading-index l.headings) ≡ numbered l.all 0 l.headings;
  count : length l.made.items ≡ l.heading-index;
  few : l.next ≤ l.heading-index;
}
