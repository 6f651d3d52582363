use Rattle.{
  frame_parts.proofs.Common.{◌≡◌, take},
  frame_concat.specs.Headings.{common_headings},
}
use Rattle.frame_concat.proofs.headings.common_headings.Given as goal

-- the headings so far that all have
abbrev pub invariant-loop-heading : goal.invariant-loop-heading
invariant-loop-heading l = l.made.items ≡ common_headings (take l.heading-index l.first.headings) l.others
