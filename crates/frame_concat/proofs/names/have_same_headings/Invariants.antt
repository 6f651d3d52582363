use Rattle.{
  frame_parts.proofs.Common.{◌≡◌, drop, list_all, pointwise},
  frame_concat.specs.Parts.{same_heading},
}
use Rattle.frame_concat.proofs.names.have_same_headings.Given as goal

abbrev pub invariant-loop-other : goal.invariant-loop-other
invariant-loop-other l = list_all (λ t. pointwise same_heading l.first.headings t.headings) (drop l.other-index l.others) ≡ list_all (λ t. pointwise same_heading l.first.headings t.headings) l.others
