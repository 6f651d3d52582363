use Rattle.{
  frame_parts.proofs.Common.{◌≡◌, drop},
  frame_concat.specs.Headings.{held_by_all},
}
use Rattle.frame_concat.proofs.headings.held_by_all.Given as goal

-- what is left says what all say
abbrev pub invariant-loop-part : goal.invariant-loop-part
invariant-loop-part l = held_by_all (drop l.part-index l.parts) l.heading ≡ held_by_all l.parts l.heading
