use Rattle.frame_parts.proofs.Common.{◌≡◌, take, flat_map}
use Rattle.frame_concat.proofs.headings.gathered.Given as goal

-- the headings of the parts so far
abbrev pub invariant-loop-part : goal.invariant-loop-part
invariant-loop-part l = l.made.items ≡ flat_map (λ t. t.headings) (take l.part-index l.parts)
