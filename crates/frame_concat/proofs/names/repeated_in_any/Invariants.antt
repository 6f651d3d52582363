use Rattle.{
  frame_parts.proofs.Common.{◌≡◌, drop},
  frame_concat.specs.Parts.{repeated_in_any},
}
use Rattle.frame_concat.proofs.names.repeated_in_any.Given as goal

abbrev pub invariant-loop-part : goal.invariant-loop-part
invariant-loop-part l = repeated_in_any (drop l.part-index l.parts) ≡ repeated_in_any l.parts
