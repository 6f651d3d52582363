use Rattle.{
  frame_parts.proofs.Common.{◌≡◌, map, take},
  frame_concat.specs.declared.parts.Sought.TheVariants.{Under},
}
use Rattle.frame_concat.proofs.columns.columns_under.Given as goal

abbrev pub invariant-loop-heading : goal.invariant-loop-heading
invariant-loop-heading l = l.columns.items ≡ map Under (take l.heading-index l.headings)
