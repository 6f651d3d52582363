use Rattle.{
  frame_parts.proofs.Common.{◌≡◌, drop},
  frame_concat.specs.Columns.{kind_sought},
}
use Rattle.frame_concat.proofs.columns.kind_sought.Given as goal

abbrev pub invariant-loop-part : goal.invariant-loop-part
invariant-loop-part l = kind_sought l.sought (drop l.part-index l.parts) ≡ kind_sought l.sought l.parts
