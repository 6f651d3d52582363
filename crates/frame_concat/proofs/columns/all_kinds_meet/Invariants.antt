use Rattle.{
  frame_parts.proofs.Common.{◌≡◌, drop},
  frame_concat.specs.Columns.{all_kinds_meet},
}
use Rattle.frame_concat.proofs.columns.all_kinds_meet.Given as goal

abbrev pub invariant-loop-sought : goal.invariant-loop-sought
invariant-loop-sought l = all_kinds_meet l.parts (drop l.sought-index l.columns) ≡ all_kinds_meet l.parts l.columns
