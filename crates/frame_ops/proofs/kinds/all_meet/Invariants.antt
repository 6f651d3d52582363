use Rattle.{
  frame_parts.proofs.Common.{◌≡◌, drop, list_all},
  column_operators.specs.Tasks.{operator_of},
  frame_ops.specs.Pairs.{kinds_meet, pairs_from},
}
use Rattle.frame_ops.proofs.kinds.all_meet.Given as goal

abbrev pub invariant-loop-place : goal.invariant-loop-place
invariant-loop-place l = list_all (kinds_meet (operator_of l.op)) (pairs_from l.other l.place (drop l.place l.on.columns)) ≡ list_all (kinds_meet (operator_of l.op)) (pairs_from l.other 0 l.on.columns)
