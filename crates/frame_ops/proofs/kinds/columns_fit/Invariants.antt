use Rattle.{
  frame_parts.proofs.Common.{◌≡◌, drop, list_all},
  column_operators.specs.Tasks.{operator_of},
  frame_ops.specs.{declared.other.Other.TheVariants.{Beside}, Pairs.{kinds_meet, pairs_from}},
}
use Rattle.frame_ops.proofs.kinds.columns_fit.Given as goal

abbrev pub invariant-loop-place : goal.invariant-loop-place
invariant-loop-place l = list_all (kinds_meet (operator_of l.op)) (pairs_from (Beside l.b) l.place (drop l.place l.a.columns)) ≡ list_all (kinds_meet (operator_of l.op)) (pairs_from (Beside l.b) 0 l.a.columns)
