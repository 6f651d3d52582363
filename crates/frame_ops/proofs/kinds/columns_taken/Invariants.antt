use Rattle.{
  frame_parts.{proofs.Common.{◌≡◌, drop, list_all}, specs.form.Infix.{takes_twice}},
  column_operators.specs.Tasks.{operator_of},
}
use Rattle.frame_ops.proofs.kinds.columns_taken.Given as goal

abbrev pub invariant-loop-place : goal.invariant-loop-place
invariant-loop-place l = list_all (takes_twice (operator_of l.op)) (drop l.place l.frame.columns) ≡ list_all (takes_twice (operator_of l.op)) l.frame.columns
