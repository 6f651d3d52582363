use Rattle.{
  frame_parts.proofs.Common.{◌≡◌, drop, list_all},
  frame_ops.specs.Fitting.{is_of_kind},
}
use Rattle.frame_ops.proofs.fitting.all_of_kind.Given as goal

abbrev pub invariant-loop-place : goal.invariant-loop-place
invariant-loop-place l = list_all (is_of_kind l.kind) (drop l.place l.frame.columns) ≡ list_all (is_of_kind l.kind) l.frame.columns
