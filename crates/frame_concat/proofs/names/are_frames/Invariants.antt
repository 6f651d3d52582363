use Rattle.{
  frame_parts.proofs.Common.{◌≡◌, not, drop, list_all},
  meaning_method.specs.Concat.{is_series},
}
use Rattle.frame_concat.proofs.names.are_frames.Given as goal

abbrev pub invariant-loop-part : goal.invariant-loop-part
invariant-loop-part l = list_all (λ t. not (is_series t.shape)) (drop l.part-index l.parts) ≡ list_all (λ t. not (is_series t.shape)) l.parts
