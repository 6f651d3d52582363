use Rattle.{
  frame_parts.proofs.Common.{◌≡◌, drop, list_all},
  frame_concat.specs.{Parts.{column_sought}, Columns.{fits_kind}},
}
use Rattle.frame_concat.proofs.columns.kinds_meet.Given as goal

abbrev pub invariant-loop-part : goal.invariant-loop-part
invariant-loop-part l =
    list_all (λ t. fits_kind l.kind (column_sought l.sought t)) (drop l.part-index l.parts) ≡ list_all (λ t. fits_kind l.kind (column_sought l.sought t)) l.parts
