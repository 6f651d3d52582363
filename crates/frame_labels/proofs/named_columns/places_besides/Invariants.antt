use Rattle.{
  frame_parts.proofs.Common.{◌≡◌, filter, range_with_len},
  frame_labels.proofs.NamedLaws.{is_other},
}
use Rattle.frame_labels.proofs.named_columns.places_besides.Given as goal

-- the other places so far
abbrev pub invariant-loop-place : goal.invariant-loop-place
invariant-loop-place l = l.others ≡ filter (is_other l.places) (range_with_len 0 l.place)
