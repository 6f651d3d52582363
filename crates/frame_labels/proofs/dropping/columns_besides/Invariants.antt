use Rattle.{
  frame_parts.proofs.Common.{◌≡◌, not, filter, list_any, range_with_len},
  frame_select.specs.{Headings.{same_heading}, Selected.{heading_of}},
}
use Rattle.frame_labels.proofs.dropping.columns_besides.Given as goal

-- the columns so far
abbrev pub invariant-loop-place : goal.invariant-loop-place
invariant-loop-place l = l.kept ≡ filter (λ place. not (list_any (same_heading (heading_of l.on place)) l.labels.keys)) (range_with_len 0 l.place)
