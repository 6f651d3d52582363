use Rattle.{
  frame_parts.proofs.Common.{◌≡◌, ◌<◌, length, All},
  frame_set.proofs.RemoveLaws.{others_below},
}
use Rattle.frame_set.proofs.removing.other_columns.Given as goal

-- the columns with another label so far
abbrev pub invariant-loop-place : goal.invariant-loop-place
invariant-loop-place l = record {
  others : l.others ≡ others_below l.dict l.on.headings l.label l.place;
  inside : All (λ place. place < length l.on.columns) l.others;
}
