use Rattle.{
  frame_parts.proofs.Common.{◌≡◌, take},
  frame_reshape.specs.Groups.{rows_of_groups},
}
use Rattle.frame_reshape.proofs.grouping.first_rows.Given as goal

-- the first rows so far
abbrev pub invariant-loop-k : goal.invariant-loop-k
invariant-loop-k l = l.rows ≡ rows_of_groups l.firsts (take l.k l.groups)
