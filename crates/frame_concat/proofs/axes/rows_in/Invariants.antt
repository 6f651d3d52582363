use Rattle.{
  frame_parts.proofs.Common.{◌≡◌, ◌≤◌, take},
  frame_concat.specs.Columns.{rows_in},
}
use Rattle.frame_concat.proofs.axes.rows_in.Given as goal

-- the rows so far, which are few
abbrev pub invariant-loop-part : goal.invariant-loop-part
invariant-loop-part l = record {
  count : l.count ≡ rows_in (take l.part-index l.parts);
  fits : l.count ≤ 67108864;
}
