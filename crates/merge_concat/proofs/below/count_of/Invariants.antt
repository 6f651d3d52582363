use Rattle.{
  column_core.proofs.cells.Common.{◌≡◌, ◌≤◌, take},
  merge_concat.specs.Parts.{count_below},
}
use Rattle.merge_concat.proofs.below.count_of.Given as goal

-- the cells so far are few
abbrev pub invariant-loop-part : goal.invariant-loop-part
invariant-loop-part l = record {
  count : l.count ≡ count_below (take l.part-index l.parts);
  fits : l.count ≤ 67108864;
}
