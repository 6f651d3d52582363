use Rattle.{
  column_core.proofs.cells.Common.{◌≡◌, take, map},
  merge_concat.specs.Parts.{whole_of},
}
use Rattle.merge_concat.proofs.below.parts_of.Given as goal

-- the parts so far
abbrev pub invariant-loop-column : goal.invariant-loop-column
invariant-loop-column l = l.parts.items ≡ map whole_of (take l.column-index l.columns)
