use Rattle.{
  column_core.proofs.cells.Common.{◌≡◌, drop},
  merge_concat.specs.Codes.{repeated_from},
}
use Rattle.merge_concat.proofs.repeats.first_repeat.Given as goal

-- none repeats so far
abbrev pub invariant-loop-row : goal.invariant-loop-row
invariant-loop-row l = repeated_from l.side.codes.now l.row (drop l.row l.side.codes.now) ≡ repeated_from l.side.codes.now 0 l.side.codes.now
