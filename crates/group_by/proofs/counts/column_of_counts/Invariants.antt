use Rattle.{
  column_core.proofs.cells.Common.{map, take},
  factorize.specs.group.Reductions.{count_cell},
  group_by.specs.Counted.{AreNumbers},
}
use Rattle.group_by.proofs.counts.column_of_counts.Given as goal

-- the numbers so far
abbrev pub invariant-loop-count : goal.invariant-loop-count
invariant-loop-count l = AreNumbers l.column (λ texts. map count_cell (take l.count-index l.counts))
