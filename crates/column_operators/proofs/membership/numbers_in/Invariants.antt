use Rattle.{
  column_core.proofs.cells.Common.{◌≡◌, ◌++◌, drop},
  column_operators.specs.Marks.{numbers_among},
}
use Rattle.column_operators.proofs.membership.numbers_in.Given as goal

-- the numbers so far, before the others
abbrev pub invariant-loop-cell : goal.invariant-loop-cell
invariant-loop-cell l = l.numbers.items ++ numbers_among (drop l.cell-index l.cells) ≡ numbers_among l.cells
