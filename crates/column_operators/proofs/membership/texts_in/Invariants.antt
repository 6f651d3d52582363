use Rattle.{
  column_core.proofs.cells.Common.{◌≡◌, ◌++◌, drop},
  column_operators.specs.Marks.{texts_among},
}
use Rattle.column_operators.proofs.membership.texts_in.Given as goal

-- the texts so far, before the others
abbrev pub invariant-loop-cell : goal.invariant-loop-cell
invariant-loop-cell l = l.texts.items ++ texts_among (drop l.cell-index l.cells) ≡ texts_among l.cells
