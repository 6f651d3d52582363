use Rattle.column_core.proofs.cells.Common.{◌≡◌, take}
use Rattle.group_by.proofs.cells.column_of.Given as goal

-- the cells so far
abbrev pub invariant-loop-cell : goal.invariant-loop-cell
invariant-loop-cell l = l.column ≡ record { kind = l.fn.kind; cells = take l.cell-index l.cells }
