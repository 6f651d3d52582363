use Rattle.column_core.proofs.cells.Common.{◌≡◌, take}
use Rattle.merge_concat.proofs.beside.tuples_of.Given as goal

-- the tuples so far
abbrev pub invariant-loop-row : goal.invariant-loop-row
invariant-loop-row l = l.tuples ≡ take l.row l.axis.tuples
