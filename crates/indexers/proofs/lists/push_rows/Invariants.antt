use Rattle.column_core.proofs.cells.Common.{◌≡◌, ◌++◌, take}
use Rattle.indexers.proofs.lists.push_rows.Given as goal

-- the rows so far
abbrev pub invariant-loop-row : goal.invariant-loop-row
invariant-loop-row l = l.places ≡ l.fn.places ++ take l.row-index l.rows
