use Rattle.column_core.proofs.cells.Common.{◌≡◌, length, take, All}
use Rattle.tests_groups.proofs.groups.have_rows.Given as goal

-- the columns so far have so many rows
abbrev pub invariant-loop-column : goal.invariant-loop-column
invariant-loop-column l = All (λ column. length column.cells ≡ l.rows) (take l.column-index l.columns)
