-- What is made of a table.
use Rattle.std.specs.Prelude.{ℕ, suc, ◌/◌, ◌%◌, List, [], ◌∷◌, ◌++◌, length, map, remove, slice_set, slice_index, nat_lt, Option, if◌then◌else◌}
use Rattle.meaning_cells.specs.cell_core.declared.grid.Rows.{Rows}
use Rattle.meaning_cells.specs.Block.{strided}
use Rattle.meaning_tables.specs.Table.{ColumnOf, TableOf, column_at}

-- the item at a place is replaced, or comes last where the place is that after the last one
abbrev pub put_at : {X : Type 0} → List X → ℕ → X → List X
put_at xs place x = if nat_lt place (length xs) then slice_set xs place x else xs ++ x ∷ []

-- the column at these rows
abbrev pub strided_column : {C : Type 0} → C → Rows → ColumnOf C → ColumnOf C
strided_column na rows c = record { kind = c.kind; cells = strided na c.cells rows }

-- the columns at these places, at these rows
abbrev pub cut_columns : {C : Type 0} → C → List (ColumnOf C) → Rows → List ℕ → List (ColumnOf C)
cut_columns na columns rows places = map (λ place. strided_column na rows (column_at columns place)) places

-- the table with a column and its heading replaced, or appended last
abbrev pub with_column : {L C : Type 0} → TableOf L C → ℕ → Option L → ColumnOf C → TableOf L C
with_column t place heading column = record t { headings = put_at t.headings place heading; columns = put_at t.columns place column }

-- the table without a column and its heading
abbrev pub without_column : {L C : Type 0} → TableOf L C → ℕ → TableOf L C
without_column t place = record t { headings = remove t.headings place; columns = remove t.columns place }

-- the table with other labels of its rows
abbrev pub with_labels : {L C : Type 0} → TableOf L C → List (List L) → List (Option L) → TableOf L C
with_labels t labels level_names = record t { labels = labels; level_names = level_names }

-- the column with another cell at a row
abbrev pub with_cell_at : {C : Type 0} → ColumnOf C → ℕ → C → ColumnOf C
with_cell_at c row x = record c { cells = slice_set c.cells row x }

-- the columns with another cell at a column and a row
abbrev pub with_cell : {C : Type 0} → List (ColumnOf C) → ℕ → ℕ → C → List (ColumnOf C)
with_cell columns place row x = slice_set columns place (with_cell_at (column_at columns place) row x)

-- The columns with these values, of which the first has the number k. They are given row by row: with n places, value k goes to the column at place k % n and to row k / n. Where a cell is given twice, the later value stays.
abbrev pub with_values_from : {C : Type 0} → ℕ → List (ColumnOf C) → List ℕ → List ℕ → List C → List (ColumnOf C)
with_values_from k columns rows places [] = columns
with_values_from k columns rows places (x ∷ xs) = with_values_from (suc k) (with_cell columns (slice_index places (k % length places)) (slice_index rows (k / length places)) x) rows places xs

-- the table with these values in these columns at these rows
abbrev pub with_values : {L C : Type 0} → TableOf L C → List ℕ → List ℕ → List C → TableOf L C
with_values t rows places values = record t { columns = with_values_from 0 t.columns rows places values }
