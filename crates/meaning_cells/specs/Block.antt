-- Columns of one length, cell by cell, and rows of equal distance.
use Rattle.std.specs.Prelude.{ℕ, ◌+◌, ◌*◌, List, [], replicate, slice_index_or, slice_set}
use Rattle.cell_core.specs.declared.grid.Rows.{Rows}
use Rattle.cell_core.specs.Grids.{place_from}
use Rattle.meaning_cells.specs.Column.{tabulate}

-- the cells at these places
abbrev pub strided : {C : Type 0} → C → List C → Rows → List C
strided na cells rows = tabulate rows.count (λ row. slice_index_or cells (place_from rows.start rows.step row) na)

-- columns of which each cell is this one
abbrev pub filled_with : {C : Type 0} → C → ℕ → ℕ → List (List C)
filled_with c columns rows = replicate columns (replicate rows c)

-- the columns with another cell at a column and a row
abbrev pub with_cell : {C : Type 0} → List (List C) → ℕ → ℕ → C → List (List C)
with_cell columns column row c = slice_set columns column (slice_set (slice_index_or columns column []) row c)

-- cells one after another as so many columns of so many rows
abbrev pub in_columns : {C : Type 0} → C → List C → ℕ → ℕ → List (List C)
in_columns na cells columns rows = tabulate columns (λ column. tabulate rows (λ row. slice_index_or cells (column * rows + row) na))
