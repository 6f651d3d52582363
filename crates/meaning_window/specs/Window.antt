-- Windows over the rows of a column of whole numbers.
use Rattle.std.specs.Prelude.{ℕ, ◌+◌, ◌-◌, Bool, true, false, nat_lt, List, map, length, take, drop, filter, slice_index_or, Result, Ok, Err, if◌then◌else◌}
use Rattle.std.specs.List.{range_with_len}
use Rattle.meaning_cells.specs.cell_core.declared.cell.Kind.{Kind}
use Rattle.meaning_cells.specs.cell_core.declared.cell.Kind.TheVariants.{Int64}
use Rattle.meaning_cells.specs.Cell.{CellValue, na_cell}
use Rattle.meaning_cells.specs.Column.{ColumnValue, ColumnFault, kind_mismatch, tabulate}
use Rattle.meaning_cells.specs.Cumulate.{Cumulation, cumulation_cell}
use Rattle.meaning_cells.specs.Reduce.{present}

-- the rows of the window of size n that ends in this row: each j from 0 on with row - n < j and j ≤ row
abbrev pub window_rows : ℕ → ℕ → List ℕ
window_rows n row = filter (λ j. nat_lt row (j + n)) (range_with_len 0 (row + 1))

abbrev pub window_cells : ℕ → List CellValue → ℕ → List CellValue
window_cells n cells row = map (λ j. slice_index_or cells j na_cell) (window_rows n row)

-- the last so many of them, or all where there are fewer: what the window of the last row is
abbrev pub last : {C : Type 0} → ℕ → List C → List C
last n cells = drop (length cells - n) cells

-- what a window with these cells comes to: the sum, the least or the greatest of the present ones; missing where there are too few
abbrev pub window_answer : ℕ → Cumulation → List CellValue → CellValue
window_answer min_periods op cells = if nat_lt (length (present cells)) min_periods then na_cell else cumulation_cell op cells

-- at each row what its window comes to
abbrev pub rolled : ℕ → ℕ → Cumulation → List CellValue → List CellValue
rolled n min_periods op cells = tabulate (length cells) (λ row. window_answer min_periods op (window_cells n cells row))

-- at each row what all cells up to it come to
abbrev pub expanded : ℕ → Cumulation → List CellValue → List CellValue
expanded min_periods op cells = tabulate (length cells) (λ row. window_answer min_periods op (take (row + 1) cells))

-- windows are over whole numbers
abbrev pub windows_take : Kind → Bool
windows_take Int64 = true
windows_take kind = false

abbrev pub rolled_column : ℕ → ℕ → Cumulation → ColumnValue → Result ColumnValue ColumnFault
rolled_column n min_periods op a = if windows_take a.kind then Ok record { kind = Int64; cells = rolled n min_periods op a.cells } else Err kind_mismatch

abbrev pub expanded_column : ℕ → Cumulation → ColumnValue → Result ColumnValue ColumnFault
expanded_column min_periods op a = if windows_take a.kind then Ok record { kind = Int64; cells = expanded min_periods op a.cells } else Err kind_mismatch
