-- Columns: cells of one kind, and what is made of them row by row.
use Rattle.std.specs.Prelude.{ℕ, suc, ◌+◌, ◌-◌, ℤ, pos, negsuc, List, [], ◌∷◌, map, length, nat_lt, slice_index_or, Option, Some, None, Result, Ok, Err, if◌then◌else◌}
use Rattle.std.specs.List.{range_with_len}
use Rattle.cell_core.specs.declared.cell.Kind.{Kind}
use Rattle.meaning_cells.specs.Cell.{CellValue}

pub record ColumnValue : Type 0 where
  pub kind : Kind
  pub cells : List CellValue

-- why no column is made: kinds that don't fit, the first row with a zero divisor, or the first row that can't be cast
pub data ColumnFault : Type 0 where
  kind_mismatch : ColumnFault
  zero_division : ℕ → ColumnFault
  not_cast : ℕ → ColumnFault

-- a row before the others; or the number of the first row that is refused
abbrev pub before_rows : {C : Type 0} → C → Result (List C) ℕ → Result (List C) ℕ
before_rows c (Ok rest) = Ok (c ∷ rest)
before_rows c (Err row) = Err row

abbrev pub then_rows : {C : Type 0} → Option C → ℕ → Result (List C) ℕ → Result (List C) ℕ
then_rows None row rest = Err row
then_rows (Some c) row rest = before_rows c rest

-- what f makes of each, or the number of the first that it refuses; the numbers begin at row
abbrev pub try_each : {A C : Type 0} → (A → Option C) → ℕ → List A → Result (List C) ℕ
try_each f row [] = Ok []
try_each f row (x ∷ xs) = then_rows (f x) row (try_each f (suc row) xs)

-- what f makes of each two that stand side by side, or the number of the first two that it refuses
abbrev pub try_pairs : {A B C : Type 0} → (A → B → Option C) → ℕ → List A → List B → Result (List C) ℕ
try_pairs f row (x ∷ xs) (y ∷ ys) = then_rows (f x y) row (try_pairs f (suc row) xs ys)
try_pairs f row xs ys = Ok []

-- a column of the kind with these cells, or the fault of the row
abbrev pub column_of : Kind → (ℕ → ColumnFault) → Result (List CellValue) ℕ → Result ColumnValue ColumnFault
column_of kind refuse (Ok cells) = Ok record { kind = kind; cells = cells }
column_of kind refuse (Err row) = Err (refuse row)

-- the column where there is a kind, or the fault of the row; else the kinds don't fit
abbrev pub column_if : Option Kind → (ℕ → ColumnFault) → Result (List CellValue) ℕ → Result ColumnValue ColumnFault
column_if None refuse made = Err kind_mismatch
column_if (Some kind) refuse made = column_of kind refuse made

-- the values of a function of the row
abbrev pub tabulate : {C : Type 0} → ℕ → (ℕ → C) → List C
tabulate count f = map f (range_with_len 0 count)

-- row i of a shifted column is row i - periods, or missing where there is no such row
abbrev pub shifted_row : {C : Type 0} → C → List C → ℤ → ℕ → C
shifted_row na cells (pos n) i = if nat_lt i n then na else slice_index_or cells (i - n) na
shifted_row na cells (negsuc n) i = slice_index_or cells (i + suc n) na

abbrev pub shifted : {C : Type 0} → C → List C → ℤ → List C
shifted na cells periods = tabulate (length cells) (shifted_row na cells periods)

-- the cell at a place, or a missing one at a gap
abbrev pub gap_cell : {C : Type 0} → C → List C → Option ℕ → C
gap_cell na cells None = na
gap_cell na cells (Some place) = slice_index_or cells place na

-- the cells at these places, in their order
abbrev pub taken : {C : Type 0} → C → List C → List (Option ℕ) → List C
taken na cells gaps = map (gap_cell na cells) gaps
