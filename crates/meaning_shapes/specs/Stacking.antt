-- What stacking makes of what unstacking gave: a law.
use Rattle.std.specs.Prelude.{◌≡◌, ℕ, Bool, List, map, length, Option, None, option_map, filter_map, All}
use Rattle.std.specs.List.{zip, range_with_len}
use Rattle.meaning_join.specs.cells.Cell.{CellValue, na_cell}
use Rattle.meaning_join.specs.cells.Column.{ColumnValue, gap_cell}
use Rattle.meaning_join.specs.align.Targets.{first_repeated}
use Rattle.meaning_join.specs.align.sorting.Sorting.{in_order}
use Rattle.meaning_shapes.specs.Reshape.{SpreadOf, entries, every_entry, spread_out, cells_by_row}
use Rattle.meaning_shapes.specs.Unstacking.{place_at}

-- the cells of a label, key by key: that of the row that stands there, and a missing one in a gap
abbrev pub column_spread : {A : Type 0} → SpreadOf A → ColumnValue → ℕ → ColumnValue
column_spread made column label = record {
  kind = column.kind;
  cells = map (λ key. gap_cell na_cell column.cells (place_at made.places (length made.columns) key label)) (range_with_len 0 (length made.rows));
}

-- what a column is unstacked to
abbrev pub columns_spread : {A : Type 0} → SpreadOf A → ColumnValue → List ColumnValue
columns_spread made column = map (column_spread made column) (range_with_len 0 (length made.columns))

-- the labels and cells of what is stacked again
abbrev pub stacked_again : {A : Type 0} → SpreadOf A → ColumnValue → List (List A × CellValue)
stacked_again made column = zip (every_entry made.rows made.columns) (cells_by_row (columns_spread made column))

-- those that stand at no gap
abbrev pub without_gaps : {X : Type 0} → List (Option ℕ) → List X → List X
without_gaps places xs = filter_map (λ z. option_map (λ row. z.1) z.0) (zip places xs)

-- law: where no two rows have the same labels, what is unstacked and then stacked is, without its gaps, the Series in the
-- order of its labels
abbrev pub StacksBack : {A : Type 0} → (List A → List A → Bool) → (List A → List A → Bool) → Type 0
StacksBack {A} same less =
    (levels : ℕ) (rest spread : List (List A)) (column : ColumnValue)
    → All (λ key. length key ≡ levels) rest → length spread ≡ length rest → length column.cells ≡ length rest
    → first_repeated same (entries rest spread) ≡ None
    → without_gaps (spread_out same less rest spread).places (stacked_again (spread_out same less rest spread) column)
    ≡ in_order (λ a b. less a.0 b.0) (zip (entries rest spread) column.cells)
