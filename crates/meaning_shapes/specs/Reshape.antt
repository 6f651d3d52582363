-- Labels that become columns, and columns whose cells become rows.
use Rattle.std.specs.Prelude.{ℕ, Bool, List, [], ◌∷◌, ◌++◌, map, length, slice_index_or, Option, Some, None, option_map, Result, Ok, Err, if◌then◌else◌}
use Rattle.std.specs.List.{flat_map, zip, range_with_len}
use Rattle.meaning_join.specs.cells.Cell.{CellValue, na_cell}
use Rattle.meaning_join.specs.cells.Column.{ColumnValue}
use Rattle.meaning_join.specs.tables.Valid.{within_limits}
use Rattle.meaning_join.specs.align.Joins.{keys_in_order}
use Rattle.meaning_join.specs.align.Targets.{first_repeated, rows_of_targets}
use Rattle.meaning_join.specs.Concat.{ConcatRefusal, column_below, column_within_limit, rows_concatenated}

-- the labels of each row: those that stay, and then that which becomes a column's
abbrev pub entries : {A : Type 0} → List (List A) → List (List A) → List (List A)
entries rest spread = map (λ row. row.0 ++ row.1) (zip rest spread)

-- each key with each label, key by key over the labels
abbrev pub every_entry : {A : Type 0} → List (List A) → List (List A) → List (List A)
every_entry keys labels = flat_map (λ key. map (λ label. key ++ label) labels) keys

-- the keys of rows, the labels of columns, and row by row over the columns the row that a cell comes from, if there is one
pub record SpreadOf (A : Type 0) : Type 0 where
  pub rows : List (List A)
  pub columns : List (List A)
  pub places : List (Option ℕ)

-- each key once and each label once, in order; where they meet stands the one row that has both
abbrev pub spread_out : {A : Type 0} → (List A → List A → Bool) → (List A → List A → Bool) → List (List A) → List (List A) → SpreadOf A
spread_out same less rest spread =
    let rows = keys_in_order same less rest in
    let columns = keys_in_order same less spread in
    record { rows = rows; columns = columns; places = rows_of_targets same (entries rest spread) (every_entry rows columns) }

-- why labels don't become columns
pub data UnstackRefusal (K : Type 0) : Type 0 where
  -- two rows have the same labels
  duplicate_entry : K → UnstackRefusal K
  -- there are more rows, columns or cells than a table may have
  too_large : UnstackRefusal K

abbrev pub spread_within_limits : {A K : Type 0} → SpreadOf A → Result (SpreadOf A) (UnstackRefusal K)
spread_within_limits s = if within_limits (length s.rows) (length s.columns) then Ok s else Err too_large

abbrev pub unless_twice : {A K : Type 0} → Option K → Result A (UnstackRefusal K) → Result A (UnstackRefusal K)
unless_twice None answer = answer
unless_twice (Some entry) answer = Err (duplicate_entry entry)

-- `series.unstack()`: labels of one level become columns; labels that two rows have are refused, the first such ones
abbrev pub unstacked : {A : Type 0} → (List A → List A → Bool) → (List A → List A → Bool) → List (List A) → List (List A) → Result (SpreadOf A) (UnstackRefusal (List A))
unstacked same less rest spread = unless_twice (first_repeated same (entries rest spread)) (spread_within_limits (spread_out same less rest spread))

-- the cell of each column in a row
abbrev pub cells_of_row : List ColumnValue → ℕ → List CellValue
cells_of_row columns row = map (λ column. slice_index_or column.cells row na_cell) columns

-- how many rows columns of one length have
abbrev pub count_of_rows : List ColumnValue → ℕ
count_of_rows [] = 0
count_of_rows (column ∷ columns) = length column.cells

-- the cells of columns of one length, row after row
abbrev pub cells_by_row : List ColumnValue → List CellValue
cells_by_row columns = flat_map (cells_of_row columns) (range_with_len 0 (count_of_rows columns))

-- in a column of the kind that all have
abbrev pub column_by_row : List ColumnValue → Option ColumnValue
column_by_row columns = option_map (λ below. record { kind = below.kind; cells = cells_by_row columns }) (column_below columns)

-- `frame.stack()`: the cells of columns of one kind, row after row
abbrev pub stacked : {K : Type 0} → List ColumnValue → Result ColumnValue (ConcatRefusal K)
stacked columns = column_within_limit (column_by_row columns)

-- `frame.melt()`: the cells of columns of one kind, column after column
abbrev pub melted : {K : Type 0} → List ColumnValue → Result ColumnValue (ConcatRefusal K)
melted columns = rows_concatenated columns
