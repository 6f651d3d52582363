-- What is selected from a table.
use Rattle.std.specs.Prelude.{ℕ, nat_lt, ◌&&◌, Bool, true, false, List, [], ◌∷◌, map, slice_index_or, length, drop, Option, Some, None, Result, Ok, Err, if◌then◌else◌}
use Rattle.std.specs.List.{list_all}
use Rattle.meaning_form.specs.cell_core.declared.grid.Shape.{Shape}
use Rattle.meaning_form.specs.cell_core.declared.grid.Shape.TheVariants.{Series, Frame}
use Rattle.meaning_form.specs.cell_core.declared.cell.Kind.{Kind}
use Rattle.meaning_form.specs.cell_core.declared.cell.Kind.TheVariants.{Int64}
use Rattle.meaning_form.specs.cells.Cell.{CellValue, na_cell, LabelValue}
use Rattle.meaning_form.specs.cells.Symbol.{Accessor, loc}
use Rattle.meaning_form.specs.cells.Fault.{FaultValue, wrong_kind, then_value}
use Rattle.meaning_form.specs.tables.Table.{ColumnOf, Table, column_at}
use Rattle.meaning_form.specs.tables.Value.{Entry, cell, table, GivenSub, one, row, many, key_given}
use Rattle.meaning_form.specs.Given.{each, is_scalar, is_truth}
use Rattle.meaning_form.specs.Finish.{limited, same_kind, across_columns}
use Rattle.meaning_form.specs.Select.{columns_frame, cells_of}
use Rattle.meaning_select.specs.Keys.{Reach, reach_of, reach_by, mask_pick, loc_columns, all_rows_of, all_columns}

-- the cells of a column at these rows, and the table of these rows and columns
abbrev pub column_rows : List ℕ → ColumnOf CellValue → ColumnOf CellValue
column_rows rows c = record { kind = c.kind; cells = map (λ row. slice_index_or c.cells row na_cell) rows }

abbrev pub rows_taken : Table → List ℕ → Table
rows_taken t rows = record t { labels = map (λ row. slice_index_or t.labels row []) rows; columns = map (column_rows rows) t.columns }

abbrev pub cut : Table → List ℕ → List ℕ → Table
cut t rows places = rows_taken (columns_frame t places) rows

-- a table without so many of its leading levels
abbrev pub without_leading : ℕ → Table → Table
without_leading count t = record t { level_names = drop count t.level_names; labels = map (drop count) t.labels }

-- one column of a table, with its label as the name
abbrev pub as_series : Table → Table
as_series t = record t { shape = Series; columns_name = None }

-- the label of a row as a name: none where the axis has several levels
abbrev pub row_name : List LabelValue → Option LabelValue
row_name (l ∷ []) = Some l
row_name tuple = None

-- the first cell of a column
abbrev pub first_cell : ColumnOf CellValue → CellValue
first_cell c = slice_index_or c.cells 0 na_cell

-- the kind of the first column, or whole numbers without a column
abbrev pub kind_across : List (ColumnOf CellValue) → Kind
kind_across [] = Int64
kind_across (c ∷ cs) = c.kind

-- a table of one row, whose cells are of a kind, as a Series over the labels of its columns
abbrev pub row_series : Table → Kind → Table
row_series t kind = across_columns t (row_name (slice_index_or t.labels 0 [])) kind (map first_cell t.columns)

-- the one kind of columns, which must be of one
abbrev pub one_kind : List (ColumnOf CellValue) → Result Kind FaultValue
one_kind columns = if list_all (λ c. same_kind c.kind (kind_across columns)) columns then Ok (kind_across columns) else Err wrong_kind

abbrev pub row_result : Table → Result Entry FaultValue
row_result t = then_value (one_kind t.columns) (λ kind. limited (row_series t kind))

-- what is picked, by whether the rows and the columns are single: a scalar, a column's rows, a row across the columns, or a table
abbrev pub shown_as : Bool → Bool → Table → Result Entry FaultValue
shown_as true true t = Ok (cell (first_cell (column_at t.columns 0)))
shown_as false true t = limited (as_series t)
shown_as true false t = row_result t
shown_as false false t = limited t

-- the rows of a key of fewer labels than levels lose the levels that it names
abbrev pub picked_result : Table → Reach → Result Entry FaultValue
picked_result t reach = shown_as reach.rows.single reach.columns.single (without_leading reach.rows.dropped (cut t reach.rows.rows reach.columns.rows))

-- what brackets reach in a frame: the columns of a label or of a list of labels, as in `loc`, or the rows of a mask
abbrev pub column_reach : Table → GivenSub → Result Reach FaultValue
column_reach t k = reach_of (Ok (all_rows_of t)) (loc_columns t k)

abbrev pub mask_reach : Table → Table → Result Reach FaultValue
mask_reach t m = reach_of (mask_pick t m) (Ok (all_columns t))

abbrev pub frame_reach : Table → GivenSub → Result Reach FaultValue
frame_reach t (key_given (one (cell c))) = column_reach t (key_given (one (cell c)))
frame_reach t (key_given (one (table m))) = mask_reach t m
frame_reach t (key_given (many parts)) = column_reach t (key_given (many parts))
frame_reach t k = Err wrong_kind

-- of a Series, brackets alone are `loc`; of a frame they take one key
abbrev pub item_reach : Shape → Table → GivenSub → Option GivenSub → Result Reach FaultValue
item_reach Series t first second = reach_by Series loc t first second
item_reach Frame t first None = frame_reach t first
item_reach Frame t first (Some second) = Err wrong_kind

-- a list of truth values alone, and at least one, is no key in brackets
abbrev pub are_truths : List CellValue → Bool
are_truths cells = nat_lt 0 (length cells) && list_all is_truth cells

abbrev pub is_truth_list : GivenSub → Bool
is_truth_list (key_given (many parts)) = each is_scalar parts && are_truths (cells_of parts)
is_truth_list k = false

-- what stands before the subscripts: brackets alone, or an accessor
pub data Way : Type 0 where
  plain : Way
  through : Accessor → Way

abbrev pub way_reach : Way → Table → GivenSub → Option GivenSub → Result Reach FaultValue
way_reach plain t first second = if is_truth_list first then Err wrong_kind else item_reach t.shape t first second
way_reach (through by) t first second = reach_by t.shape by t first second

-- a scalar takes no subscript
abbrev pub select_result : Entry → Way → GivenSub → Option GivenSub → Result Entry FaultValue
select_result (cell c) way first second = Err wrong_kind
select_result (table t) way first second = then_value (way_reach way t first second) (picked_result t)
