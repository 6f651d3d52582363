-- Tables of some rows of another one.
use Rattle.{
  frame_parts.proofs.Common.{◌≡◌, ◌∙◌, ap, arith, ℕ, zero, suc, ◌+◌, ◌-◌, ◌<◌, ◌≤◌, ℤ, pos, negsuc, Bool, true, false, List, [], ◌∷◌, ◌++◌, map, length, take, slice_index_or, All, Option, Some, Result, Ok, length-map, take_all, length-range_with_len, list_all, range_with_len, Cell, Rows, get_or-tabulate, na_cell, FaultValue, Text, IsSettled, ColumnOf, NumberedTable, Table, row_of, column_at, table_value, tuple_value, Entry, table, limited, within_limits, table_or, HeadingList, columns_value, Makes, OpFault},
  column_core.proofs.cells.Common.{min, div_ceil, int_eq, is_present},
  multi_index.{specs.pick.{Positions.{rows_before}, Rows.{rows_of, rows_where}}, proofs.pick.{InsideLaws.{rows_inside}, RowLaws.{rows_more_yes, rows_more_no}}},
  frame_select.{specs.{select.Select.{rows_taken}, Chosen.{chosen}}, proofs.{PickedLaws.{listed_is, read_is}, TakenLaws.{chosen_rows, chosen_settled}, AnswerLaws.{own_name, own_labels}}},
  frame_labels.{specs.method.Rows.{head_result, tail_result, cells_by_row, all_places}, proofs.{RowLaws.{cells_in, by_rows}, TableLaws.{limited_within}}},
  frame_methods.specs.Rows.{complete},
}

-- rows side by side, from one on
abbrev pub run : ℕ → ℕ → Rows
run start count = record { start = start; step = pos 1; count = count }

same_run : (start start' count count' : ℕ) → start ≡ start' → count ≡ count' → run start count ≡ run start' count'
same_run _ _ _ _ s c = search

abbrev pub run_result : Table → Rows → Result Entry FaultValue
run_result t rows = limited (rows_taken t (rows_of rows))

-- `iloc[:n]`
pub first_meant : (t : Table) (n : ℤ) (count : ℕ) → count ≡ rows_before (length t.labels) n → run_result t (run 0 count) ≡ head_result t n
first_meant = grind (arith, same_run)

above_zero : (n : ℕ) → int_eq (pos (suc n)) (pos 0) ≡ false
above_zero = grind arith

-- `iloc[-n:]`
pub last_meant : (t : Table) (n : ℤ) (count : ℕ) → count ≡ rows_before (length t.labels) n → run_result t (run (length t.labels - count) count) ≡ tail_result t n
last_meant t (pos zero) _ is = grind arith
last_meant t (pos (suc n)) count is =
    let all = length t.labels in
    let first : all - count ≡ all - suc n = omega (arith, is) in
    let steps : count ≡ div_ceil (all - (all - suc n)) 1 = grind arith in
    cc (first, steps, above_zero n)
last_meant t (negsuc n) count is =
    let all = length t.labels in
    let first : all - count ≡ min (suc n) all = omega (arith, is) in
    let steps : count ≡ div_ceil (all - min (suc n) all) 1 = grind arith in
    grind (arith, same_run (all - count) (min (suc n) all) count (div_ceil (all - min (suc n) all) 1) first steps)

-- the rows of an object that is read
pub rows_read : (texts : List Text) (object : Option NumberedTable) (source : NumberedTable) (count : ℕ) → object ≡ Some source → count ≡ length source.labels → count ≡ length (table_value texts (table_or object)).labels
rows_read = grind (arith, read_is, length-map)

-- the table of these rows
abbrev own_headings : NumberedTable → HeadingList
own_headings t = record { columns_name = t.columns_name; labels = t.headings }

pub rows_made : (texts : List Text) (t made : NumberedTable) (headings : HeadingList) (rows columns : List ℕ) → headings ≡ own_headings t → columns ≡ range_with_len 0 (length t.columns)
    → made ≡ chosen t.shape headings rows columns t → within_limits (length rows) (length t.columns) ≡ true → IsSettled table_value texts t
    → Makes texts (Ok made) (limited (rows_taken (table_value texts t) rows))
rows_made texts t _ headings rows columns named all is within settled = (
  limited_within _ _ _ (length-map rows _) (search length-map) within
      ∙ ap (λ v. Ok (table v)) (cc (chosen_rows texts headings rows columns t named all)),
  rw is
      (search (chosen_settled, own_name, own_labels)),
)

pub makes_so : (texts : List Text) (r : Result NumberedTable OpFault) (meant meant' : Result Entry FaultValue) → meant ≡ meant' → Makes texts r meant → Makes texts r meant'
makes_so = grind arith

pub all_columns_are : (t : Table) → map (column_at t.columns) (all_places t) ≡ t.columns
all_columns_are t = listed_is t.columns _

pub row_there : (t : Table) (row : ℕ) → row < length t.labels → slice_index_or (cells_by_row t (all_places t)) row [] ≡ (row_of na_cell t row).cells
row_there t row lt = cc (by_rows t (all_places t), get_or-tabulate (length t.labels) (cells_in t (all_places t)) row [] lt, all_columns_are t)

-- a row is whole if its cells in the columns from one on are
abbrev pub whole_in : List Text → ℕ → List (ColumnOf Cell) → Bool
whole_in texts row columns = list_all is_present (map (λ c. slice_index_or c.cells row na_cell) (columns_value texts columns))

-- the complete rows so far
abbrev pub complete_before : Table → ℕ → List ℕ
complete_before t row = rows_where (list_all is_present) 0 (take row (cells_by_row t (all_places t)))

rows_counted : (t : Table) → length (cells_by_row t (all_places t)) ≡ length t.labels
rows_counted = search (by_rows, length-map, length-range_with_len)

pub complete_more : (t : Table) (row : ℕ) (rows rows' : List ℕ) → row < length t.labels → rows ≡ complete_before t row → list_all is_present (row_of na_cell t row).cells ≡ true → rows' ≡ rows ++ row ∷ []
    → rows' ≡ complete_before t (row + 1)
complete_more = grind (arith, rows_counted, rows_more_yes, row_there)

pub complete_same : (t : Table) (row : ℕ) (rows : List ℕ) → row < length t.labels → rows ≡ complete_before t row → list_all is_present (row_of na_cell t row).cells ≡ false → rows ≡ complete_before t (row + 1)
complete_same = grind (arith, rows_counted, rows_more_no, row_there)

pub complete_all : (t : Table) (row : ℕ) (rows : List ℕ) → length t.labels ≤ row → rows ≡ complete_before t row → rows ≡ complete t
complete_all = grind (arith, rows_counted, take_all)

pub complete_below : (texts : List Text) (t : NumberedTable) (rows : List ℕ) → rows ≡ complete (table_value texts t) → All (λ row. row < length t.labels) rows
complete_below texts t _ is =
    let T = table_value texts t in
    grind (arith, rows_counted T, length-map t.labels (tuple_value texts), rows_inside (list_all is_present) (cells_by_row T (all_places T)))
