-- Columns as the labels of the rows.
use Rattle.{frame_parts.proofs.Common.{zero, suc, ◌≡◌, refl, sym, arith, ℕ, ◌+◌, ◌<◌, ◌≤◌, true, false, List, [], ◌∷◌, ◌++◌, map, length, take, get_or, slice_index_or, All, Some, None, Ok, Err, get_or-map, nat_tests, length-map, map-append, take_more, length-range_with_len, length-map-range_with_len, get_or-map-range_with_len, All-map, get_or_from_slice_get, filter, slice_get, IsSome, range_with_len, Cell, Label, Frame, na_cell, datum, limit, cell_label, Text, AxisValue, HaveLevels, single_tuples, IsSettled, NumberedTable, Table, column_at, table_value, tuple_value, column_value, IsWhole, within_limits, heading_at, label_of, HeadingList, AreColumnsOf, table_with, labels_value, headings_value, Makes, settled_by}, column_core.proofs.{cells.Common.{ext_get_or}, CellRows.{map-map}}, frame_store.specs.Derivations.{CanDerive}, meaning_method.specs.{Rows.{cells_by_row, places_besides}, Levels.{indexed_by, index_set}}, frame_select.{specs.{Across.{cell_across}, Selected.{heading_of, headings_at}}, proofs.{AnswerLaws.{column_seen}, PickedLaws.{one_more_place}, KeyLaws.{label_seen}, PlanLaws.{only_place}, PlaceLaws.{heading_seen}}}, frame_labels.{specs.Levels.{row_labels}, proofs.{RowLaws.{cells_in, by_rows}, NamedLaws.{is_other, others_meant}}}}
use Rattle.cell_core.specs.declared.cell.Cell.TheVariants as cell

cell_seen : (texts : List Text) (t : NumberedTable) (row place : ℕ) → datum texts (cell_across t row place) ≡ slice_index_or (column_at (table_value texts t).columns place).cells row na_cell
cell_seen texts t row place = cc (get_or-map (datum texts) (column_at t.columns place).cells row cell.Na, column_seen texts t.columns place)

row_seen : (texts : List Text) (t : NumberedTable) (places : List ℕ) (row : ℕ) → tuple_value texts (row_labels t places row) ≡ map cell_label (cells_in (table_value texts t) places row)
row_seen texts t places row = simp (map-map, label_seen, cell_seen)

rows_seen : (texts : List Text) (t : NumberedTable) (places rows : List ℕ) → labels_value texts (map (row_labels t places) rows) ≡ map (map cell_label) (map (cells_in (table_value texts t) places) rows)
rows_seen _ t _ [] = refl
rows_seen texts t places (r ∷ rs) = search (row_seen, rows_seen texts t places rs)

abbrev pub all_rows : NumberedTable → List ℕ
all_rows t = range_with_len 0 (length t.labels)

pub tuples_seen : (texts : List Text) (t : NumberedTable) (places : List ℕ) → labels_value texts (map (row_labels t places) (all_rows t)) ≡ map (map cell_label) (cells_by_row (table_value texts t) places)
tuples_seen = grind (arith, rows_seen, cells_in, length-map, by_rows)

pub headings_seen : (texts : List Text) (t : NumberedTable) (places : List ℕ) → headings_value texts (headings_at t places) ≡ map (heading_at (table_value texts t)) places
headings_seen _ t [] = refl
headings_seen texts t (p ∷ ps) = search (heading_seen, headings_seen texts t ps)

pub headings_settled : (texts : List Text) (t : NumberedTable) (places : List ℕ) → IsSettled headings_value texts t.headings → IsSettled headings_value texts (headings_at t places)
headings_settled texts t places = settled_by headings_value headings_value (λ hs. map (λ place. slice_index_or hs place None) places) texts t.headings (headings_at t places) (λ ts. sym (headings_seen ts t places))

columns_seen : (texts : List Text) (t : NumberedTable) (places : List ℕ) → map (column_value texts) (map (column_at t.columns) places) ≡ map (column_at (table_value texts t).columns) places
columns_seen _ t [] = refl
columns_seen texts t (p ∷ ps) = search (column_seen, columns_seen texts t ps)

-- the tuples of the rows
pub labels_count : (t : NumberedTable) (places : List ℕ) (row : ℕ) → length (row_labels t places row) ≡ length places
labels_count = search length-map

pub rows_alike : (t : NumberedTable) (places rows : List ℕ) (tuples : List (List Label)) → tuples ≡ map (row_labels t places) rows → HaveLevels (length places) tuples
rows_alike t places rows _ is = rw is (All-map (λ tuple. length tuple ≡ length places) (row_labels t places) rows (λ k d lt. labels_count t places _))

-- one label more
pub one_more_label : (cells : List Cell) (row : ℕ) (c : Cell) (l : Label) (before after : List Label) → row < length cells → slice_get cells row ≡ Some c → l ≡ label_of c → before ≡ map label_of (take row cells) → after ≡ before ++ l ∷ [] → after ≡ map label_of (take (row + 1) cells)
one_more_label cells row _ _ _ _ lt at is was pushed = grind (arith, map-append, take_more cells row cell.Na lt, get_or_from_slice_get cells row _ cell.Na at)

-- the labels of one column as tuples
pub single_column : (t : NumberedTable) (places : List ℕ) (place : ℕ) (cells : List Cell) → length places ≡ 1 → slice_get places 0 ≡ Some place → cells ≡ (column_at t.columns place).cells → length cells ≡ length t.labels
    → single_tuples (map label_of cells) ≡ map (row_labels t places) (range_with_len 0 (length t.labels))
single_column t places place cells one at is many =
    rw (only_place places place one at) (ext_get_or (label_of cell.Na ∷ []) _ _ (grind (arith, length-map, length-map-range_with_len))
    (λ k lt. grind (arith, get_or-map (λ l. l ∷ []) (map label_of cells) k (label_of cell.Na), get_or-map label_of cells k cell.Na, get_or-map-range_with_len, length-map)))

-- the axis of the columns
abbrev pub index_axis : NumberedTable → List ℕ → AxisValue
index_axis t places = record { tuples = map (row_labels t places) (range_with_len 0 (length t.labels)); names = headings_at t places }

abbrev pub kept_headings : NumberedTable → List ℕ → HeadingList
kept_headings t kept = record { columns_name = t.columns_name; labels = headings_at t kept }

abbrev pub index_table : NumberedTable → List ℕ → List ℕ → NumberedTable
index_table t places kept = table_with Frame (index_axis t places) (kept_headings t kept) (map (column_at t.columns) kept)

index_seen : (texts : List Text) (t : NumberedTable) (places kept : List ℕ) → t.shape ≡ Frame → kept ≡ places_besides (table_value texts t) places → table_value texts (index_table t places kept) ≡ indexed_by (table_value texts t) places
index_seen = grind (arith, headings_seen, tuples_seen, columns_seen)

-- it can be derived of the table
pub labelled : (t : NumberedTable) (kept : List ℕ) → All IsSome t.headings → All (λ place. place < length t.headings) kept → All IsSome (headings_at t kept)
labelled t kept some below = All-map IsSome (heading_of t) kept (λ k d lt. some _ _ (below k d lt))

pub index_fits : (t : NumberedTable) (places kept : List ℕ) → IsWhole t → t.shape ≡ Frame → AreColumnsOf t kept → CanDerive t record { shape = Frame; axis = index_axis t places; headings = kept_headings t kept; columns = kept }
index_fits = grind (arith, length-map, length-range_with_len, labelled)

-- what is meant
module _ (texts : List Text) (t : NumberedTable) (places kept : List ℕ) (count : ℕ) (is_kept : kept ≡ filter (is_other places) (range_with_len 0 count)) (same : count ≡ length t.columns) where
  abbrev T : Table
  T = table_value texts t

  besides : (texts : List Text) → kept ≡ places_besides (table_value texts t) places
  besides texts = search (others_meant texts)

  -- beyond the limits, of levels or of cells
  pub index_beyond : (1 ≤ length places → length places ≤ 4 → within_limits (length t.labels) (length kept) ≡ false) → index_set T places ≡ Err limit
  index_beyond = grind (arith, nat_tests, length-map, length-range_with_len, besides texts)

  pub index_made : (made : NumberedTable) → IsSettled table_value texts t → t.shape ≡ Frame → 1 ≤ length places → length places ≤ 4 → within_limits (length t.labels) (length kept) ≡ true → made ≡ index_table t places kept → Makes texts (Ok made) (index_set T places)
  index_made made settled frame some few within is = (
    grind (arith, nat_tests, length-map, length-range_with_len, index_seen texts t places kept frame (besides texts)),
    λ more. cc (is, index_seen (texts ++ more) t places kept frame (besides (texts ++ more)), index_seen texts t places kept frame (besides texts), settled more),
  )

-- the label of a row in one column
pub label_at : (t : NumberedTable) (places : List ℕ) (row k place : ℕ) (c : Cell) (l : Label) → k < length places → slice_get places k ≡ Some place → c ≡ cell_across t row place → l ≡ label_of c → l ≡ get_or (row_labels t places row) k l
label_at t [] _ k _ c l lt at here is = search
label_at t (p ∷ ps) _ zero _ c l lt at here is = search
label_at t (p ∷ ps) _ (suc k) _ c l lt at here is = label_at t ps _ k _ c l (omega (arith, lt)) at here is

-- one row more
pub one_more_row : (t : NumberedTable) (places : List ℕ) (row : ℕ) (tuple : List Label) (tuples tuples' : List (List Label)) → tuple ≡ row_labels t places row → tuples' ≡ tuples ++ tuple ∷ []
    → tuples ≡ map (row_labels t places) (range_with_len 0 row) → tuples' ≡ map (row_labels t places) (range_with_len 0 (row + 1))
one_more_row = grind (arith, one_more_place, map-append)
