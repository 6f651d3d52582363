-- Methods that answer some rows of a table, or all of them in another order, and `drop`, which answers some columns.
use Rattle.std.specs.Prelude.{ℕ, ℤ, pos, neg_ℤ, Bool, List, [], ◌∷◌, map, length, slice_index_or, Some, None, Result, Ok, if◌then◌else◌}
use Rattle.std.specs.List.{list_any, list_all, range_with_len}
use Rattle.std.specs.Ordering.{is_lt, int_eq}
use Rattle.std.specs.Cmp.Lexicographic.{pointwise, slice_cmp}
use Rattle.meaning_call.specs.cell_core.declared.cell.Kind.TheVariants.{Boolean}
use Rattle.meaning_call.specs.cell_core.declared.grid.Shape.TheVariants.{Series}
use Rattle.meaning_call.specs.cells.Cell.{CellValue, na_cell, truth_cell, LabelValue}
use Rattle.meaning_call.specs.cells.Operator.{cell_label}
use Rattle.meaning_call.specs.cells.Reduce.{is_present, same_cell}
use Rattle.meaning_call.specs.cells.Fault.{FaultValue, then_value}
use Rattle.meaning_select.specs.tables.Table.{Table, rows_of}
use Rattle.meaning_select.specs.tables.Value.{Entry, cell, Given, nothing, one, many}
use Rattle.meaning_call.specs.form.Finish.{limited}
use Rattle.meaning_call.specs.form.Select.{columns_frame, argument_columns, labels_of}
pub use Rattle.meaning_call.specs.form.Select.{all_places, places_besides}
use Rattle.meaning_group.specs.pick.Rows.{rows_where}
use Rattle.meaning_group.specs.pick.Keys.{each_key, PlaceKey, place_slice, picked_by_place}
use Rattle.meaning_select.specs.Keys.{found_pick, label_columns}
use Rattle.meaning_select.specs.Select.{rows_taken}
use Rattle.meaning_group.specs.sorting.Sorting.{in_order}
pub use Rattle.meaning_group.specs.sorting.Labels.{is_na, directed}

-- the rows that a key of `iloc` picks
abbrev pub placed_rows : Table → PlaceKey → Result Entry FaultValue
placed_rows t key = then_value (found_pick (picked_by_place (length t.labels) key)) (λ p. limited (rows_taken t p.rows))

-- `iloc[:n]`, and `iloc[-n:]`, which for 0 has no row
abbrev pub head_result : Table → ℤ → Result Entry FaultValue
head_result t n = placed_rows t (place_slice None (Some n) None)

abbrev pub tail_result : Table → ℤ → Result Entry FaultValue
tail_result t n = if int_eq n (pos 0) then limited (rows_taken t []) else placed_rows t (place_slice (Some (neg_ℤ n)) None None)

-- the cells of each row in the columns at these places
abbrev pub cells_by_row : Table → List ℕ → List (List CellValue)
cells_by_row t places = map (λ r. r.cells) (rows_of na_cell (columns_frame t places))

-- the rows in which no cell is missing
abbrev pub without_missing : Table → Table
without_missing t = rows_taken t (rows_where (list_all is_present) 0 (cells_by_row t (all_places t)))

abbrev pub dropna_result : Table → Result Entry FaultValue
dropna_result t = limited (without_missing t)

-- whether each one is equal to an earlier one, after those that stand before
abbrev pub repeats : {X : Type 0} → (X → X → Bool) → List X → List X → List Bool
repeats same before [] = []
repeats same before (x ∷ xs) = list_any (same x) before ∷ repeats same (x ∷ before) xs

-- a Series of truth values over the rows, without a name
abbrev pub marks_series : Table → List Bool → Table
marks_series t marks = record t { shape = Series; columns_name = None; headings = None ∷ []; columns = record { kind = Boolean; cells = map truth_cell marks } ∷ [] }

-- the label, or the labels of the list, that an argument is
abbrev pub labels_in : Given → List LabelValue
labels_in (one (cell c)) = cell_label c ∷ []
labels_in (many parts) = labels_of parts
labels_in g = []

-- all columns where none are named
abbrev pub subset_places : Table → Given → Result (List ℕ) FaultValue
subset_places t nothing = Ok (all_places t)
subset_places t g = argument_columns t (labels_in g)

-- whether an earlier row has the same cells
abbrev pub duplicated_result : Table → Given → Result Entry FaultValue
duplicated_result t subset = then_value (subset_places t subset) (λ places. limited (marks_series t (repeats (pointwise same_cell) [] (cells_by_row t places))))

-- whether a row stands before another by their keys, one after the other
abbrev pub row_less : Bool → List (List LabelValue) → ℕ → ℕ → Bool
row_less ascending keys i j = is_lt (slice_cmp (directed ascending) (slice_index_or keys i []) (slice_index_or keys j []))

-- the numbers of the rows in the order of their keys, ties as they stood
abbrev pub sorted_rows : Bool → List (List LabelValue) → List ℕ
sorted_rows ascending keys = in_order (row_less ascending keys) (range_with_len 0 (length keys))

abbrev pub sorted_result : Table → Bool → List (List LabelValue) → Result Entry FaultValue
sorted_result t ascending keys = limited (rows_taken t (sorted_rows ascending keys))

abbrev pub sort_values_result : Table → Bool → List ℕ → Result Entry FaultValue
sort_values_result t ascending places = sorted_result t ascending (map (map cell_label) (cells_by_row t places))

abbrev pub sort_by_result : Table → Bool → Given → Result Entry FaultValue
sort_by_result t ascending by = then_value (argument_columns t (labels_in by)) (sort_values_result t ascending)

-- all columns but those of these labels
abbrev pub drop_result : Table → Given → Result Entry FaultValue
drop_result t columns = then_value (label_columns t (each_key (map (λ l. l ∷ []) (labels_in columns)))) (λ places. limited (columns_frame t (places_besides t places)))
