-- Methods that give the rows other levels of labels: names of levels, columns as levels and levels as columns, levels
-- that go or change places.
use Rattle.std.specs.Prelude.{ℕ, nat_eq, nat_le, ◌&&◌, not, List, [], ◌∷◌, ◌++◌, map, length, remove, swap, slice_index_or, unwrap_or, codes, decimal, Option, Some, None, option_map, Result, Err, if◌then◌else◌}
use Rattle.std.specs.List.{list_any, range_with_len}
use Rattle.meaning_call.specs.cells.Cell.{CellValue, na_cell, int_cell, truth_cell, text_cell, LabelValue, na, int, truth, text}
use Rattle.meaning_call.specs.cells.Operator.{cell_label}
use Rattle.meaning_call.specs.cells.Fault.{FaultValue, wrong_kind, bad_value, levels, limit, then_value}
use Rattle.meaning_group.specs.pick.Positions.{row_at}
use Rattle.meaning_select.specs.tables.Table.{ColumnOf, Table}
use Rattle.meaning_select.specs.tables.Value.{Entry, Given, many, nothing, one, row, entries, scalar_in}
use Rattle.meaning_call.specs.form.Finish.{limited, first_shared, unless_repeated, same_heading, default_labels, try_all}
use Rattle.meaning_call.specs.form.Select.{columns_frame, argument_columns, heading_at, labels_of, place_of_label, found}
use Rattle.meaning_call.specs.form.Set.{list_column, of_length}
use Rattle.meaning_select.specs.Keys.{found_pick}
use Rattle.meaning_method.specs.Rows.{cells_by_row, labels_in, places_besides}

-- names of levels: those of a list, or the one that a label or None is
abbrev pub names_in : Given → List (Option LabelValue)
names_in (many parts) = map (λ l. Some l) (labels_of parts)
names_in (one v) = option_map cell_label (scalar_in (one v)) ∷ []
names_in nothing = None ∷ []
names_in (row parts) = None ∷ []
names_in (entries pairs) = None ∷ []

-- a name for each level
abbrev pub axis_renamed : Table → List (Option LabelValue) → Result Entry FaultValue
axis_renamed t names = of_length (length t.level_names) (length names) (limited (record t { level_names = names }))

abbrev pub rename_axis_result : Table → Given → Result Entry FaultValue
rename_axis_result t names = axis_renamed t (names_in names)

-- an axis has one to four levels
abbrev pub on_levels : ℕ → Result Entry FaultValue → Result Entry FaultValue
on_levels count rest = if nat_le 1 count && nat_le count 4 then rest else Err limit

-- the columns at these places leave; their cells are the labels of the rows, and their labels the names of the levels
abbrev pub indexed_by : Table → List ℕ → Table
indexed_by t places =
    record (columns_frame t (places_besides t places)) {
      labels = map (map cell_label) (cells_by_row t places);
      level_names = map (heading_at t) places;
    }

abbrev pub index_set : Table → List ℕ → Result Entry FaultValue
index_set t places = on_levels (length places) (limited (indexed_by t places))

abbrev pub set_index_result : Table → Given → Result Entry FaultValue
set_index_result t keys = then_value (argument_columns t (labels_in keys)) (index_set t)

-- the labels 0, 1 and so on in place of a table's own
abbrev pub renumbered : Table → Table
renumbered t = record t { labels = default_labels (length t.labels); level_names = None ∷ [] }

-- the cell that a label is
abbrev pub label_cell : LabelValue → CellValue
label_cell na = na_cell
label_cell (int z) = int_cell z
label_cell (truth b) = truth_cell b
label_cell (text t) = text_cell t

-- the labels of a level, as cells
abbrev pub level_cells : Table → ℕ → List CellValue
level_cells t level = map (λ tuple. label_cell (slice_index_or tuple level na)) t.labels

-- the levels as columns; labels of two kinds in one are a TypeError
abbrev pub level_columns : Table → Result (List (ColumnOf CellValue)) FaultValue
level_columns t = try_all (λ level. list_column (level_cells t level)) (range_with_len 0 (length t.level_names))

-- the label of the column of a level without a name: by its number, and of one level alone `index`, unless a column has
-- that label
abbrev pub numbered_label : ℕ → LabelValue
numbered_label level = text (codes "level_" ++ decimal level)

abbrev pub index_label : LabelValue
index_label = text (codes "index")

abbrev pub nameless_label : Table → ℕ → LabelValue
nameless_label t level =
    if nat_eq (length t.level_names) 1 && not (list_any (same_heading (Some index_label)) t.headings) then index_label else numbered_label level

abbrev pub level_label : Table → ℕ → LabelValue
level_label t level = unwrap_or (slice_index_or t.level_names level None) (nameless_label t level)

abbrev pub level_labels : Table → List LabelValue
level_labels t = map (level_label t) (range_with_len 0 (length t.level_names))

abbrev pub level_headings : Table → List (Option LabelValue)
level_headings t = map (λ l. Some l) (level_labels t)

-- these columns of the levels before the others
abbrev pub with_levels : Table → List (ColumnOf CellValue) → Table
with_levels t columns =
    record (renumbered t) {
      headings = level_headings t ++ t.headings;
      columns = columns ++ t.columns;
    }

-- of a frame: the levels become columns, whose labels no other column has
abbrev pub levels_reset : Table → Result Entry FaultValue
levels_reset t = then_value (level_columns t) (λ columns. unless_repeated (first_shared (level_headings t) t.headings) (limited (with_levels t columns)))

-- a level by its number, counted from the end where it is negative, or the first one of a name, which a text alone can
-- be
abbrev pub level_of : Table → Option CellValue → Result ℕ FaultValue
level_of t (Some (int_cell z)) = found_pick (row_at (length t.level_names) z)
level_of t (Some (text_cell name)) = found (text name) (place_of_label t.level_names (text name))
level_of t c = Err wrong_kind

-- where a level goes another one must stay
abbrev pub of_several : {A : Type 0} → Table → Result A FaultValue → Result A FaultValue
of_several t rest = if nat_le 2 (length t.level_names) then rest else Err (bad_value levels)

-- without a level
abbrev pub level_dropped : Table → ℕ → Table
level_dropped t level = record t { labels = map (λ tuple. remove tuple level) t.labels; level_names = remove t.level_names level }

abbrev pub level_gone : Table → ℕ → Result Entry FaultValue
level_gone t level = of_several t (limited (level_dropped t level))

abbrev pub droplevel_result : Table → Option CellValue → Result Entry FaultValue
droplevel_result t level = then_value (level_of t level) (level_gone t)

-- two levels exchanged, each with its name
abbrev pub levels_swapped : Table → ℕ → ℕ → Table
levels_swapped t i j = record t { labels = map (λ tuple. swap tuple i j) t.labels; level_names = swap t.level_names i j }

abbrev pub swaplevel_result : Table → Option CellValue → Option CellValue → Result Entry FaultValue
swaplevel_result t first second = then_value (level_of t first) (λ i. then_value (level_of t second) (λ j. limited (levels_swapped t i j)))
