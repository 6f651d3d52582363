-- Cells by number, row by row over the columns, and the rows that they come from.
use Rattle.std.specs.Prelude.{ℕ, ◌+◌, ◌*◌, List, [], ◌∷◌, map, slice_set, Option, Some, None}
use Rattle.std.specs.List.{zip}
use Rattle.cell_core.specs.declared.cell.Label.{Label}
use Rattle.column_core.specs.cells.Column.{tabulate}
use Rattle.factorize.specs.index_core.Labels.{same_number}
use Rattle.row_keys.specs.Keys.{same_pair, codes_of, label_in}
use Rattle.factorize.specs.group.Rows.{GroupsValue, rows_of_group}
use Rattle.factorize.specs.Numbers.{number_in}
use Rattle.merge_concat.specs.Codes.{repeated_from}

-- the number of the cell of a key and a label, where each key has so many labels
abbrev pub slot_of : ℕ → Option ℕ → Option ℕ → Option ℕ
slot_of width None label = None
slot_of width (Some key) None = None
slot_of width (Some key) (Some label) = Some (key * width + label)

-- that of each row's cell
abbrev pub slots_of : GroupsValue → GroupsValue → List (Option ℕ)
slots_of keys labels = map (λ row. slot_of labels.count row.0 row.1) (zip keys.codes labels.codes)

-- the rows of cells with a row at a place, if it has one
abbrev pub placed_at : List (Option ℕ) → Option ℕ → ℕ → List (Option ℕ)
placed_at places None row = places
placed_at places (Some slot) row = slice_set places slot (Some row)

-- the last of some rows, or what there was before
abbrev pub last_row : Option ℕ → List ℕ → Option ℕ
last_row before [] = before
last_row before (row ∷ rows) = last_row (Some row) rows

-- for each cell the last of its rows
abbrev pub rows_at_slots : ℕ → List (Option ℕ) → List (Option ℕ)
rows_at_slots cells slots = tabulate cells (λ slot. last_row None (rows_of_group slot slots))

-- for each row its label, and the number of its key
abbrev pub labelled : List (List Label) → List (Option ℕ) → List (Label × ℕ)
labelled labels codes = zip (map (label_in 0) labels) (map number_in codes)

-- the first row whose label and number another row has too
abbrev pub repeated_at : List (Label × ℕ) → Option ℕ
repeated_at rows = let codes = codes_of (same_pair same_number) rows in repeated_from codes 0 codes
