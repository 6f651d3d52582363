-- Frames as JSON text.
use Rattle.std.specs.Prelude.{◌==◌, Bool, List, [], ◌∷◌, map, length, codes, slice_index_or, Option, Some, None, Result, Ok, Err, if◌then◌else◌}
use Rattle.std.specs.Fmt.{signed_decimal}
use Rattle.std.specs.List.{list_any}
use Rattle.json.specs.Json.{Json, null, boolean, number, string, array, object, Items, no_items, item, Members, no_members, member}
use Rattle.json.specs.Tree.{json_tokens}
use Rattle.json.specs.Print.{print}
use Rattle.meaning_format.specs.cells.Text.{Text, same_text}
use Rattle.meaning_format.specs.cells.Cell.{CellValue, na_cell, LabelValue, truth, int, text, na, cell_label}
use Rattle.meaning_format.specs.tables.Table.{Table, RowOf, rows_of}
use Rattle.meaning_format.specs.Print.{shown_truth}
use Rattle.meaning_json.specs.declared.Orient.{Orient}
use Rattle.meaning_json.specs.declared.Orient.TheVariants.{Records, Split}

-- Why a frame has no JSON text: a label whose text stands again as that of a later column, as a tuple of its own; or more than one level.
pub data TextRefusalValue : Type 0 where
  repeated : List LabelValue → TextRefusalValue
  many_levels : TextRefusalValue

-- the text of a JSON value, as the kit's `serde_json` writes it: without a space, and with the shortest escapes
abbrev pub value_text : Json → Text
value_text j = print (json_tokens j)

abbrev pub items_of : List Json → Items
items_of [] = no_items
items_of (j ∷ js) = item j (items_of js)

-- Labels and cells

-- what is missing is null; truth values, whole numbers and texts are those of JSON
abbrev pub label_json : LabelValue → Json
label_json na = null
label_json (int z) = number (signed_decimal z)
label_json (truth b) = boolean b
label_json (text t) = string t

abbrev pub cell_json : CellValue → Json
cell_json c = label_json (cell_label c)

-- the text of a label, as it prints by itself
abbrev pub key_text : LabelValue → Text
key_text na = codes "<NA>"
key_text (int z) = signed_decimal z
key_text (truth b) = shown_truth b
key_text (text t) = t

-- the labels of a frame's columns, which all have one
abbrev pub heading_label : Option LabelValue → LabelValue
heading_label None = na
heading_label (Some l) = l

abbrev pub column_labels : Table → List LabelValue
column_labels t = map heading_label t.headings

-- Records: an array with an object for each row, which has each cell under the text of its column's label, in the order of the columns

abbrev pub record_members : List LabelValue → List CellValue → Members
record_members (l ∷ labels) (c ∷ cells) = member (key_text l) (cell_json c) (record_members labels cells)
record_members labels cells = no_members

abbrev pub record_json : List LabelValue → RowOf LabelValue CellValue → Json
record_json labels r = object (record_members labels r.cells)

abbrev pub records_json : Table → Json
records_json t = array (items_of (map (record_json (column_labels t)) (rows_of na_cell t)))

-- Split: an object of the labels of the columns, those of the rows, of the one level, and an array of cells for each row

abbrev pub labels_json : List LabelValue → Json
labels_json labels = array (items_of (map label_json labels))

abbrev pub cells_json : RowOf LabelValue CellValue → Json
cells_json r = array (items_of (map cell_json r.cells))

abbrev pub rows_json : Table → Json
rows_json t = array (items_of (map cells_json (rows_of na_cell t)))

abbrev pub row_labels : Table → List LabelValue
row_labels t = map (λ tuple. slice_index_or tuple 0 na) t.labels

abbrev pub split_json : Table → Json
split_json t =
    object (member (codes "columns") (labels_json (column_labels t))
    (member (codes "index") (labels_json (row_labels t))
    (member (codes "data") (rows_json t) no_members)))

-- Texts

-- the first label whose text is also that of a later one
abbrev pub first_repeated : List LabelValue → Option LabelValue
first_repeated [] = None
first_repeated (l ∷ labels) = if list_any (same_text (key_text l)) (map key_text labels) then Some l else first_repeated labels

abbrev pub unless_repeated : Option LabelValue → Json → Result Text TextRefusalValue
unless_repeated None j = Ok (value_text j)
unless_repeated (Some l) j = Err (repeated (l ∷ []))

-- the JSON text of a frame, or its refusal; a table has a level at least
abbrev pub json_text_of : Orient → Table → Result Text TextRefusalValue
json_text_of Records t = unless_repeated (first_repeated (column_labels t)) (records_json t)
json_text_of Split t = if length t.level_names == 1 then Ok (value_text (split_json t)) else Err many_levels
