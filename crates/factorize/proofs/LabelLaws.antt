-- The labels of a row are those of its key.
use Rattle.{
  column_core.{proofs.cells.Common.{◌≡◌, ◌<◌, ◌≤◌, arith, ℕ, List, [], length, slice_get, slice_index_or, Some, length-map, same_lists, get_or_default, get_or_past, get_or-map as get_or-map-at, All-map, length-map-range_with_len, get_or-map-range_with_len, get_or_from_slice_get, range_with_len, Cell, Label, label_datum, Text}, specs.Columns.{CellColumn}},
  std.proofs.Math.ListN.{get_or-map},
  cell_core.specs.Values.{label_of},
  factorize.specs.Keys.{row_key, column_keys},
  row_keys.specs.Keys.{label_in},
  multi_index.specs.Axes.{HaveLevels},
  label_align.{specs.Tuples.{tuple_seen, labels_of}, proofs.OrderLaws.{label_there, labels_counted}},
}
use Rattle.cell_core.specs.declared.cell.Label.TheVariants as label

pub labels_there : (texts : List Text) (keys : List (List Label)) (levels row : ℕ) → HaveLevels levels keys → row < length keys → labels_of texts keys levels row ≡ tuple_seen texts (slice_index_or keys row [])
labels_there texts keys levels row alike lt =
    let key = slice_index_or keys row [] in
    same_lists (labels_of texts keys levels row) (tuple_seen texts key) (grind (arith, labels_counted, length-map))
    (λ k d inside. grind (arith, labels_counted, label_there, get_or-map (label_datum texts) key k label.Na, get_or_default (tuple_seen texts key) k (label_datum texts label.Na) d, length-map key (label_datum texts)))

-- the keys of columns
pub columns_alike : (columns : List CellColumn) (count : ℕ) → HaveLevels (length columns) (column_keys columns count)
columns_alike columns count =
    All-map (λ key. length key ≡ length columns) (row_key columns) (range_with_len 0 count)
    (λ k d lt. length-map columns _)

pub columns_counted : (columns : List CellColumn) (count : ℕ) → count ≡ length (column_keys columns count)
columns_counted = search length-map-range_with_len

key_of_row : (columns : List CellColumn) (count row : ℕ) → row < count → slice_index_or (column_keys columns count) row [] ≡ row_key columns row
key_of_row = grind (arith, get_or-map-range_with_len)

pub column_label : (columns : List CellColumn) (count row level : ℕ) (d : CellColumn) (c : Cell) → row < count → level < length columns → slice_get (slice_index_or columns level d).cells row ≡ Some c
    → label_of c ≡ label_in level (slice_index_or (column_keys columns count) row [])
column_label = grind (arith, get_or_from_slice_get, key_of_row, get_or-map-at)

pub no_column : (columns : List CellColumn) (count row level : ℕ) → row < count → length columns ≤ level → label.Na ≡ label_in level (slice_index_or (column_keys columns count) row [])
no_column = search (key_of_row, get_or_past, length-map)

pub no_row : (keys : List (List Label)) (row level : ℕ) → length keys ≤ row → label.Na ≡ label_in level (slice_index_or keys row [])
no_row = search get_or_past
