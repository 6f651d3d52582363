-- The values of a table's parts, by place.
use Rattle.{meaning_json.{proofs.cells.Common.{◌≡◌, ℕ, ◌<◌, List, [], length, map, get_or, ap, ◌∙◌, arith, length-map, get_or-map, length-map-range_with_len, get_or-map-range_with_len, LabelValue, na, na_cell}, specs.{tables.Table.{Table, ColumnOf, no_column, row_of, rows_of}, format.Told.{cell_at, heading_at, label_at}, JsonWrite.{key_text, label_json, cell_json, heading_label, column_labels, record_json, cells_json, row_labels}}}, json.specs.Json.{null}}

module _ (t : Table) (k : ℕ) where
  -- the label of a column
  pub heading_is : k < length t.headings → get_or (column_labels t) k na ≡ heading_label (heading_at t k)
  heading_is h = get_or-map heading_label t.headings k _ na h

  pub heading_json : k < length t.headings → get_or (map label_json (column_labels t)) k null ≡ label_json (heading_label (heading_at t k))
  heading_json h = get_or-map label_json (column_labels t) k na null (let n = length-map t.headings heading_label in omega arith) ∙ ap label_json (heading_is h)

  pub headings_json : length (map label_json (column_labels t)) ≡ length t.headings
  headings_json = length-map (column_labels t) label_json ∙ length-map t.headings heading_label

  pub key_value : k < length t.headings → get_or (map key_text (column_labels t)) k [] ≡ key_text (heading_label (heading_at t k))
  key_value h = get_or-map key_text (column_labels t) k na [] (let n = length-map t.headings heading_label in omega arith) ∙ ap key_text (heading_is h)

  pub keys_count : length (map key_text (column_labels t)) ≡ length t.headings
  keys_count = length-map (column_labels t) key_text ∙ length-map t.headings heading_label

  pub column_count : length (column_labels t) ≡ length t.headings
  column_count = length-map t.headings heading_label

  -- the label of a row
  pub label_value : k < length t.labels → get_or (map label_json (row_labels t)) k null ≡ label_json (label_at t k 0)
  label_value h =
      get_or-map label_json (row_labels t) k na null (let n = length-map t.labels (λ (tuple : List LabelValue). get_or tuple 0 na) in omega arith)
      ∙ ap label_json (get_or-map (λ (tuple : List LabelValue). get_or tuple 0 na) t.labels k [] na h)

  pub labels_count : length (map label_json (row_labels t)) ≡ length t.labels
  labels_count = length-map (row_labels t) label_json ∙ length-map t.labels (λ (tuple : List LabelValue). get_or tuple 0 na)

  -- a row
  pub row_value : k < length t.labels → get_or (map cells_json (rows_of na_cell t)) k null ≡ cells_json (row_of na_cell t k)
  row_value h = get_or-map cells_json (rows_of na_cell t) k (row_of na_cell t k) null (let n = length-map-range_with_len (row_of na_cell t) 0 (length t.labels) in omega arith) ∙ ap cells_json (get_or-map-range_with_len (row_of na_cell t) 0 _ k k _ h (omega arith))

  pub rows_count : length (map cells_json (rows_of na_cell t)) ≡ length t.labels
  rows_count = length-map (rows_of na_cell t) cells_json ∙ length-map-range_with_len (row_of na_cell t) 0 (length t.labels)

  pub record_value : (labels : List LabelValue) → k < length t.labels → get_or (map (record_json labels) (rows_of na_cell t)) k null ≡ record_json labels (row_of na_cell t k)
  record_value labels h = get_or-map (record_json labels) (rows_of na_cell t) k (row_of na_cell t k) null (let n = length-map-range_with_len (row_of na_cell t) 0 (length t.labels) in omega arith) ∙ ap (record_json labels) (get_or-map-range_with_len (row_of na_cell t) 0 _ k k _ h (omega arith))

  pub records_count : (labels : List LabelValue) → length (map (record_json labels) (rows_of na_cell t)) ≡ length t.labels
  records_count labels = length-map (rows_of na_cell t) (record_json labels) ∙ length-map-range_with_len (row_of na_cell t) 0 (length t.labels)

-- a cell of a row
module _ (t : Table) (row k : ℕ) where
  pub cell_is : k < length t.columns → get_or (row_of na_cell t row).cells k na_cell ≡ cell_at t row k
  cell_is h = get_or-map (λ (c : ColumnOf _). get_or c.cells row na_cell) t.columns k no_column na_cell h

  pub cells_count : length (row_of na_cell t row).cells ≡ length t.columns
  cells_count = length-map t.columns (λ (c : ColumnOf _). get_or c.cells row na_cell)

  pub cell_value : k < length t.columns → get_or (map cell_json (row_of na_cell t row).cells) k null ≡ cell_json (cell_at t row k)
  cell_value h = get_or-map cell_json (row_of na_cell t row).cells k na_cell null (let n = cells_count in omega arith) ∙ ap cell_json (cell_is h)

  pub values_count : length (map cell_json (row_of na_cell t row).cells) ≡ length t.columns
  values_count = length-map (row_of na_cell t row).cells cell_json ∙ cells_count
