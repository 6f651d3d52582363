-- A file of JSON reads as a valid frame.
use Rattle.meaning_json.{proofs.cells.Common.{◌≡◌, ◌||◌, ℕ, ℤ, suc, subst, refl, List, [], ◌∷◌, map, length, arith, Bool, true, false, not, Option, Some, None, Result, Ok, Err, IfOk, IfSome, IsSome, All, All-map, All-nil, All-cons, AllPass-from_list_all, get_or, length-map, list_any, option_map, option_and_then, ◌∙◌, unwrap_or, slice_get, Text, CellValue, LabelValue, text, na_cell, int_cell, text_cell, truth_cell, Kind, holds, codes, range_with_len}, specs.{cells.Cell.{has_64_bits}, cells.cell_core.declared.grid.Shape.TheVariants.{Series, Frame}, tables.{Table.{ColumnOf}, Value.{Entry, cell, table}, Valid.{IsValid, within_limits}}, form.Finish.{default_labels}, declared.Orient.{Orient}, JsonRead.{JsonValue, JsonRefusal, SplitParts, cell_found, cell_kind, is_of, kind_of_cells, has_two_kinds, column_of_cells, table_of, tuples, label_in, keys_of, cells_under, records_table, read_records, split_table, read_split, split_parts, array_in, array_under, values_in, cells_at, table_in, table_if_read, table_of_file}}}
use Rattle.serde_json.specs.Data as dat
use Rattle.serde_json.specs.Data.{Data, Items}
use Rattle.serde_json.specs.Read.{read}
use Rattle.serde_json.specs.Find.{get, at, as_i64}
use Rattle.meaning_json.specs.declared.Orient.TheVariants.{Records, Split}
use Rattle.meaning_json_calls.{specs.JsonCalls.{frame_of_json, frame_or_fault, read_json_result}, proofs.{ReadLaws.{IsRead, file_read}, NumberLaws.{HasFit, ItemsFit, read_fit, key_fit, place_fit, whole_fit}}}

-- Cells

-- a whole number has 64 bits
abbrev pub CellFits : CellValue → Type 0
CellFits (int_cell z) = has_64_bits z ≡ true
CellFits na_cell = Unit {0}
CellFits (truth_cell b) = Unit {0}
CellFits (text_cell t) = Unit {0}

number_cell : (o : Option ℤ) → IfSome o (λ z. has_64_bits z ≡ true) → CellFits (unwrap_or (option_map int_cell o) na_cell)
number_cell None h = tt
number_cell (Some z) h = h

data_fits : (d : Data) → HasFit d → CellFits (cell_found (Some d))
data_fits dat.null h = tt
data_fits (dat.boolean b) h = tt
data_fits (dat.number n) h = number_cell (as_i64 n) (whole_fit n h)
data_fits (dat.string s) h = tt
data_fits (dat.array ds) h = tt
data_fits (dat.object ms) h = tt

found_fits : (o : Option Data) → IfSome o HasFit → CellFits (cell_found o)
found_fits None h = tt
found_fits (Some d) h = data_fits d h

-- a cell that fits, of the column's kind
kind_holds : (kind : Kind) (c : CellValue) → CellFits c → is_of kind (cell_kind c) ≡ true → holds kind c ≡ true
kind_holds = grind arith

-- Columns

abbrev FitColumn : List CellValue → Type 0
FitColumn cells = All CellFits cells

abbrev pub IsHeld : ColumnOf CellValue → Type 0
IsHeld c = All (λ cell. holds c.kind cell ≡ true) c.cells

column_held : (cells : List CellValue) → FitColumn cells → has_two_kinds cells ≡ false → IsHeld (column_of_cells cells)
column_held cells fit one = λ k d lt.
    kind_holds (kind_of_cells cells) (get_or cells k d) (fit k d lt)
    (AllPass-from_list_all (λ c. is_of (kind_of_cells cells) (cell_kind c)) cells (passes _ one) k d lt)
  where
    passes : (b : Bool) → not b ≡ false → b ≡ true
    passes = grind arith

neither : (a b : Bool) → (a || b) ≡ false → (a ≡ false) × (b ≡ false)
neither = grind arith

columns_held : (columns : List (List CellValue)) → All FitColumn columns → list_any has_two_kinds columns ≡ false → All IsHeld (map column_of_cells columns)
columns_held [] fit one = All-nil IsHeld
columns_held (c ∷ cs) fit one =
    let both = neither (has_two_kinds c) (list_any has_two_kinds cs) one in
    All-cons IsHeld (column_of_cells c) (map column_of_cells cs) (column_held c (fit 0 c (omega arith)) both.0) (columns_held cs (λ k d lt. fit (suc k) d (omega arith)) both.1)

abbrev Held : Result JsonValue JsonRefusal → Type 0
Held r = IfOk r (λ read. All IsHeld read.columns)

table_held : (labels rows : List (List LabelValue)) (columns : List (List CellValue)) → All FitColumn columns → Held (table_of labels rows columns)
table_held labels rows columns fit = grind (arith, columns_held columns fit)

-- Values

abbrev AreFit : List Data → Type 0
AreFit ds = All HasFit ds

items_are_fit : (ds : Items) → ItemsFit ds → AreFit (values_in ds)
items_are_fit dat.no_items h = All-nil HasFit
items_are_fit (dat.item d ds) h = All-cons HasFit d (values_in ds) h.0 (items_are_fit ds h.1)

array_fit : (d : Data) → HasFit d → IfSome (array_in d) AreFit
array_fit (dat.array ds) h = items_are_fit ds h
array_fit dat.null h = tt
array_fit (dat.boolean b) h = tt
array_fit (dat.number n) h = tt
array_fit (dat.string s) h = tt
array_fit (dat.object ms) h = tt

under_fit : (key : Text) (d : Data) → HasFit d → IfSome (array_under key d) AreFit
under_fit key d h = by (get key d) (key_fit key d h)
  where
    by : (o : Option Data) → IfSome o HasFit → IfSome (option_and_then array_in o) AreFit
    by None h = tt
    by (Some e) h = array_fit e h

key_cells : (rows : List Data) (key : Text) → AreFit rows → FitColumn (cells_under rows key)
key_cells rows key h = All-map CellFits (λ row. cell_found (get key row)) rows (λ k d lt. found_fits _ (key_fit key _ (h k d lt)))

place_cells : (rows : List Data) (place : ℕ) → AreFit rows → FitColumn (cells_at rows place)
place_cells rows place h = All-map CellFits (λ row. cell_found (at place row)) rows (λ k d lt. found_fits _ (place_fit place _ (h k d lt)))

keyed_held : (rows : List Data) → AreFit rows → Held (records_table rows)
keyed_held rows h =
    table_held (tuples (map text (keys_of rows))) (default_labels (length rows)) (map (cells_under rows) (keys_of rows))
    (All-map FitColumn (cells_under rows) (keys_of rows) (λ k d lt. key_cells rows _ h))

records_held : (found : Option (List Data)) → IfSome found AreFit → Held (read_records found)
records_held None h = tt
records_held (Some rows) h = grind (arith, keyed_held rows h)

split_held : (p : SplitParts) → AreFit p.rows → Held (split_table p)
split_held p h =
    let places = range_with_len 0 (length p.columns) in
    table_held (tuples (map label_in p.columns)) (tuples (map label_in p.index)) (map (cells_at p.rows) places)
    (All-map FitColumn (cells_at p.rows) places (λ k d lt. place_cells p.rows _ h))

parts_held : (found : Option SplitParts) → IfSome found (λ p. AreFit p.rows) → Held (read_split found)
parts_held None h = tt
parts_held (Some p) h = grind (arith, split_held p h)

parts_fit : (columns index rows : Option (List Data)) → IfSome rows AreFit
    → IfSome (option_and_then (λ columns. option_and_then (λ index. option_map (λ rows. record { columns = columns; index = index; rows = rows }) rows) index) columns) (λ (p : SplitParts). AreFit p.rows)
parts_fit None index rows h = tt
parts_fit (Some c) None rows h = tt
parts_fit (Some c) (Some i) None h = tt
parts_fit (Some c) (Some i) (Some r) h = h

split_fit : (d : Data) → HasFit d → IfSome (split_parts d) (λ p. AreFit p.rows)
split_fit d h = parts_fit (array_under (codes "columns") d) (array_under (codes "index") d) (array_under (codes "data") d) (under_fit (codes "data") d h)

value_held : (orient : Orient) (d : Data) → HasFit d → Held (table_in orient d)
value_held Records d h = records_held (array_in d) (array_fit d h)
value_held Split d h = grind (arith, parts_held (split_parts d) (split_fit d h))

text_held : (orient : Orient) (found : Option Data) → IfSome found HasFit → Held (table_if_read orient found)
text_held orient None h = tt
text_held orient (Some d) h = value_held orient d h

file_held : (orient : Orient) (bytes : List ℕ) → Held (table_of_file orient bytes)
file_held orient bytes = grind (arith, text_held orient (read bytes) (read_fit bytes))

-- Frames

some_first : (tuple : List LabelValue) → length tuple ≡ 1 → IsSome (slice_get tuple 0)
some_first [] one = absurd (omega arith)
some_first (l ∷ ls) one = refl

no_series : Frame ≡ Series → ⊥
no_series e = cc

frame_valid : (read : JsonValue) → IsRead read → All IsHeld read.columns → IsValid (frame_of_json read)
frame_valid read is held =
    record {
      some = omega arith;
      few = omega arith;
      levels = is.rows;
      whole = record {
        headed = length-map read.labels _ ∙ is.headed;
        filled = is.filled;
        headings = record {
          single = λ e. absurd (no_series e);
          nameless = λ e. absurd (no_series e);
          labelled = λ e. All-map IsSome (λ label. slice_get label 0) read.labels (λ k d lt. some_first _ (is.labels k d lt));
        };
      };
      held = held;
      limited = subst (λ n. within_limits (length read.rows) n ≡ true) is.headed is.limited;
    }

abbrev pub IsValidTable : Entry → Type 0
IsValidTable (cell c) = ⊥
IsValidTable (table t) = IsValid t

entry_valid : (r : Result JsonValue JsonRefusal) → IfOk r IsRead → Held r → IfOk (frame_or_fault r) IsValidTable
entry_valid (Ok read) is held = frame_valid read is held
entry_valid (Err refusal) is held = tt

-- what `pd.read_json` answers is a valid table
pub read_valid : (orient : Orient) (bytes : List ℕ) → IfOk (read_json_result orient bytes) IsValidTable
read_valid orient bytes = entry_valid (table_of_file orient bytes) (file_read orient bytes) (file_held orient bytes)
