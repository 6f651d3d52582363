-- The kinds of the cells under keys.
use Rattle.std.specs.Prelude.{◌≡◌, ◌<◌, ℕ, Bool, true, false, not, List, map, length, slice_index_or, string_bytes, bytes_eq, Option, Some, None, option_and_then, if◌then◌else◌}
use Rattle.std.specs.List.{list_all, list_any, range_with_len}
use Rattle.std.specs.declared.string.String.{String}
use Rattle.std.specs.BTreeMap.{BTreeMap, keys, get_by_text}
use Rattle.serde_json.specs.Data.{Data}
use Rattle.serde_json.specs.Find.{get}
use Rattle.meaning_json.specs.cells.Text.{Text}
use Rattle.meaning_json.specs.cells.Cell.{CellValue, Kind, Int64}
use Rattle.meaning_json.specs.tables.Table.{same_kind}
use Rattle.meaning_json.specs.JsonRead.{cell_found, cell_kind, first_kind, known_kind, has_two_kinds, with_key, with_keys, keys_in, keys_of, cells_under, cells_at, kind_of_cells}

-- whether both kinds are known and differ
abbrev pub clash : Option Kind → Option Kind → Bool
clash None kind = false
clash (Some a) None = false
clash (Some a) (Some b) = not (same_kind a b)

-- no cell is of another kind than the first one
abbrev pub IsUniform : List CellValue → Type 0
IsUniform cells = list_all (λ c. not (clash (known_kind cells) (cell_kind c))) cells ≡ true

-- the keys, and the kind that is known under a key
abbrev pub keys_seen : {Y : Type 0} → BTreeMap (String Y) (Option Kind) → List Text
keys_seen kinds = map string_bytes (keys kinds)

abbrev pub kind_under : {Y : Type 0} → BTreeMap (String Y) (Option Kind) → Text → Option Kind
kind_under kinds key = option_and_then (λ kind. kind) (get_by_text kinds key)

-- the kind of a row's cell under a key, if there is one
abbrev pub kind_in : Data → Text → Option Kind
kind_in row key = cell_kind (cell_found (get key row))

-- the kinds with that of a cell under a key
pub record IsNoted {Y : Type 0} (old : BTreeMap (String Y) (Option Kind)) (key : Text) (kind : Option Kind) (new : BTreeMap (String Y) (Option Kind)) : Type 0 where
  pub keys : keys_seen new ≡ with_key (keys_seen old) key
  pub kinds : (other : Text) → kind_under new other ≡ first_kind (kind_under old other) (if bytes_eq key other then kind else None)

-- the kinds with those of a row
pub record WithRow {Y : Type 0} (old : BTreeMap (String Y) (Option Kind)) (row : Data) (new : BTreeMap (String Y) (Option Kind)) : Type 0 where
  pub keys : keys_seen new ≡ with_keys (keys_seen old) (keys_in row)
  pub kinds : (key : Text) → kind_under new key ≡ first_kind (kind_under old key) (kind_in row key)
  pub fit : (key : Text) → clash (kind_under old key) (kind_in row key) ≡ false

-- a cell of the row is of another kind
pub record HasClash {Y : Type 0} (old : BTreeMap (String Y) (Option Kind)) (row : Data) : Type 0 where
  pub key : Text
  pub differs : clash (kind_under old key) (kind_in row key) ≡ true

-- the kinds of all cells of these rows, where no two under a key differ
pub record OfRows {Y : Type 0} (kinds : BTreeMap (String Y) (Option Kind)) (rows : List Data) : Type 0 where
  pub keys : keys_seen kinds ≡ keys_of rows
  pub known : (key : Text) → kind_under kinds key ≡ known_kind (cells_under rows key)
  pub fit : (key : Text) → IsUniform (cells_under rows key)

-- two cells under a key differ
pub record HasMixed (rows : List Data) : Type 0 where
  pub key : Text
  pub mixed : has_two_kinds (cells_under rows key) ≡ true

-- the kinds of so many columns, none of which has cells of two kinds
pub record KindsAt (kinds : List Kind) (rows : List Data) (width : ℕ) : Type 0 where
  pub count : length kinds ≡ width
  pub one : list_any has_two_kinds (map (cells_at rows) (range_with_len 0 width)) ≡ false
  pub each : (place : ℕ) → place < width → slice_index_or kinds place Int64 ≡ kind_of_cells (cells_at rows place)
