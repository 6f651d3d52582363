-- Keys whose texts are numbers of a dictionary.
use Rattle.std.specs.Prelude.{ℕ, List, [], ◌∷◌, map, length, slice_index_or}
use Rattle.cell_core.specs.declared.cell.Cell.TheVariants as cell
use Rattle.cell_core.specs.declared.cell.Label.{Label}
use Rattle.cell_core.specs.declared.cell.Label.TheVariants.{Na}
use Rattle.column_core.specs.cells.Text.{Text}
use Rattle.column_core.specs.cells.Column.{tabulate}
use Rattle.column_core.specs.Columns.{CellColumn}
use Rattle.cell_core.specs.Values.{label_of}
use Rattle.row_keys.specs.Keys.{same_tuple}
use Rattle.label_align.specs.Tuples.{tuple_seen, tuple_less}
use Rattle.meaning_group.specs.Keys.{KeyRules, tuple_rules}

-- tuples are told apart by the numbers of their texts, and stand in the order of what the texts say
abbrev pub seen_rules : List Text → KeyRules (List Label)
seen_rules texts = record {
  same = same_tuple;
  less = tuple_less texts;
  holds_na = λ key. tuple_rules.holds_na (tuple_seen texts key);
}

-- the key of a row: its cell in each column
abbrev pub row_key : List CellColumn → ℕ → List Label
row_key columns row = map (λ column. label_of (slice_index_or column.cells row cell.Na)) columns

abbrev pub column_keys : List CellColumn → ℕ → List (List Label)
column_keys columns count = tabulate count (row_key columns)

-- how many labels the first of these tuples has, and one where there is none
abbrev pub levels_of : List (List Label) → ℕ
levels_of tuples = length (slice_index_or tuples 0 (Na ∷ []))
