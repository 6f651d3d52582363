-- The groups of a table's rows by the cells of columns.
use Rattle.std.specs.Prelude.{◌≡◌, ℕ, Bool, true, List, map, length}
use Rattle.column_core.specs.cells.Text.{Text}
use Rattle.factorize.specs.declared.factor.KeyGroups.{KeyGroups}
use Rattle.frame_store.specs.tables.Table.{NumberedTable, table_value}
use Rattle.frame_store.specs.Parts.{AreRowsOf}
use Rattle.frame_store.specs.Shown.{labels_value}
use Rattle.meaning_method.specs.Groups.{Grouping, groups_of, keys_of}
use Rattle.frame_labels.specs.Levels.{row_labels}

-- rows with equal cells in these columns
abbrev pub grouping_by : List ℕ → Bool → Bool → Grouping
grouping_by keys sorted dropna = record { keys = keys; sorted = sorted; dropna = dropna; as_index = true }

-- the groups that are meant, each with a row of its own that has its key, and a group or none for each row
pub record AreGroupsOf (texts : List Text) (t : NumberedTable) (g : Grouping) (found : KeyGroups) : Type 0 where
  pub groups : found.groups ≡ groups_of (table_value texts t) g
  pub labels : labels_value texts (map (row_labels t g.keys) found.firsts) ≡ keys_of (table_value texts t) g
  pub firsts : AreRowsOf t found.firsts
  pub count : length found.firsts ≡ found.groups.count
  pub codes : length found.groups.codes ≡ length t.labels
