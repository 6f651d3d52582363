-- What `groupby` and its brackets say.
use Rattle.std.specs.Prelude.{◌≡◌, ℕ, ◌≤◌, Bool, true, List, length}
use Rattle.column_core.specs.cells.Text.{Text}
use Rattle.frame_store.specs.tables.Table.{NumberedTable}
use Rattle.frame_labels.specs.method.Groups as meant
use Rattle.frame_store.specs.Parts.{AreColumnsOf}
use Rattle.frame_groups.specs.declared.grouping.Grouping.{Grouping}
use Rattle.frame_groups.specs.declared.values.Values.{Values}

abbrev pub grouping_seen : List Text → Grouping → meant.Grouping
grouping_seen texts g = record { keys = g.keys; sorted = g.sorted; dropna = g.dropna; as_index = g.as_index }

abbrev pub values_seen : List Text → Values → meant.Values
values_seen texts v = record { places = v.places; single = v.single }

-- columns of the table, one at least, and four at most where they are to be labels
pub record AreKeys (t : NumberedTable) (as_index : Bool) (keys : List ℕ) : Type 0 where
  pub below : AreColumnsOf t keys
  pub some : 1 ≤ length keys
  pub few : as_index ≡ true → length keys ≤ 4

abbrev pub HasKeys : NumberedTable → Grouping → Type 0
HasKeys t g = AreKeys t g.as_index g.keys

-- columns of the table, and one alone where one label names them
pub record AreValues (t : NumberedTable) (v : Values) : Type 0 where
  pub below : AreColumnsOf t v.places
  pub one : v.single ≡ true → length v.places ≡ 1
