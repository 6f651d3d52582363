-- Which columns `pivot` and `pivot_table` are told.
use Rattle.std.specs.Prelude.{◌≡◌, ◌<◌, ◌≤◌, ℕ, List, length, Some}
use Rattle.column_core.specs.cells.Text.{Text}
use Rattle.frame_store.specs.tables.Table.{NumberedTable}
use Rattle.meaning_call.specs.declared.Accepted.TheVariants.{Scalar}
use Rattle.frame_labels.specs.method.Reshape as meant
use Rattle.frame_store.specs.Parts.{AreColumnsOf}
use Rattle.frame_store.specs.World.{World}
use Rattle.frame_labels.specs.Named.{NamesColumnsAt}
use Rattle.frame_signatures.specs.Bound.{accepted_at}
use Rattle.frame_signatures.specs.declared.bound.Bound.{Bound}
use Rattle.frame_reshape.specs.declared.told.Pivoted.{Pivoted}

abbrev pub pivoted_value : Pivoted → meant.Pivoted
pivoted_value p = record { index = p.index; columns = p.columns; values = p.values }

-- the same whatever the texts are
abbrev pub pivoted_seen : List Text → Pivoted → meant.Pivoted
pivoted_seen texts p = pivoted_value p

-- columns of the table, of the index one at least
pub record IsPivoted (t : NumberedTable) (p : Pivoted) : Type 0 where
  pub index : AreColumnsOf t p.index
  pub some : 1 ≤ length p.index
  pub columns : p.columns < length t.columns
  pub values : p.values < length t.columns

-- labels are named at the place 1 of the arguments, and a label at each of two others
pub record NamesPivot (w : World) (b : Bound) (column value : ℕ) : Type 0 where
  pub index : NamesColumnsAt w b 1
  pub columns : NamesColumnsAt w b column
  pub values : NamesColumnsAt w b value
  pub one_column : accepted_at b column ≡ Some Scalar
  pub one_value : accepted_at b value ≡ Some Scalar
