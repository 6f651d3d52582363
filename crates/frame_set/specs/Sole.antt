-- What a setting leaves of the blocks of an object whose picked columns are alone on theirs.
use Rattle.std.specs.Prelude.{◌≡◌, ℕ, List, [], length, Option, Some, None, Result, Ok, Err}
use Rattle.cell_core.specs.declared.grid.Shape.{Shape}
use Rattle.cell_core.specs.declared.grid.Shape.TheVariants.{Series, Frame}
use Rattle.column_core.specs.cells.Text.{Text}
use Rattle.column_core.specs.cells.Fault.{FaultValue}
use Rattle.column_core.specs.cells.Symbol.{Accessor}
use Rattle.frame_store.specs.tables.Table.{NumberedTable, Table, table_value}
use Rattle.frame_store.specs.tables.Value.{GivenSub}
use Rattle.frame_select.specs.select.Keys.{all_columns, only_column}
use Rattle.frame_select.specs.select.Select.{Way, plain, through}
use Rattle.frame_select.specs.select.Set.{Reached, columns_set}
use Rattle.frame_store.specs.Objects.{table_on, blocks_on, AreSoleIn}
use Rattle.frame_store.specs.declared.object.ObjId.{ObjId}
use Rattle.frame_store.specs.declared.arguments.Value.{Value}
use Rattle.frame_store.specs.declared.arguments.Value.TheVariants.{Object, Scalar}
use Rattle.frame_store.specs.declared.store.Store.{Store}
use Rattle.frame_set.specs.declared.changes.Change.{Change}
use Rattle.frame_set.specs.declared.changes.Change.TheVariants as change
use Rattle.frame_set.specs.declared.changes.Setting.{Setting}
use Rattle.frame_set.specs.declared.changes.Setting.TheVariants as setting

-- The columns that the keys of an accessor pick: that of a Series, and of a frame those of the column key, or all where none is
-- given. What a setting costs counts the different ones.
abbrev pub places_reached : Result Reached FaultValue → List ℕ
places_reached (Ok reached) = reached.places
places_reached (Err fault) = []

abbrev pub columns_by_key : Accessor → Table → Option GivenSub → List ℕ
columns_by_key by t None = (all_columns t).rows
columns_by_key by t (Some key) = places_reached (columns_set by t key)

abbrev pub columns_picked : Shape → Accessor → Table → Option GivenSub → List ℕ
columns_picked Series by t second = only_column.rows
columns_picked Frame by t second = columns_by_key by t second

-- those of an object
abbrev pub columns_picked_on : Store → List Text → ObjId → Accessor → Option GivenSub → List ℕ
columns_picked_on s texts id by second = columns_picked (table_on s id).shape by (table_value texts (table_on s id)) second

-- a table has as many rows and as many columns as another one
abbrev pub IsAsLarge : NumberedTable → NumberedTable → Type 0
IsAsLarge old new = (length new.labels ≡ length old.labels) × (length new.columns ≡ length old.columns)

-- A setting behind an accessor that adds no row and no column leaves the object on the blocks on which it lay, where each picked
-- column is alone on its block.
abbrev pub KeepsSoleBlocks : Store → Store → List Text → Value → Way → Option GivenSub → Type 0
KeepsSoleBlocks old new texts (Object id) (through by) second =
    IsAsLarge (table_on old id) (table_on new id) → AreSoleIn old id (columns_picked_on old texts id by second) → blocks_on new id.0 ≡ blocks_on old id.0
KeepsSoleBlocks old new texts (Object id) plain second = Unit {0}
KeepsSoleBlocks old new texts (Scalar c) way second = Unit {0}

-- a change sets cells of these columns, or adds a column last; and a setting behind an accessor does
abbrev pub SetsColumns : NumberedTable → List ℕ → Change → Type 0
SetsColumns t picked (change.Cells rows columns values) = columns ≡ picked
SetsColumns t picked (change.Column place label block) = place ≡ length t.columns
SetsColumns t picked (change.Columns places label block) = ⊥
SetsColumns t picked (change.Table made) = Unit {0}

abbrev pub SetsPicked : Way → NumberedTable → List ℕ → Setting → Type 0
SetsPicked plain t picked s = Unit {0}
SetsPicked (through by) t picked (setting.Change change) = SetsColumns t picked change
SetsPicked (through by) t picked (setting.Move place label series) = ⊥

-- a change of cells leaves the object on its blocks where its columns are alone on theirs; and a setting does
abbrev pub LeavesBlocks : Store → Store → ObjId → Change → Type 0
LeavesBlocks old new on (change.Cells rows columns values) = AreSoleIn old on columns → blocks_on new on.0 ≡ blocks_on old on.0
LeavesBlocks old new on (change.Column place label block) = Unit {0}
LeavesBlocks old new on (change.Columns places label block) = Unit {0}
LeavesBlocks old new on (change.Table made) = Unit {0}

abbrev pub LeavesBlocksAfter : Store → Store → ObjId → Setting → Type 0
LeavesBlocksAfter old new on (setting.Change change) = LeavesBlocks old new on change
LeavesBlocksAfter old new on (setting.Move place label series) = Unit {0}
