-- Objects and their tables.
use Rattle.std.specs.Prelude.{◌≡◌, ◌≢◌, ℕ, nat_eq, sum, List, All, Contains, Option, Some, None, IsSome, Result, Ok, Err, if◌then◌else◌}
use Rattle.std.specs.Ordering.{nat_cmp}
use Rattle.std.specs.FinMap.{FinMap, get, values}
use Rattle.cell_core.specs.declared.cell.Label.{Label}
use Rattle.block_pool.specs.Pools.{total_of, held_of as pool_held}
use Rattle.block_pool.specs.Placed.{slot}
use Rattle.meaning_tables.specs.Table.{NumberedTable, no_table, column_at}
use Rattle.meaning_tables.specs.Change.{with_column}
use Rattle.block_manager.specs.Managed.{ManagerValue, BlockValue, no_columns, AreJoined, RaisesBy, AreSole}
use Rattle.frame_store.specs.Stores.{ObjectValue, blocks_over, tables_over}
use Rattle.frame_store.specs.declared.object.ObjId.{ObjId}
use Rattle.frame_store.specs.declared.store.Store.{Store}

-- the table of each live object
abbrev pub Tables : Type 0
Tables = ℕ → Option NumberedTable

abbrev pub tables : Store → Tables
tables s = tables_over s.pool s.objects.slots

-- the tables with another one, or none, for an object
abbrev pub with_object : Tables → ℕ → Option NumberedTable → Tables
with_object tables id t = λ other. if nat_eq id other then t else tables other

-- the table of a live object
abbrev pub table_or : Option NumberedTable → NumberedTable
table_or None = no_table
table_or (Some t) = t

abbrev pub table_at : Tables → ℕ → NumberedTable
table_at tables id = table_or (tables id)

abbrev pub table_on : Store → ObjId → NumberedTable
table_on s id = table_at (tables s) id.0

-- the object is live, or no live object has the number
abbrev pub IsLiveIn : Store → ObjId → Type 0
IsLiveIn s id = IsSome (tables s id.0)

abbrev pub IsFree : Store → ObjId → Type 0
IsFree s id = tables s id.0 ≡ None

-- What a call does to a store, here and in the forms that stand above it: what a `World` knows of objects changes by these
-- words alone. Each object has the table that it had; the object has this table, and each other one has what it had; the table
-- of the object is changed so, and no other one; the tables are changed so.
abbrev pub Stays : Store → Store → Type 0
Stays old new = tables new ≡ tables old

abbrev pub Becomes : Store → Store → ObjId → NumberedTable → Type 0
Becomes old new id t = tables new ≡ with_object (tables old) id.0 (Some t)

abbrev pub Alters : Store → Store → ObjId → (NumberedTable → NumberedTable) → Type 0
Alters old new id change = Becomes old new id (change (table_on old id))

abbrev pub Turns : Store → Store → (Tables → Tables) → Type 0
Turns old new change = tables new ≡ change (tables old)

-- the tables after the column of a Series, which ends, was put into the table of another object
abbrev pub with_moved : Tables → ℕ → ℕ → Option Label → ℕ → Tables
with_moved tables on column heading series =
    with_object (with_object tables series None) on
    (Some (with_column (table_at tables on) column heading (column_at (table_at tables series).columns 0)))

-- the tables after an object got the table of another one, which ends
abbrev pub with_replaced : Tables → ℕ → ℕ → Tables
with_replaced tables on by = with_object (with_object tables on (tables by)) by None

-- the blocks on which the columns of each live object lie
abbrev pub BlocksByObject : Type 0
BlocksByObject = ℕ → List BlockValue

abbrev pub blocks_on : Store → BlocksByObject
blocks_on s = blocks_over s.pool s.objects.slots

-- How many cells the live objects hold together, up to 2^64 - 1. A block on which several of them have columns counts once.
abbrev pub held_of : Store → ℕ
held_of s = pool_held s.pool

-- What live objects hold of the pool: how many cells its blocks have together, and the blocks on which the columns of each
-- object lie.
pub record Holding : Type 0 where
  pub cells : ℕ
  pub blocks : BlocksByObject

abbrev pub holding_of : Store → Holding
holding_of s = record { cells = total_of s.pool; blocks = blocks_on s }

-- What is held is the cells of the blocks on which live objects lie, by their names: each counts once, on however many
-- objects it is.
pub record CountsOnce (tables : Tables) (holding : Holding) : Type 0 where
  pub blocks : FinMap nat_cmp ℕ
  pub cells : holding.cells ≡ sum (values blocks)
  pub lies : (id : ℕ) → All (λ block. get blocks block.name ≡ Some block.cells) (holding.blocks id)
  pub used : (name count : ℕ) → get blocks name ≡ Some count → (id : ℕ) × IsSome (tables id) × Contains (holding.blocks id) record { name = name; cells = count }

-- at most so many cells more are held
abbrev pub Raises : ℕ → Store → Store → Type 0
Raises n old new = RaisesBy n old.pool new.pool

-- the object that a call changes, where it is done
abbrev pub changing : {A E : Type 0} → ℕ → Result A E → Option ℕ
changing id (Ok x) = Some id
changing id (Err e) = None

-- Each object that was live and still is, but this one, lies on the blocks on which it lay: by the tables and the blocks
-- before and after, and by the stores.
abbrev pub LieStill : Option ℕ → Tables → Tables → BlocksByObject → BlocksByObject → Type 0
LieStill but old new before after = (id : ℕ) → IsSome (old id) → IsSome (new id) → but ≢ Some id → after id ≡ before id

abbrev pub KeepBlocks : Option ℕ → Store → Store → Type 0
KeepBlocks but old new = LieStill but (tables old) (tables new) (blocks_on old) (blocks_on new)

-- the manager of a live object
abbrev pub manager_or : Option ObjectValue → ManagerValue
manager_or None = no_columns
manager_or (Some o) = o.manager

-- the columns at these places are alone on their blocks
abbrev pub AreSoleIn : Store → ObjId → List ℕ → Type 0
AreSoleIn s id columns = AreSole s.pool (manager_or (slot s.objects.slots id.0)) columns

-- the columns of one kind of an object are on one block
abbrev pub AreByKind : Store → ObjId → Type 0
AreByKind s id = AreJoined s.pool (manager_or (slot s.objects.slots id.0))
