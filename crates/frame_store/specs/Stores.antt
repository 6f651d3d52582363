-- Live objects, and the columns that they have on the views of one pool.
use Rattle.std.specs.Prelude.{◌≡◌, ℕ, List, [], map, sum_by, Option, Some, None, Result, Ok, Err}
use Rattle.std.specs.Option.{option_map}
use Rattle.cell_core.specs.declared.grid.Shape.{Shape}
use Rattle.multi_index.specs.Axes.{AxisValue}
use Rattle.meaning_tables.specs.Table.{NumberedTable}
use Rattle.meaning_tables.specs.Valid.{IsWhole}
use Rattle.block_pool.specs.Pools.{PoolValue, live_count}
use Rattle.block_pool.specs.Placed.{slot}
use Rattle.block_manager.specs.Managed.{ManagerValue, BlockValue, StandsOn, Exchanges, Keeps, block_under, columns_on, times}
use Rattle.frame_store.specs.Parts.{HeadingList, table_with}

-- what a live object keeps: its columns are those of the manager, on the store's pool
pub record ObjectValue : Type 0 where
  pub shape : Shape
  pub axis : AxisValue
  pub headings : HeadingList
  pub manager : ManagerValue

abbrev pub table_over : PoolValue → ObjectValue → NumberedTable
table_over pool o = table_with o.shape o.axis o.headings (columns_on pool o.manager)

-- the manager stands on the pool, and the parts fit one another
pub record IsKeptOn (pool : PoolValue) (o : ObjectValue) : Type 0 where
  pub stands : StandsOn pool o.manager
  pub whole : IsWhole (table_over pool o)

-- the views of an object, if there is one
abbrev pub views_of : Option ObjectValue → List ℕ
views_of None = []
views_of (Some o) = o.manager.views

-- how often a view stands in an object
abbrev pub stands_in : ℕ → Option ObjectValue → ℕ
stands_in view o = times view (views_of o)

-- Each object is in order. Each live view belongs to one object and stands in it once, and no other view does.
pub record IsStore (objects : List (Option ObjectValue)) (pool : PoolValue) : Type 0 where
  pub kept : (id : ℕ) (o : ObjectValue) → slot objects id ≡ Some o → IsKeptOn pool o
  pub counted : (view : ℕ) → sum_by (stands_in view) objects ≡ live_count pool view

-- the table of each object, and the blocks on which its views lie
abbrev pub tables_over : PoolValue → List (Option ObjectValue) → ℕ → Option NumberedTable
tables_over pool objects = λ id. option_map (table_over pool) (slot objects id)

abbrev pub blocks_over : PoolValue → List (Option ObjectValue) → ℕ → List BlockValue
blocks_over pool objects = λ id. map (block_under pool) (views_of (slot objects id))

-- the views of the one list gave way to those of the other, and each other one is as it was
pub record Trades (old new : PoolValue) (from to : List ℕ) : Type 0 where
  pub views : Exchanges old new from to
  pub kept : Keeps old new from

-- the views of what was made, if it was
abbrev pub manager_views : {E : Type 0} → Result ManagerValue E → List ℕ
manager_views (Ok m) = m.views
manager_views (Err e) = []

abbrev pub object_views : {E : Type 0} → Result ObjectValue E → List ℕ
object_views (Ok o) = o.manager.views
object_views (Err e) = []

-- so many cells where it was done, and none where it was refused
abbrev pub charged : {A E : Type 0} → ℕ → Result A E → ℕ
charged n (Ok x) = n
charged n (Err e) = 0
