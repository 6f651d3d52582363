-- A manager as contracts see it: views of a pool, and columns that are placed on them.
use Rattle.std.specs.Prelude.{◌≡◌, ◌≢◌, ℕ, ◌+◌, ◌<◌, ◌≤◌, ◌==◌, List, [], map, length, sum, count_by, slice_index_or, All, AllPairs}
use Rattle.std.specs.FinMap.{get}
use Rattle.cell_core.specs.declared.cell.Cell.{Cell}
use Rattle.column_core.specs.Blocks.{CellBlock}
use Rattle.meaning_tables.specs.cells.Reduce.{distinct}
use Rattle.meaning_tables.specs.Table.{ColumnOf, column_at}
use Rattle.block_pool.specs.Pools.{PoolValue, ViewValue, grid_at, view_at, live_count, total_of, IsSole}

-- where a column stands: a view, and the column of its grid
pub record Place : Type 0 where
  pub view : ℕ
  pub column : ℕ

pub record ManagerValue : Type 0 where
  pub views : List ℕ
  pub places : List Place

abbrev pub no_columns : ManagerValue
no_columns = record { views = []; places = [] }

-- the column of a grid, and the one at a place
abbrev pub grid_column : CellBlock → ℕ → ColumnOf Cell
grid_column grid column = record { kind = grid.kind; cells = slice_index_or grid.columns column [] }

abbrev pub placed_column : PoolValue → Place → ColumnOf Cell
placed_column pool p = grid_column (grid_at pool p.view) p.column

-- the columns of a manager, by their places
abbrev pub columns_on : PoolValue → ManagerValue → List (ColumnOf Cell)
columns_on pool m = map (placed_column pool) m.places

-- how often a view stands in a list
abbrev pub times : ℕ → List ℕ → ℕ
times id views = count_by (λ view. view == id) views

-- each of these views is live, and stands there once
abbrev pub AreLive : PoolValue → List ℕ → Type 0
AreLive pool views = (id : ℕ) → times id views ≤ live_count pool id

-- the place is a column of one of the views
pub record IsColumnOf (pool : PoolValue) (views : List ℕ) (p : Place) : Type 0 where
  pub view : 0 < times p.view views
  pub column : p.column < length (grid_at pool p.view).columns

-- The views are live, and the places are all columns of all of them, each of them once. A column has as many cells as its
-- view has rows.
pub record StandsOn (pool : PoolValue) (m : ManagerValue) : Type 0 where
  pub live : AreLive pool m.views
  pub placed : All (IsColumnOf pool m.views) m.places
  pub covered : (p : Place) → IsColumnOf pool m.views p → All (λ q. q ≢ p) m.places → ⊥
  pub once : AllPairs ◌≢◌ m.places
  pub even : All (λ p. length (placed_column pool p).cells ≡ (grid_at pool p.view).rows) m.places

-- The live views are those from before, without the ones of the first list and with those of the second. So those of the
-- second that aren't in the first are new, none of them stands there twice, and no view was lost.
abbrev pub Exchanges : PoolValue → PoolValue → List ℕ → List ℕ → Type 0
Exchanges old new from to = (id : ℕ) → live_count old id + times id to ≡ live_count new id + times id from

-- each live view but these has the block and the grid that it had
abbrev pub Keeps : PoolValue → PoolValue → List ℕ → Type 0
Keeps old new own = (id : ℕ) → times id own ≡ 0 → live_count old id ≡ 1 → get new.views id ≡ get old.views id

-- the same views on the same blocks, however many more can be made for sure
pub record Stays (old new : PoolValue) : Type 0 where
  pub views : new.views ≡ old.views
  pub blocks : new.blocks ≡ old.blocks

-- the block on which a view lies: its name, and how many cells it has
pub record BlockValue : Type 0 where
  pub name : ℕ
  pub cells : ℕ

abbrev pub under : ViewValue → BlockValue
under view = record { name = view.block; cells = view.cells }

abbrev pub block_under : PoolValue → ℕ → BlockValue
block_under pool id = under (view_at pool id)

-- the same blocks, and each view on the one on which it lay
pub record StayOnBlocks (old new : PoolValue) : Type 0 where
  pub blocks : new.blocks ≡ old.blocks
  pub lies : (id : ℕ) → block_under new id ≡ block_under old id

-- at most so many cells more are held
abbrev pub RaisesBy : ℕ → PoolValue → PoolValue → Type 0
RaisesBy n old new = total_of new ≤ total_of old + n

-- the view at a place
abbrev pub view_of : ManagerValue → ℕ → ℕ
view_of m column = (slice_index_or m.places column record { view = 0; column = 0 }).view

-- the view of each of these columns is alone on its block
abbrev pub AreSole : PoolValue → ManagerValue → List ℕ → Type 0
AreSole pool m columns = All (λ column. IsSole pool (view_of m column)) columns

-- how many cells the columns at these places have, each counted once
abbrev pub cells_named : List (ColumnOf Cell) → List ℕ → ℕ
cells_named columns places = sum (map (λ place. length (column_at columns place).cells) (distinct ◌==◌ places))

-- how many rows the first column has
abbrev pub rows_of : List (ColumnOf Cell) → ℕ
rows_of columns = length (column_at columns 0).cells

-- columns of one kind are on one view
abbrev pub AreJoined : PoolValue → ManagerValue → Type 0
AreJoined pool m = All (λ p. All (λ q. (placed_column pool q).kind ≡ (placed_column pool p).kind → q.view ≡ p.view) m.places) m.places
