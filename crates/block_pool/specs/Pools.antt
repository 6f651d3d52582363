-- A pool as contracts see it: its live views, and the blocks that they lie on.
use Rattle.std.specs.Prelude.{◌≡◌, ◌≢◌, ℕ, ◌+◌, ◌-◌, ◌*◌, ◌≤◌, ◌^◌, cond, is_some, min, List, [], ◌∷◌, ◌++◌, map, length, sum, slice_index_or, Option, Some, None, IsSome, All, AllPairs}
use Rattle.std.specs.List.{flat_map}
use Rattle.std.specs.Ordering.{nat_cmp}
use Rattle.std.specs.FinMap.{FinMap, get, insert, remove, empty, values}
use Rattle.cell_core.specs.declared.cell.Cell.{Cell}
use Rattle.cell_core.specs.declared.cell.Cell.TheVariants.{Na}
use Rattle.cell_core.specs.declared.cell.Kind.TheVariants.{Int64}
use Rattle.cell_core.specs.declared.grid.Rows.{Rows}
use Rattle.column_core.specs.cells.Block.{strided, with_cell}
use Rattle.column_core.specs.cells.Column.{tabulate}
use Rattle.column_core.specs.Blocks.{CellBlock}
use Rattle.block_pool.specs.declared.views.ViewId.{ViewId}

-- the numbers of views
abbrev pub numbers_of : List ViewId → List ℕ
numbers_of views = map (λ view. view.0) views

-- a live view: the name of the block that it lies on, how many cells that block has, and its own cells
pub record ViewValue : Type 0 where
  pub block : ℕ
  pub cells : ℕ
  pub grid : CellBlock

-- the live views by number, the blocks under them by name with how many cells each has, and how
-- many more views can be made for sure
pub record PoolValue : Type 0 where
  pub views : FinMap nat_cmp ViewValue
  pub blocks : FinMap nat_cmp ℕ
  pub spare : ℕ

abbrev pub empty_pool : PoolValue
empty_pool = record { views = empty; blocks = empty; spare = 0 }

-- how many cells a grid has
abbrev pub cells_of : CellBlock → ℕ
cells_of grid = length grid.columns * grid.rows

-- a view that has all cells of its block
abbrev pub full_view : ℕ → CellBlock → ViewValue
full_view block grid = record { block = block; cells = cells_of grid; grid = grid }

-- a view with another grid, on the block of this one
abbrev pub view_with : ViewValue → CellBlock → ViewValue
view_with view grid = record view { grid = grid }

-- the grid of these columns and rows of another one
abbrev pub cut : CellBlock → ℕ → ℕ → Rows → CellBlock
cut grid from count rows =
    record {
      kind = grid.kind;
      rows = rows.count;
      columns = tabulate count (λ column. strided Na (slice_index_or grid.columns (from + column) []) rows);
    }

-- the grid with another cell
abbrev pub grid_with : CellBlock → ℕ → ℕ → Cell → CellBlock
grid_with grid column row cell = record { kind = grid.kind; rows = grid.rows; columns = with_cell grid.columns column row cell }

abbrev pub view_or : Option ViewValue → ViewValue
view_or None = record { block = 0; cells = 0; grid = record { kind = Int64; rows = 0; columns = [] } }
view_or (Some view) = view

-- what is seen of a live view
abbrev pub view_at : PoolValue → ℕ → ViewValue
view_at pool id = view_or (get pool.views id)

abbrev pub grid_at : PoolValue → ℕ → CellBlock
grid_at pool id = (view_at pool id).grid

abbrev pub block_at : PoolValue → ℕ → ℕ
block_at pool id = (view_at pool id).block

-- the view is live, or no live view has the number
abbrev pub IsLive : PoolValue → ℕ → Type 0
IsLive pool id = IsSome (get pool.views id)

abbrev pub IsFree : PoolValue → ℕ → Type 0
IsFree pool id = get pool.views id ≡ None

-- 1 where the view is live, and else 0: lists of views are compared by how often each stands in them
abbrev pub live_count : PoolValue → ℕ → ℕ
live_count pool id = cond (is_some (get pool.views id)) 1 0

-- no other live view has the block of this one
abbrev pub IsSole : PoolValue → ℕ → Type 0
IsSole pool id = (other : ℕ) (view : ViewValue) → get pool.views other ≡ Some view → other ≢ id → view.block ≢ block_at pool id

-- how many cells the blocks have on which a live view lies; and up to 2^64 - 1
abbrev pub total_of : PoolValue → ℕ
total_of pool = sum (values pool.blocks)

abbrev pub held_of : PoolValue → ℕ
held_of pool = min (total_of pool) (2 ^ 64 - 1)

-- no block has the name, and no live view lies there
pub record IsNewBlock (pool : PoolValue) (block : ℕ) : Type 0 where
  pub unknown : get pool.blocks block ≡ None
  pub unused : (id : ℕ) (view : ViewValue) → get pool.views id ≡ Some view → view.block ≢ block

-- a new view, on a new block of its own with so many cells as it has itself
pub record Adds (old new : PoolValue) (id : ℕ) (grid : CellBlock) : Type 0 where
  pub block : ℕ
  pub new_block : IsNewBlock old block
  pub views : new.views ≡ insert old.views id (full_view block grid)
  pub blocks : new.blocks ≡ insert old.blocks block (cells_of grid)
  pub spare : new.spare ≡ old.spare

-- the view moved alone to a new block with so many cells as it has itself
pub record Owns (old new : PoolValue) (id : ℕ) : Type 0 where
  pub block : ℕ
  pub new_block : IsNewBlock old block
  pub views : new.views ≡ insert old.views id (full_view block (grid_at old id))
  pub blocks : new.blocks ≡ insert old.blocks block (cells_of (grid_at old id))
  pub spare : new.spare ≡ old.spare

-- a new view with this grid, on the block of another one; one less can be made for sure
pub record Shares (old new : PoolValue) (id from : ℕ) (grid : CellBlock) : Type 0 where
  pub views : new.views ≡ insert old.views id (view_with (view_at old from) grid)
  pub blocks : new.blocks ≡ old.blocks
  pub spare : new.spare + 1 ≡ old.spare

-- the view has another grid, and no other view and no block has changed
abbrev pub with_grid : PoolValue → ℕ → CellBlock → PoolValue
with_grid pool id grid = record pool { views = insert pool.views id (view_with (view_at pool id) grid) }

-- the view ended; its block went with it where it was alone there
pub record Ends (old new : PoolValue) (id : ℕ) : Type 0 where
  pub views : new.views ≡ remove old.views id
  pub sole : IsSole old id → new.blocks ≡ remove old.blocks (block_at old id)
  pub shared : ¬ IsSole old id → new.blocks ≡ old.blocks
  pub spare : new.spare ≡ old.spare + 1

-- the view has all cells of its block: there are as many of both
abbrev pub IsFull : PoolValue → ℕ → Type 0
IsFull pool id = get pool.blocks (block_at pool id) ≡ Some (cells_of (grid_at pool id))

-- the view and its block have another grid, and no other view and no other block has changed
abbrev pub with_block : PoolValue → ℕ → CellBlock → PoolValue
with_block pool id grid = record pool {
  views = insert pool.views id (full_view (block_at pool id) grid);
  blocks = insert pool.blocks (block_at pool id) (cells_of grid);
}

-- the view is alone on its block and has all cells of it
pub record IsApart (pool : PoolValue) (id : ℕ) : Type 0 where
  pub live : IsLive pool id
  pub sole : IsSole pool id
  pub full : IsFull pool id

-- grids of one kind and so many rows
pub record IsAlike (grid other : CellBlock) : Type 0 where
  pub kind : other.kind ≡ grid.kind
  pub rows : other.rows ≡ grid.rows

-- each of these views has a block of its own, and the kind and the rows of the last one
pub record CanJoin (pool : PoolValue) (first : List ℕ) (last : ℕ) : Type 0 where
  pub different : AllPairs ◌≢◌ (first ++ last ∷ [])
  pub apart : All (IsApart pool) (first ++ last ∷ [])
  pub alike : All (λ id. IsAlike (grid_at pool last) (grid_at pool id)) first

-- the columns of grids side by side, and those of another one behind them
abbrev pub beside : List CellBlock → CellBlock → CellBlock
beside grids last = record last { columns = flat_map (λ grid. grid.columns) grids ++ last.columns }

-- these views ended, one after another
abbrev pub EndEach : PoolValue → List ℕ → PoolValue → Type 0
EndEach old [] new = new ≡ old
EndEach old (id ∷ rest) new = (mid : PoolValue) × Ends old mid id × EndEach mid rest new

-- the first views ended, and the last one has their columns before its own, all on its block
pub record Joins (old new : PoolValue) (first : List ℕ) (last : ℕ) : Type 0 where
  pub mid : PoolValue
  pub ended : EndEach old first mid
  pub is : new ≡ with_block mid last (beside (map (grid_at old) first) (grid_at old last))

-- What is so of every pool: the blocks are those of the live views, each has as many cells as its views say, and none has
-- fewer than a view on it.
pub record KeepsBlocks (pool : PoolValue) : Type 0 where
  pub lies : (id : ℕ) (view : ViewValue) → get pool.views id ≡ Some view → get pool.blocks view.block ≡ Some view.cells
  pub used : (block count : ℕ) → get pool.blocks block ≡ Some count → (id : ℕ) × (view : ViewValue) × (get pool.views id ≡ Some view) × (view.block ≡ block)
  pub large : (id : ℕ) (view : ViewValue) → get pool.views id ≡ Some view → cells_of view.grid ≤ view.cells
