-- Changes of a pool one after another, of which the calls of a manager are made.
use Rattle.std.specs.Prelude.{◌≡◌, ◌⊎◌, ◌+◌, ◌<◌, ℕ, Bool, true, false, List, [], ◌∷◌, map, sum}
use Rattle.std.specs.FinMap.{get, insert}
use Rattle.column_core.specs.Blocks.{CellBlock}
-- the numbers of views, a word of the pool
pub use Rattle.block_pool.specs.Pools.{numbers_of}
use Rattle.block_pool.specs.Pools.{PoolValue, IsNewBlock, Ends, IsFree, IsLive, IsSole, cells_of, full_view, grid_at, live_count, total_of, view_at, view_with}
use Rattle.block_manager.specs.Managed.{times, Stays, StayOnBlocks}

-- the grids of views
abbrev pub grids_of : PoolValue → List ℕ → List CellBlock
grids_of pool views = map (grid_at pool) views

-- a new view with this grid, alone on a new block with so many cells, however many more can be made for sure
pub record Copies (old new : PoolValue) (id : ℕ) (grid : CellBlock) : Type 0 where
  pub block : ℕ
  pub new_block : IsNewBlock old block
  pub views : new.views ≡ insert old.views id (full_view block grid)
  pub blocks : new.blocks ≡ insert old.blocks block (cells_of grid)

-- these views ended; the first ended last
abbrev pub EndsEach : PoolValue → List ℕ → PoolValue → Type 0
EndsEach old [] new = new ≡ old
EndsEach old (id ∷ rest) new = (mid : PoolValue) × EndsEach old rest mid × Ends mid new id

-- views of a list were written: each view lies where it lay, and no other one shows other cells
pub record Writes (old new : PoolValue) (views : List ℕ) : Type 0 where
  pub live : (id : ℕ) → live_count new id ≡ live_count old id
  pub kept : (id : ℕ) → times id views ≡ 0 → get new.views id ≡ get old.views id
  pub lies : StayOnBlocks old new

-- a new view with this grid, on the block of a live one, however many more can be made for sure
pub record Partakes (old new : PoolValue) (id : ℕ) (grid : CellBlock) : Type 0 where
  pub from : ℕ
  pub live : IsLive old from
  pub views : new.views ≡ insert old.views id (view_with (view_at old from) grid)
  pub blocks : new.blocks ≡ old.blocks

-- these views are new, each of them a copy or on a block that was there; the first was made first
abbrev pub Lays : PoolValue → List ℕ → PoolValue → Type 0
Lays old [] new = Stays old new
Lays old (id ∷ rest) new = (grid : CellBlock) × (mid : PoolValue) × IsFree old id × (Copies old mid id grid ⊎ Partakes old mid id grid) × Lays mid rest new

-- a new view with this grid, on a new block of its own where it is alone, and else on the block of a live view; one less
-- can be made for sure
pub record LaysRun (old new : PoolValue) (id from : ℕ) (grid : CellBlock) (alone : Bool) : Type 0 where
  pub copies : alone ≡ true → Copies old new id grid
  pub shares : alone ≡ false → (p : Partakes old new id grid) × (p.from ≡ from)
  pub spare : new.spare + 1 ≡ old.spare

-- these views are new, each of all cells of one of the blocks and alone there
pub record AddsAll (old new : PoolValue) (views : List ℕ) (blocks : List CellBlock) : Type 0 where
  pub lays : Lays old views new
  pub sole : (id : ℕ) → 0 < times id views → IsSole new id
  pub grids : grids_of new views ≡ blocks
  pub held : total_of new ≡ total_of old + sum (map cells_of blocks)
