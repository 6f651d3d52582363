-- Views by their kinds, and where their columns stand once those of each group are on one view.
use Rattle.std.specs.Prelude.{◌≡◌, ◌≢◌, ℕ, ◌+◌, ◌^◌, ◌<◌, ◌≤◌, ◌⊎◌, ◌++◌, List, [], ◌∷◌, map, length, sum_by, slice_index, slice_index_or, slice_set, All, AllPairs, vec_capacity}
use Rattle.std.specs.List.{flat_map}
use Rattle.std.specs.FinMap.{get}
use Rattle.cell_core.specs.declared.cell.{Cell.{Cell}, Kind.{Kind}, Kind.TheVariants.{Int64}}
use Rattle.column_core.specs.Blocks.{CellBlock}
use Rattle.block_pool.specs.Pools.{PoolValue, grid_at, live_count, total_of, IsApart, IsFull}
use Rattle.block_manager.specs.declared.{spots.Spot.{Spot}, groups.Group.{Group}}
use Rattle.block_manager.specs.Managed.{times, AreLive}
use Rattle.block_manager.specs.Changes.{numbers_of, grids_of}
use Rattle.block_manager.specs.Spots.{spot_at}

-- views of one kind, and how many columns they have
pub record GroupValue : Type 0 where
  pub kind : Kind
  pub views : List ℕ
  pub count : ℕ

abbrev pub group_seen : Group → GroupValue
group_seen g = record { kind = g.kind; views = numbers_of g.views.items; count = g.count }

abbrev pub groups_seen : List Group → List GroupValue
groups_seen groups = map group_seen groups

abbrev pub no_views : Kind → GroupValue
no_views kind = record { kind = kind; views = []; count = 0 }

abbrev pub group_at : List GroupValue → ℕ → GroupValue
group_at groups k = slice_index_or groups k (no_views Int64)

-- the place is that of the group of a kind, which is a new one behind the others where there was none
pub record HasGroup (old new : List GroupValue) (kind : Kind) (place : ℕ) : Type 0 where
  pub there : place < length new
  pub kind_is : (group_at new place).kind ≡ kind
  pub is : (new ≡ old) ⊎ ((new ≡ old ++ no_views kind ∷ []) × (place ≡ length old) × All (λ g. g.kind ≢ kind) old)

-- a group with one view more, which has so many columns
abbrev pub with_view : GroupValue → ℕ → ℕ → GroupValue
with_view g view width = record { kind = g.kind; views = g.views ++ view ∷ []; count = g.count + width }

-- a view came into the group of its kind, where its columns stand behind those of the others
pub record Enters (grids : ℕ → CellBlock) (view : ℕ) (old new : List GroupValue) (target : Spot) : Type 0 where
  pub mid : List GroupValue
  pub group : HasGroup old mid (grids view).kind target.view
  pub column : target.column ≡ (group_at mid target.view).count
  pub few : target.column + length (grids view).columns < 2 ^ 64
  pub is : new ≡ slice_set mid target.view (with_view (group_at mid target.view) view (length (grids view).columns))

-- how often a view stands in groups
abbrev pub times_in : ℕ → List GroupValue → ℕ
times_in q groups = sum_by (λ g. times q g.views) groups

-- the columns of a group
abbrev pub group_columns : (ℕ → CellBlock) → GroupValue → List (List Cell)
group_columns grids g = flat_map (λ view. (grids view).columns) g.views

-- where a column of a view goes
abbrev pub moved : List Spot → Spot → Spot
moved targets s = record { view = (spot_at targets s.view).view; column = (spot_at targets s.view).column + s.column }

-- the columns of a view stand side by side in a group of its kind, at the column of a spot
pub record StandsIn (grids : ℕ → CellBlock) (groups : List GroupValue) (view : ℕ) (s : Spot) : Type 0 where
  pub inside : s.view < length groups
  pub kind_is : (group_at groups s.view).kind ≡ (grids view).kind
  pub before : List (List Cell)
  pub behind : List (List Cell)
  pub columns_are : group_columns grids (group_at groups s.view) ≡ before ++ ((grids view).columns ++ behind)
  pub column : s.column ≡ length before

-- how many columns a view has, by its place
abbrev pub width_of : (ℕ → CellBlock) → List ℕ → ℕ → ℕ
width_of grids views v = length (grids (slice_index views v)).columns

-- where columns of views go
pub record AreTargets (grids : ℕ → CellBlock) (views : List ℕ) (groups : List GroupValue) (targets : List Spot) : Type 0 where
  pub long : length targets ≡ length views
  pub stands : (v : ℕ) → v < length views → StandsIn grids groups (slice_index views v) (spot_at targets v)
  pub there : (t j : ℕ) → t < length groups → j < (group_at groups t).count
      → (v : ℕ) × (v < length views) × ((spot_at targets v).view ≡ t) × ((spot_at targets v).column ≤ j) × (j < (spot_at targets v).column + width_of grids views v)
  pub apart : (u v : ℕ) → u < v → v < length views → (spot_at targets u).view ≡ (spot_at targets v).view
      → (spot_at targets u).column + width_of grids views u ≤ (spot_at targets v).column
  pub few : (v : ℕ) → v < length views → (spot_at targets v).column + width_of grids views v < 2 ^ 64

-- Groups of views of one kind each, and of different kinds, whose columns are counted. Each view is in one of them.
pub record AreSorted (grids : ℕ → CellBlock) (views : List ℕ) (groups : List GroupValue) : Type 0 where
  pub kinds : AllPairs ◌≢◌ (map (λ g. g.kind) groups)
  pub alike : All (λ g. All (λ view. (grids view).kind ≡ g.kind) g.views) groups
  pub counts : All (λ g. g.count ≡ length (group_columns grids g)) groups
  pub once : (q : ℕ) → times_in q groups ≡ times q views

-- The views are in groups, each of which has some. The columns of each stand side by side in its group, those of one view
-- behind those of the views before it.
pub record AreGroups (grids : ℕ → CellBlock) (views : List ℕ) (groups : List GroupValue) (targets : List Spot) : Type 0 where
  pub sorted : AreSorted grids views groups
  pub some : All (λ g. 0 < length g.views) groups
  pub fewer : length groups ≤ length views
  pub targets_are : AreTargets grids views groups targets

-- the view has columns, and all cells of its block
pub record IsFilled (pool : PoolValue) (id : ℕ) : Type 0 where
  pub some : 0 < length (grid_at pool id).columns
  pub full : IsFull pool id

-- there is room for the columns of a group
abbrev pub HasRoom : Group → Type 0
HasRoom g = (g.room.items ≡ []) × (g.count ≤ vec_capacity g.room)

-- what one view of a group shows
abbrev pub group_grid : (ℕ → CellBlock) → GroupValue → CellBlock
group_grid grids g = record { kind = g.kind; rows = (grids (slice_index g.views 0)).rows; columns = group_columns grids g }

-- The views of a group, of which there is one, are on blocks of their own, each of them stands there once, and all are of
-- its kind and have as many rows.
pub record IsGroup (pool : PoolValue) (g : GroupValue) : Type 0 where
  pub some : 0 < length g.views
  pub live : AreLive pool g.views
  pub apart : All (IsApart pool) g.views
  pub kinds : All (λ view. (grid_at pool view).kind ≡ g.kind) g.views
  pub rows : All (λ view. (grid_at pool view).rows ≡ (grid_at pool (slice_index g.views 0)).rows) g.views

-- One view of a group is left, and shows the columns of all of them on a block of its own. Each other live view is as it
-- was, with its block.
pub record JoinsGroup (old new : PoolValue) (g : GroupValue) (left : ℕ) : Type 0 where
  pub grid : grid_at new left ≡ group_grid (grid_at old) g
  pub views : (q : ℕ) → live_count new q + times q g.views ≡ live_count old q + times q (left ∷ [])
  pub kept : (q : ℕ) → times q g.views ≡ 0 → get new.views q ≡ get old.views q
  pub apart : (q : ℕ) → times q g.views ≡ 0 → IsApart old q → IsApart new q
  pub held : total_of new ≡ total_of old

-- the same of several groups
pub record JoinsGroups (old new : PoolValue) (groups : List GroupValue) (left : List ℕ) : Type 0 where
  pub grids : grids_of new left ≡ map (group_grid (grid_at old)) groups
  pub views : (q : ℕ) → live_count new q + times_in q groups ≡ live_count old q + times q left
  pub kept : (q : ℕ) → times_in q groups ≡ 0 → get new.views q ≡ get old.views q
  pub held : total_of new ≡ total_of old
