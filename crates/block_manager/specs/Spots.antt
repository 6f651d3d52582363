-- Where the columns of a manager stand on its views, and of which columns new views are made.
use Rattle.std.specs.Prelude.{◌≡◌, ◌≢◌, ℕ, zero, suc, ◌+◌, ◌<◌, ◌≤◌, ◌==◌, ◌&&◌, ◌⊎◌, ◌++◌, Bool, true, false, cond, nat_lt, List, [], ◌∷◌, map, length, count_by, sum, sum_by, slice_index, slice_index_or, slice_set, All, Option, Some, None, pos}
use Rattle.cell_core.specs.declared.cell.Cell.{Cell}
use Rattle.cell_core.specs.declared.cell.Cell.TheVariants.{Na}
use Rattle.cell_core.specs.declared.cell.Kind.TheVariants.{Int64}
use Rattle.cell_core.specs.declared.grid.Rows.{Rows}
use Rattle.cell_core.specs.Grids.{AreRowsBelow}
use Rattle.column_core.specs.Blocks.{CellBlock}
use Rattle.meaning_tables.specs.Table.{ColumnOf, column_at}
use Rattle.std.specs.FinMap.{get}
use Rattle.meaning_tables.specs.cells.Reduce.{distinct}
use Rattle.meaning_tables.specs.Change.{strided_column}
use Rattle.block_pool.specs.Pools.{PoolValue, ViewValue, block_at, cells_of, cut, IsFull, IsSole}
use Rattle.block_manager.specs.declared.spots.Spot.{Spot}
use Rattle.block_manager.specs.declared.spots.Run.{Run}
use Rattle.block_manager.specs.Managed.{Place, ManagerValue, AreLive, StandsOn, columns_on, grid_column}
use Rattle.block_manager.specs.Changes.{grids_of}

-- a spot as the place of a column
abbrev pub place_of : List ℕ → Spot → Place
place_of views s = record { view = slice_index views s.view; column = s.column }

abbrev pub laid_out : List ℕ → List Spot → ManagerValue
laid_out views spots = record { views = views; places = map (place_of views) spots }

-- the spots are on so many views
abbrev pub AreOn : ℕ → List Spot → Type 0
AreOn count spots = All (λ s. s.view < count) spots

abbrev pub no_grid : CellBlock
no_grid = record { kind = Int64; rows = 0; columns = [] }

-- the grid of a view by its place, and how many columns it has
abbrev pub grid_in : List CellBlock → ℕ → CellBlock
grid_in grids view = slice_index_or grids view no_grid

abbrev pub width_in : List CellBlock → ℕ → ℕ
width_in grids view = length (grid_in grids view).columns

-- the column at a spot
abbrev pub spot_column : List CellBlock → Spot → ColumnOf Cell
spot_column grids s = grid_column (grid_in grids s.view) s.column

abbrev pub spot_columns : List CellBlock → List Spot → List (ColumnOf Cell)
spot_columns grids spots = map (spot_column grids) spots

abbrev pub is_at : ℕ → ℕ → Spot → Bool
is_at view column s = (s.view == view) && (s.column == column)

-- each of so many columns of each view stands once among the spots, and nothing else does
abbrev pub Covers : (ℕ → ℕ) → List Spot → Type 0
Covers widths spots = (view column : ℕ) → count_by (is_at view column) spots ≡ cond (nat_lt column (widths view)) 1 0

-- each column has as many cells as the grid has rows
abbrev pub IsEvenGrid : CellBlock → Type 0
IsEvenGrid g = All (λ column. length column ≡ g.rows) g.columns

-- the spots are all columns of the grids, each of them once
pub record Fits (grids : List CellBlock) (spots : List Spot) : Type 0 where
  pub covers : Covers (width_in grids) spots
  pub even : All IsEvenGrid grids

-- the views are live, each of them stands there once, and the spots are all their columns
pub record Stands (pool : PoolValue) (views : List ℕ) (spots : List Spot) : Type 0 where
  pub live : AreLive pool views
  pub fits : Fits (grids_of pool views) spots

abbrev pub no_run : Run
no_run = record { view = 0; from = 0; count = 0; alone = false }

abbrev pub run_in : List Run → ℕ → Run
run_in runs k = slice_index_or runs k no_run

-- which column of the old views a column of the runs is
abbrev pub origin : List Run → Spot → Spot
origin runs s = record { view = (run_in runs s.view).view; column = (run_in runs s.view).from + s.column }

abbrev pub marked : List Bool → ℕ → Bool
marked marks k = slice_index_or marks k false

-- what marked columns cost by their views
abbrev pub picked_cost : (ℕ → ℕ) → List Bool → List Spot → ℕ
picked_cost f marks [] = 0
picked_cost f [] (s ∷ picks) = 0
picked_cost f (b ∷ marks) (s ∷ picks) = cond b (f s.view) 0 + picked_cost f marks picks

-- what runs that are alone cost by their views
abbrev pub alone_cost : (ℕ → ℕ) → Run → ℕ
alone_cost f r = cond r.alone (f r.view) 0

-- the run of all columns of a view
abbrev pub whole_run : ℕ → ℕ → Run
whole_run view count = record { view = view; from = 0; count = count; alone = false }

-- the run of a view that stays whole
abbrev pub whole_at : List (Option ℕ) → ℕ → Option ℕ
whole_at places view = slice_index_or places view None

-- runs of all columns of views, and for each view its run, if it has one
pub record AreWholes (runs : List Run) (places : List (Option ℕ)) : Type 0 where
  pub there : (view run : ℕ) → whole_at places view ≡ Some run → (run < length runs) × (run_in runs run ≡ whole_run view (run_in runs run).count)
  pub back : (run : ℕ) → run < length runs → whole_at places (run_in runs run).view ≡ Some run
  pub some : All (λ r. 0 < r.count) runs

-- Such runs of views that have columns and aren't split, and of all of those.
pub record AreWholesOf (grids : List CellBlock) (count : ℕ) (split : List Bool) (runs : List Run) (places : List (Option ℕ)) : Type 0 where
  pub wholes : AreWholes runs places
  pub counts : (view run : ℕ) → whole_at places view ≡ Some run → ((run_in runs run).count ≡ width_in grids view) × (marked split view ≡ false)
  pub all : (view : ℕ) → view < count → marked split view ≡ false → 0 < width_in grids view → (run : ℕ) × (whole_at places view ≡ Some run)

-- The spots of picked columns on runs of them, one run to a new view. The runs of whole views come first, and have the picks on
-- these views; each other run has its columns once. A column that is marked has a run of its own.
pub record Plans (wholes : List Run) (places : List (Option ℕ)) (runs : List Run) (spots picks : List Spot) (marks : List Bool) : Type 0 where
  pub origins : map (origin runs) spots ≡ picks
  pub on : AreOn (length runs) spots
  pub long : length wholes ≤ length runs
  pub first : (k : ℕ) → k < length wholes → run_in runs k ≡ run_in wholes k
  pub others : (k : ℕ) → length wholes ≤ k → k < length runs → whole_at places (run_in runs k).view ≡ None
  pub covers : (view column : ℕ) → count_by (is_at view column) spots ≡ cond (nat_lt view (length wholes)) (count_by (is_at (run_in runs view).view column) picks) (cond (nat_lt column (run_in runs view).count) 1 0)
  pub some : All (λ r. 0 < r.count) runs
  pub single : All (λ r. r.alone ≡ true → r.count ≡ 1) runs
  pub apart : (k : ℕ) → k < length spots → marked marks k ≡ true → (run_in runs (slice_index_or spots k record { view = 0; column = 0 }).view).alone ≡ true
  pub cost : (f : ℕ → ℕ) → sum_by (alone_cost f) runs ≡ picked_cost f marks picks

-- these rows, or all rows of a grid
abbrev pub rows_by : Option Rows → CellBlock → Rows
rows_by None g = record { start = 0; step = pos 1; count = g.rows }
rows_by (Some rows) g = rows

-- what a view of a run shows
abbrev pub run_grid : List CellBlock → Option Rows → Run → CellBlock
run_grid grids rows r = cut (grid_in grids r.view) r.from r.count (rows_by rows (grid_in grids r.view))

-- the columns of the run are those of a view, and the rows are rows of it
pub record IsRunOf (grids : List CellBlock) (wanted : Option Rows) (r : Run) : Type 0 where
  pub view : r.view < length grids
  pub some : 0 < r.count
  pub columns : r.from + r.count ≤ width_in grids r.view
  pub rows : AreRowsBelow (rows_by wanted (grid_in grids r.view)) (grid_in grids r.view).rows

-- a run with its next column, and one of one column
abbrev pub longer : Run → Run
longer r = record r { count = r.count + 1 }

abbrev pub begun : Spot → Bool → Run
begun pick alone = record { view = pick.view; from = pick.column; count = 1; alone = alone }

-- the column is the next one of a run, where neither is alone
pub record Lengthens (old new : List Run) (run : ℕ) (pick : Spot) (alone : Bool) : Type 0 where
  pub there : run < length old
  pub view : (run_in old run).view ≡ pick.view
  pub next : (run_in old run).from + (run_in old run).count ≡ pick.column
  pub plain : (run_in old run).alone ≡ false
  pub shared : alone ≡ false
  pub is : new ≡ slice_set old run (longer (run_in old run))

-- or it is the first of a new one
pub record Begins (old new : List Run) (run : ℕ) (pick : Spot) (alone : Bool) : Type 0 where
  pub last : run ≡ length old
  pub is : new ≡ old ++ begun pick alone ∷ []

-- or it stands on the run of its view
abbrev pub Joins : Option ℕ → List Run → List Run → ℕ → Spot → Bool → Type 0
Joins None old new run pick alone = Lengthens old new run pick alone ⊎ Begins old new run pick alone
Joins (Some whole) old new run pick alone = (run ≡ whole) × (new ≡ old)

-- these rows of a column, or all of them
abbrev pub column_by : Option Rows → ColumnOf Cell → ColumnOf Cell
column_by None c = c
column_by (Some rows) c = strided_column Na rows c

-- a spot is a column of one of the grids, which has these rows
pub record IsPick (grids : List CellBlock) (wanted : Option Rows) (s : Spot) : Type 0 where
  pub view : s.view < length grids
  pub column : s.column < width_in grids s.view
  pub rows : AreRowsBelow (rows_by wanted (grid_in grids s.view)) (grid_in grids s.view).rows

-- the spot of a column
abbrev pub spot_at : List Spot → ℕ → Spot
spot_at spots k = slice_index_or spots k record { view = 0; column = 0 }

-- the view of each of these columns is alone on its block
abbrev pub AreAloneAt : PoolValue → List ℕ → List Spot → List ℕ → Type 0
AreAloneAt pool views spots places = All (λ place. IsSole pool (slice_index views (spot_at spots place).view)) places

-- the views show these columns at the spots
pub record Shows (pool : PoolValue) (views : List ℕ) (spots : List Spot) (columns : List (ColumnOf Cell)) : Type 0 where
  pub stands : Stands pool views spots
  pub columns_are : spot_columns (grids_of pool views) spots ≡ columns

-- the view is alone on its block and has all cells of it
pub record IsOwn (pool : PoolValue) (id : ℕ) : Type 0 where
  pub sole : IsSole pool id
  pub full : IsFull pool id

-- the views of runs that are alone are on blocks of their own
abbrev pub AreOwnRuns : PoolValue → List ℕ → List Run → Type 0
AreOwnRuns pool views runs = (k : ℕ) → k < length runs → (run_in runs k).alone ≡ true → IsOwn pool (slice_index views k)

-- the views of runs that aren't alone lie where the views of these runs lay
abbrev pub LieThere : PoolValue → PoolValue → List ℕ → List ℕ → List Run → Type 0
LieThere old new views made runs = (k : ℕ) → k < length runs → (run_in runs k).alone ≡ false → block_at new (slice_index made k) ≡ block_at old (slice_index views (run_in runs k).view)

-- no other live view but one has the block of this one
abbrev pub IsSoleBut : PoolValue → ℕ → ℕ → Type 0
IsSoleBut pool id but = (other : ℕ) (view : ViewValue) → get pool.views other ≡ Some view → other ≢ id → other ≢ but → view.block ≢ block_at pool id

-- the views of columns that were alone on their blocks share these with their old views at most, where those weren't split
abbrev pub AreSoleBut : PoolValue → PoolValue → List ℕ → List ℕ → List Spot → List Spot → List Bool → Type 0
AreSoleBut old new views made spots now split =
    (k : ℕ) → k < length spots → marked split (spot_at spots k).view ≡ false → IsSole old (slice_index views (spot_at spots k).view)
    → IsSoleBut new (slice_index made (spot_at now k).view) (slice_index views (spot_at spots k).view)

-- and those of marked columns
abbrev pub AreOwnAt : PoolValue → List ℕ → List Spot → List Bool → Type 0
AreOwnAt pool views spots marks = (k : ℕ) → k < length spots → marked marks k ≡ true → IsOwn pool (slice_index views (spot_at spots k).view)

-- how many cells are copied for a run
abbrev pub copied_cells : List CellBlock → Run → ℕ
copied_cells grids r = cond r.alone (cells_of (run_grid grids None r)) 0

-- how many rows a view has, by its place
abbrev pub rows_at : List CellBlock → ℕ → ℕ
rows_at grids view = (grid_in grids view).rows

-- what marked columns cost by their places
abbrev pub marked_cost : (ℕ → ℕ) → List Bool → ℕ
marked_cost f [] = 0
marked_cost f (b ∷ marks) = cond b (f 0) 0 + marked_cost (λ k. f (suc k)) marks

-- the view of a column is alone on its block
abbrev pub IsAloneAt : PoolValue → List ℕ → List Spot → ℕ → Type 0
IsAloneAt pool views spots place = IsSole pool (slice_index views (spot_at spots place).view)

-- the view of a marked column is split
abbrev pub AreSplit : List Spot → List Bool → List Bool → Type 0
AreSplit spots marks split = (place : ℕ) → place < length spots → marked marks place ≡ true → marked split (spot_at spots place).view ≡ true

-- Columns that are marked are named, and their views are split. A column that is named and not marked is alone on the block of
-- its view, and no column of a view that is alone on its block is marked.
pub record AreMarked (pool : PoolValue) (views : List ℕ) (spots : List Spot) (marks split : List Bool) (places : List ℕ) : Type 0 where
  pub long : length marks ≡ length spots
  pub wide : length split ≡ length views
  pub named : All (λ place. marked marks place ≡ false → IsAloneAt pool views spots place) places
  pub split_too : AreSplit spots marks split
  pub shared : (view : ℕ) → marked split view ≡ true → IsSole pool (slice_index views view) → ⊥
  pub cost : (f : ℕ → ℕ) → marked_cost f marks ≤ sum (map f (distinct ◌==◌ places))

-- a spot on views that stand behind so many others
abbrev pub shifted : ℕ → Spot → Spot
shifted n s = record { view = n + s.view; column = s.column }

-- the spots of so many columns, each of which has a view of its own, from the n-th view on
abbrev pub singles_from : ℕ → ℕ → List Spot
singles_from n zero = []
singles_from n (suc count) = record { view = n; column = 0 } ∷ singles_from (suc n) count

abbrev pub all_single : ℕ → List Spot
all_single count = singles_from 0 count

-- a manager with the views of another one behind its own, and the first column of that one behind its columns
pub record TakesLast (pool : PoolValue) (old from new : ManagerValue) : Type 0 where
  pub stands : StandsOn pool new
  pub columns : columns_on pool new ≡ columns_on pool old ++ column_at (columns_on pool from) 0 ∷ []
  pub views : new.views ≡ old.views ++ from.views
