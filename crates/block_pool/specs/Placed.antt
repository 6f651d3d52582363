-- How views lie on blocks, and what keeps a pool in order.
use Rattle.std.specs.Prelude.{ℤ, pos, neg_ℤ, ◌≡◌, ◌≢◌, ℕ, ◌+◌, ◌-◌, ◌<◌, ◌≤◌, ◌^◌, Bool, false, ◌==◌, List, [], ◌∷◌, map, length, Option, Some, None, IsSome, All, is_some, slice_index_or, reverse, count_by, sum_by, if◌then◌else◌}
use Rattle.std.specs.Option.{option_map}
use Rattle.std.specs.Ordering.{nat_cmp}
use Rattle.std.specs.FinMap.{FinMap, from_sorted}
use Rattle.cell_core.specs.declared.cell.Cell.{Cell}
use Rattle.cell_core.specs.declared.cell.Cell.TheVariants.{Na}
use Rattle.cell_core.specs.declared.cell.Kind.TheVariants.{Int64}
use Rattle.column_core.specs.cells.Column.{tabulate}
use Rattle.column_core.specs.Blocks.{CellBlock}
use Rattle.column_core.specs.Columns.{CellColumn}
use Rattle.column_core.specs.Lanes.{LaneFits, lane_place}
use Rattle.block_pool.specs.declared.views.View.{View}
use Rattle.block_pool.specs.declared.lots.Lot.{Lot}
use Rattle.block_pool.specs.Pools.{ViewValue, PoolValue, cells_of}

-- what stands in a slot
abbrev pub slot : {X : Type 0} → List (Option X) → ℕ → Option X
slot slots key = slice_index_or slots key None

-- something else stands in one slot, and each other one has what it had
pub record Puts {X : Type 0} (old new : List (Option X)) (key : ℕ) (o : Option X) : Type 0 where
  pub changed : slot new key ≡ o
  pub others : (other : ℕ) → other ≢ key → slot new other ≡ slot old other

-- what stands in slots, with their numbers from n on
abbrev pub numbered : {X : Type 0} → ℕ → List (Option X) → List (ℕ × X)
numbered n [] = []
numbered n (None ∷ slots) = numbered (n + 1) slots
numbered n (Some x ∷ slots) = (n, x) ∷ numbered (n + 1) slots

-- the slots as a map from their numbers
abbrev pub slots_map : {X : Type 0} → List (Option X) → FinMap nat_cmp X
slots_map slots = from_sorted (numbered 0 slots)

-- what a view shows of a block
abbrev pub shown_cell : View → List Cell → ℕ → Cell
shown_cell v cells row = slice_index_or cells (lane_place v.start v.stride v.back row) Na

abbrev pub shown_column : CellBlock → View → ℕ → List Cell
shown_column block v column = tabulate v.count (shown_cell v (slice_index_or block.columns (v.first + column) []))

abbrev pub shown_grid : CellBlock → View → CellBlock
shown_grid block v = record { kind = block.kind; rows = v.count; columns = tabulate v.columns (shown_column block v) }

-- a column from its last cell to its first
abbrev pub turned : CellColumn → CellColumn
turned c = record { kind = c.kind; cells = reverse c.cells }

-- the step of rows that lie so far apart, ahead or back
abbrev pub step_of : ℕ → Bool → ℤ
step_of stride back = if back then neg_ℤ (pos stride) else pos stride

-- the block of a lot, how many cells it has, and how many views lie on it
abbrev pub block_of : Option Lot → CellBlock
block_of None = record { kind = Int64; rows = 0; columns = [] }
block_of (Some lot) = lot.block

abbrev pub size_of : Option Lot → ℕ
size_of None = 0
size_of (Some lot) = cells_of lot.block

abbrev pub users_of : Option Lot → ℕ
users_of None = 0
users_of (Some lot) = lot.users

abbrev pub lot_cells : Lot → ℕ
lot_cells lot = cells_of lot.block

-- a lot with one view more, and with one less, where it goes with the last
abbrev pub entered : Option Lot → Option Lot
entered None = None
entered (Some lot) = Some (record lot { users = lot.users + 1 })

abbrev pub left : Option Lot → Option Lot
left None = None
left (Some lot) = if lot.users == 1 then None else Some (record lot { users = lot.users - 1 })

-- what is seen of a view on a block, and over lots
abbrev pub view_on : CellBlock → View → ViewValue
view_on block v = record { block = v.block; cells = cells_of block; grid = shown_grid block v }

abbrev pub seen_over : List (Option Lot) → View → ViewValue
seen_over lots v = view_on (block_of (slot lots v.block)) v

abbrev pub pool_value : List (Option Lot) → List (Option View) → ℕ → PoolValue
pool_value lots views spare =
    record {
      views = slots_map (map (option_map (seen_over lots)) views);
      blocks = slots_map (map (option_map lot_cells) lots);
      spare = spare;
    }

-- a view lies on the block of this name
abbrev pub lies_on : ℕ → Option View → Bool
lies_on b None = false
lies_on b (Some v) = v.block == b

-- each column of the block has as many cells as it has rows, which are few enough for a step of 64 bits
pub record IsEven (block : CellBlock) : Type 0 where
  pub each : All (λ column. length column ≡ block.rows) block.columns
  pub short : block.rows < 2 ^ 63

-- the view's columns and rows are those of the block, and different ones
pub record IsPlaced (block : CellBlock) (v : View) : Type 0 where
  pub columns : v.first + v.columns ≤ length block.columns
  pub fits : LaneFits v.start v.stride v.back v.count block.rows block.rows
  pub moves : 1 < v.count → 0 < v.stride
  pub short : v.stride < 2 ^ 63

-- Each lot counts the views on its block, and there is one. There is room for the spare views, and the cells of all
-- blocks are counted.
pub record IsPool (lots : List (Option Lot)) (views : List (Option View)) (spare capacity held : ℕ) : Type 0 where
  pub placed : (id : ℕ) (v : View) → slot views id ≡ Some v → IsPlaced (block_of (slot lots v.block)) v
  pub counted : (b : ℕ) → users_of (slot lots b) ≡ count_by (lies_on b) views
  pub used : (b : ℕ) → IsSome (slot lots b) → 0 < users_of (slot lots b)
  pub even : (b : ℕ) → IsEven (block_of (slot lots b))
  pub room : count_by is_some views + spare ≤ capacity
  pub cells : held ≡ sum_by size_of lots
