-- A live view over its lot, and what is seen of it.
use Rattle.{std.proofs.Common.{◌≡◌, ℕ, List, length, ap, ◌∙◌, Option, Some}, column_core.specs.Blocks.{CellBlock}, block_pool.{specs.{declared.{views.View.{View}, lots.Lot.{Lot}}, Pools.{PoolValue, grid_at}, Placed.{slot, shown_grid, pool_value, IsEven, IsPlaced, IsPool}}, proofs.{PoolLaws.{grid_on, placed_on, even_on}, ShowLaws.{columns_of}}}}

-- the view lies on the lot's block, and its grid is what it shows of the block
pub record Lies (pool : PoolValue) (id : ℕ) (v : View) (lot : Lot) : Type 0 where
  pub grid : grid_at pool id ≡ shown_grid lot.block v
  pub columns : length (grid_at pool id).columns ≡ v.columns
  pub rows : (grid_at pool id).rows ≡ v.count
  pub kind : (grid_at pool id).kind ≡ lot.block.kind
  pub placed : IsPlaced lot.block v
  pub even : IsEven lot.block

pub lies : (lots : List (Option Lot)) (views : List (Option View)) (spare capacity held : ℕ) → IsPool lots views spare capacity held → (pool : PoolValue) → pool_value lots views spare ≡ pool
    → (id : ℕ) (v : View) (lot : Lot) → slot views id ≡ Some v → slot lots v.block ≡ Some lot → Lies pool id v lot
lies lots views spare capacity held ok pool e id v lot is there =
    let same : grid_at pool id ≡ shown_grid lot.block v = grid_on lots views spare pool e id v lot is there in
    record {
      grid = same;
      columns = ap (λ (g : CellBlock). length g.columns) same ∙ columns_of lot.block v;
      rows = ap (λ (g : CellBlock). g.rows) same;
      kind = ap (λ (g : CellBlock). g.kind) same;
      placed = placed_on lots views spare capacity held ok id v lot is there;
      even = even_on lots views spare capacity held ok v.block lot there;
    }
