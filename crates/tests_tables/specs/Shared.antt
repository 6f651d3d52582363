-- Views of the tests.
use Rattle.std.specs.Prelude.{◌≡◌, ℕ, length}
use Rattle.cell_core.specs.declared.cell.Kind.TheVariants.{Int64}
use Rattle.block_pool.specs.Pools.{PoolValue, grid_at, IsLive}

-- the view is live, and shows so many rows of so many columns of whole numbers
pub record ShowsNumbers (pool : PoolValue) (id columns rows : ℕ) : Type 0 where
  pub live : IsLive pool id
  pub wide : length (grid_at pool id).columns ≡ columns
  pub long : (grid_at pool id).rows ≡ rows
  pub numbers : (grid_at pool id).kind ≡ Int64
