-- The grids of views, and the numbers of views.
use Rattle.{
  std.proofs.Common.{◌≡◌, ℕ, zero, suc, ◌<◌, List, [], ◌∷◌, ◌++◌, map, length, refl, ap, sym, ◌∙◌, arith, get_or},
  std.proofs.lemmas.{List.{length-map, get_or-map, map-set, map-append}},
  std.specs.{Prelude.{slice_index_or, slice_index, slice_set, remove}, FinMap.{get}},
  column_core.specs.Blocks.{CellBlock},
  block_pool.{specs.{declared.views.ViewId.{ViewId}, Pools.{PoolValue, grid_at}}, proofs.ChangeLaws.{grid_kept}},
  block_manager.specs.Changes.{grids_of, numbers_of},
}

-- views that are as they were have the grids that they had
pub grids_kept : (old new : PoolValue) (views : List ℕ) → ((k : ℕ) → k < length views → get new.views (get_or views k 0) ≡ get old.views (get_or views k 0)) → grids_of new views ≡ grids_of old views
grids_kept old new [] kept = refl
grids_kept old new (id ∷ views) kept =
    let first : grid_at new id ≡ grid_at old id = grid_kept old new id (kept 0 (omega arith)) in
    let rest : grids_of new views ≡ grids_of old views = grids_kept old new views (λ k lt. kept (suc k) (omega (arith, lt))) in
    cc

-- the grid at a place
pub grid_of : (pool : PoolValue) (views : List ℕ) (k : ℕ) (d : CellBlock) → k < length views → slice_index_or (grids_of pool views) k d ≡ grid_at pool (get_or views k 0)
grid_of pool views k d lt = get_or-map (grid_at pool) views k 0 d lt

pub grids_long : (pool : PoolValue) (views : List ℕ) → length (grids_of pool views) ≡ length views
grids_long pool views = length-map views (grid_at pool)

-- another list of views has as many, where it has these grids
pub as_long : (old new : PoolValue) (before after : List ℕ) → grids_of new after ≡ grids_of old before → length after ≡ length before
as_long old new before after e = sym (grids_long new after) ∙ ap length e ∙ grids_long old before

pub map-remove : {X Y : Type 0} (f : X → Y) (xs : List X) (i : ℕ) → map f (remove xs i) ≡ remove (map f xs) i
map-remove f [] zero = refl
map-remove f [] (suc i) = refl
map-remove f (x ∷ xs) zero = refl
map-remove f (x ∷ xs) (suc i) = ap (λ l. f x ∷ l) (map-remove f xs i)

-- the numbers of views
module _ (views : List ViewId) where
  pub numbers_long : length (numbers_of views) ≡ length views
  numbers_long = length-map views (λ (v : ViewId). v.0)

  pub number_is : (k : ℕ) (v : ViewId) → k < length views → v ≡ slice_index_or views k v → slice_index (numbers_of views) k ≡ v.0
  number_is k v lt e = get_or-map (λ (w : ViewId). w.0) views k v 0 lt ∙ sym (ap (λ (w : ViewId). w.0) e)

  pub numbers-set : (k : ℕ) (v : ViewId) → numbers_of (slice_set views k v) ≡ slice_set (numbers_of views) k v.0
  numbers-set k v = map-set (λ (w : ViewId). w.0) views k v

  pub numbers_push : (v : ViewId) → numbers_of (views ++ v ∷ []) ≡ numbers_of views ++ v.0 ∷ []
  numbers_push v = map-append (λ (w : ViewId). w.0) views (v ∷ [])

  pub numbers-remove : (k : ℕ) → numbers_of (remove views k) ≡ remove (numbers_of views) k
  numbers-remove k = map-remove (λ (w : ViewId). w.0) views k
