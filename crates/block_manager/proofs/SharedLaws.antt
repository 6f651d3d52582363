-- New views of runs of columns.
use Rattle.{std.proofs.Common.{◌≡◌, ℕ, ◌+◌, ◌<◌, ◌≤◌, List, [], ◌∷◌, ◌++◌, map, take, length, refl, ap, ap₂, sym, ◌∙◌, subst, arith, get_or, IsSome, Option, None, pos, inl, inr, cond, sum_by, length-append}, std.proofs.lemmas.{Bool.{cases_lt}, List.{map-append, map_more, take_more, length-take-le}, List.Sums.{sum_by_push}}, std.specs.{Prelude.{max, slice_index, slice_index_or}, FinMap.{get}}, cell_core.specs.{declared.grid.Rows.{Rows}, Grids.{AreRowsBelow}}, column_core.specs.Blocks.{CellBlock}, block_pool.{specs.{declared.views.ViewId.{ViewId}, Pools.{PoolValue, grid_at, block_at, cells_of, total_of, cut, IsLive, IsFree}}, proofs.ChangeLaws.{live_not_free, block_is, block_kept, grid_kept}}, block_manager.{specs.{declared.spots.Run.{Run}, Managed.{AreLive, Stays}, Changes.{grids_of, numbers_of, Lays, LaysRun}, Spots.{grid_in, rows_by, run_grid, run_in, copied_cells, IsRunOf, IsOwn, AreOwnRuns, LieThere, no_run}}, proofs.{TimesLaws.{times_here, live_some, live_in}, GridLaws.{grids_kept, grids_long, numbers_push, number_is, numbers_long}, SpotLaws.{grid_there}, PlanLaws.{pushed_before, pushed_last}, LayLaws.{Laid, laid, laid_other, laid_view, lays_count, lays_kept, lays_live, lays_more, partakes_view, run_held, run_other, run_own, run_own_still}}}}

-- all rows are rows
pub all_below : (n : ℕ) → AreRowsBelow record { start = 0; step = pos 1; count = n } n
all_below n = record {
  places = λ row lt. tt;
  below = λ row lt. omega (arith, lt);
  moves = λ two e. cc;
}

-- before the first view
module _ (old now : PoolValue) (n : ℕ) (views : List ViewId) (none : views ≡ []) (is : now ≡ record old { spare = max old.spare n }) where
  pub lays_start : Lays old (numbers_of views) now
  lays_start = subst (λ (vs : List ViewId). Lays old (numbers_of vs) now) (sym none) (subst (λ (p : PoolValue). Stays old p) (sym is) (record { views = refl; blocks = refl }))

  pub grids_start : grids_of now (numbers_of views) ≡ []
  grids_start = ap (λ (vs : List ViewId). grids_of now (numbers_of vs)) none

  pub spare_start : n ≤ now.spare + 0
  spare_start = omega (arith, ap (λ (p : PoolValue). p.spare) is)

  pub blocks_start : now.blocks ≡ old.blocks
  blocks_start = ap (λ (p : PoolValue). p.blocks) is

-- the view of a run is as it was
module _ (old now : PoolValue) (views : List ViewId) (run : Run) (rows : Option Rows) (v : ViewId) (live : AreLive old (numbers_of views)) (is : IsRunOf (grids_of old (numbers_of views)) rows run) (at : v ≡ slice_index_or views run.view v)
    (kept : (q : ℕ) → IsLive old q → get now.views q ≡ get old.views q) where
  inside : run.view < length (numbers_of views)
  inside = omega (arith, is.view, grids_long old (numbers_of views))

  pub run_inside : run.view < length views
  run_inside = omega (arith, inside, numbers_long views)

  pub named : slice_index (numbers_of views) run.view ≡ v.0
  named = number_is views run.view v run_inside at

  pub live_then : IsLive old v.0
  live_then = subst (IsLive old) named (live_in old (numbers_of views) run.view 0 live inside)

  pub run_live : IsLive now v.0
  run_live = subst IsSome (sym (kept v.0 live_then)) live_then

  grid_then : grid_at now v.0 ≡ grid_in (grids_of old (numbers_of views)) run.view
  grid_then = grid_kept old now v.0 (kept v.0 live_then) ∙ sym (grid_there old (numbers_of views) run.view inside ∙ ap (grid_at old) named)

  pub run_columns : run.from + run.count ≤ length (grid_at now v.0).columns
  run_columns = omega (arith, is.columns, ap (λ (g : CellBlock). length g.columns) grid_then)

  pub run_rows : AreRowsBelow (rows_by rows (grid_at now v.0)) (grid_at now v.0).rows
  run_rows = subst (λ (g : CellBlock). AreRowsBelow (rows_by rows g) g.rows) (sym grid_then) is.rows

  pub run_shows : cut (grid_at now v.0) run.from run.count (rows_by rows (grid_at now v.0)) ≡ run_grid (grids_of old (numbers_of views)) rows run
  run_shows = ap (λ (g : CellBlock). cut g run.from run.count (rows_by rows g)) grid_then

-- a view more, which is new
module _ (old now new : PoolValue) (made after : List ViewId) (id : ViewId) (grid : CellBlock) (before : Lays old (numbers_of made) now) (free : IsFree now id.0) (laid : Laid now new id.0 grid) (is : after ≡ made ++ id ∷ []) where
  -- those made before are as they were
  other : (k : ℕ) → k < length (numbers_of made) → get new.views (get_or (numbers_of made) k 0) ≡ get now.views (get_or (numbers_of made) k 0)
  other k lt =
      let view : ℕ = get_or (numbers_of made) k 0 in
      let live : IsLive now view = live_some now view (omega (arith, lays_count old (numbers_of made) now before view, times_here (numbers_of made) k 0 view lt refl)) in
      laid_other now new id.0 grid laid view (live_not_free now id.0 view free live)

  after_is : numbers_of after ≡ numbers_of made ++ id.0 ∷ []
  after_is = ap numbers_of is ∙ numbers_push made id

  pub laid_more : Lays old (numbers_of after) new
  laid_more = subst (λ (ids : List ℕ). Lays old ids new) (sym after_is) (lays_more old (numbers_of made) now new id.0 grid before free laid)

  -- of one run more
  pub grids_more : (f : Run → CellBlock) (runs : List Run) (k : ℕ) (run : Run) → k < length runs → run ≡ slice_index_or runs k run → grids_of now (numbers_of made) ≡ map f (take k runs) → grid ≡ f run → grids_of new (numbers_of after) ≡ map f (take (k + 1) runs)
  grids_more f runs k run lt at so_far shows =
      ap (grids_of new) after_is
      ∙ map-append (grid_at new) (numbers_of made) (id.0 ∷ [])
      ∙ ap₂ (λ (gs : List CellBlock) (g : CellBlock). gs ++ g ∷ []) (grids_kept now new (numbers_of made) other ∙ so_far) (laid_view now new id.0 grid laid ∙ shows ∙ ap f at)
      ∙ sym (map_more f runs k run lt)

-- a run more, of which the view is maybe a copy
module _ (old now new : PoolValue) (made after : List ViewId) (id from : ViewId) (grid : CellBlock) (grids : List CellBlock) (run : Run) (runs : List Run) (k : ℕ) (before : Lays old (numbers_of made) now) (free : IsFree now id.0) (live : IsLive old from.0) (lays : LaysRun now new id.0 from.0 grid run.alone)
    (is : after ≡ made ++ id ∷ []) (lt : k < length runs) (at : run ≡ slice_index_or runs k run) (count : length made ≡ k) (shows : grid ≡ run_grid grids None run) where
  abbrev ids : List ℕ
  ids = numbers_of made

  more : take (k + 1) runs ≡ take k runs ++ run ∷ []
  more = take_more runs k run lt ∙ ap (λ (r : Run). take k runs ++ r ∷ []) (sym at)

  done : length (take k runs) ≡ k
  done = length-take-le k runs (omega (arith, lt))

  numbers : numbers_of after ≡ ids ++ id.0 ∷ []
  numbers = ap numbers_of is ∙ numbers_push made id

  own_at : AreOwnRuns now ids (take k runs) → AreOwnRuns new (ids ++ id.0 ∷ []) (take k runs ++ run ∷ [])
  own_at own i le alone = elim (cases_lt i (length (take k runs))) [
    | inl lower ↦
        let inside : i < length ids = omega (arith, lower, done, count, numbers_long made) in
        let same : run_in (take k runs ++ run ∷ []) i ≡ run_in (take k runs) i = pushed_before (take k runs) run no_run i lower in
        subst (IsOwn new) (sym (pushed_before ids id.0 0 i inside))
        (run_own_still old now new ids id.0 from.0 grid run.alone before free live lays (slice_index ids i) (times_here ids i 0 (slice_index ids i) inside refl) (own i lower (ap (λ (r : Run). r.alone) (sym same) ∙ alone)))
    | inr upper ↦
        let here : i ≡ length (take k runs) = omega (arith, le, upper, length-append (take k runs) (run ∷ [])) in
        let there : i ≡ length ids = omega (arith, here, done, count, numbers_long made) in
        let same : run_in (take k runs ++ run ∷ []) i ≡ run = ap (run_in (take k runs ++ run ∷ [])) here ∙ pushed_last (take k runs) run no_run in
        subst (IsOwn new) (sym (ap (slice_index (ids ++ id.0 ∷ [])) there ∙ pushed_last ids id.0 0))
        (run_own old now new ids id.0 from.0 grid run.alone before free live lays (ap (λ (r : Run). r.alone) (sym same) ∙ alone))
  ]

  pub own_more : AreOwnRuns now ids (take k runs) → AreOwnRuns new (numbers_of after) (take (k + 1) runs)
  own_more own = subst (λ (vs : List ℕ). AreOwnRuns new vs (take (k + 1) runs)) (sym numbers) (subst (λ (rs : List Run). AreOwnRuns new (ids ++ id.0 ∷ []) rs) (sym more) (own_at own))

  pub held_more : total_of now ≡ total_of old + sum_by (copied_cells grids) (take k runs) → total_of new ≡ total_of old + sum_by (copied_cells grids) (take (k + 1) runs)
  held_more so_far =
      let size : cond {A = ℕ} run.alone (cells_of grid) 0 ≡ copied_cells grids run = ap (λ (g : CellBlock). cond {A = ℕ} run.alone (cells_of g) 0) shows in
      let sum : sum_by (copied_cells grids) (take (k + 1) runs) ≡ sum_by (copied_cells grids) (take k runs) + copied_cells grids run = ap (sum_by (copied_cells grids)) more ∙ sum_by_push (copied_cells grids) (take k runs) run in
      omega (arith, so_far, run_held old now new ids id.0 from.0 grid run.alone before free live lays, size, sum)

  -- they lie where the views of their runs lay
  lie_at : (olds : List ℕ) → slice_index olds run.view ≡ from.0 → LieThere old now olds ids (take k runs) → LieThere old new olds (ids ++ id.0 ∷ []) (take k runs ++ run ∷ [])
  lie_at olds named so_far i le plain = elim (cases_lt i (length (take k runs))) [
    | inl lower ↦
        let inside : i < length ids = omega (arith, lower, done, count, numbers_long made) in
        let same : run_in (take k runs ++ run ∷ []) i ≡ run_in (take k runs) i = pushed_before (take k runs) run no_run i lower in
        let q : ℕ = slice_index ids i in
        let kept : get new.views q ≡ get now.views q = run_other old now new ids id.0 from.0 grid run.alone before free live lays q (live_not_free now id.0 q free (live_in now ids i 0 (lays_live old ids now before) inside)) in
        ap (block_at new) (pushed_before ids id.0 0 i inside)
        ∙ block_kept now new q kept
        ∙ so_far i lower (ap (λ (r : Run). r.alone) (sym same) ∙ plain)
        ∙ ap (λ (r : Run). block_at old (slice_index olds r.view)) (sym same)
    | inr upper ↦
        let here : i ≡ length (take k runs) = omega (arith, le, upper, length-append (take k runs) (run ∷ [])) in
        let there : i ≡ length ids = omega (arith, here, done, count, numbers_long made) in
        let same : run_in (take k runs ++ run ∷ []) i ≡ run = ap (run_in (take k runs ++ run ∷ [])) here ∙ pushed_last (take k runs) run no_run in
        let p = lays.shares (ap (λ (r : Run). r.alone) (sym same) ∙ plain) in
        ap (block_at new) (ap (slice_index (ids ++ id.0 ∷ [])) there ∙ pushed_last ids id.0 0)
        ∙ block_is new id.0 (block_at now p.0.from) grid (partakes_view now new id.0 grid p.0)
        ∙ ap (block_at now) p.1
        ∙ block_kept old now from.0 (lays_kept old ids now before from.0 live)
        ∙ ap (block_at old) (sym named)
        ∙ ap (λ (r : Run). block_at old (slice_index olds r.view)) (sym same)
  ]

  pub lie_more : (olds : List ℕ) → slice_index olds run.view ≡ from.0 → LieThere old now olds ids (take k runs) → LieThere old new olds (numbers_of after) (take (k + 1) runs)
  lie_more olds named so_far = subst (λ (vs : List ℕ). LieThere old new olds vs (take (k + 1) runs)) (sym numbers) (subst (λ (rs : List Run). LieThere old new olds (ids ++ id.0 ∷ []) rs) (sym more) (lie_at olds named so_far))

  pub laid_now : Laid now new id.0 grid
  laid_now = laid old now new ids id.0 from.0 grid run.alone before free live lays
