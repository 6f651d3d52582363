use Rattle.{std.proofs.Common.{◌≡◌, ◌∙◌, ◌<◌, ◌+◌, ◌++◌, ◌∷◌, [], List, ℕ, Option, Some, ap, sym, subst, arith, length, false}, std.proofs.lemmas.{List.{get_or-map}, Bool.{false≢true}}, std.specs.Prelude.{slice_index_or}, column_core.specs.Blocks.{CellBlock}, block_pool.specs.{declared.views.ViewId.{ViewId}, Pools.{PoolValue, IsLive, grid_at}}, block_manager.{specs.{declared.spots.Run.{Run}, Changes.{grids_of, numbers_of}, Spots.{AreWholesOf, marked, whole_run, width_in}}, proofs.{GridLaws.{numbers_long}, SpotLaws.{grid_there}, WholesLaws.{wholes_skip, wholes_more}}}}
use Rattle.block_manager.proofs.planning.whole_runs.Goals as goal
use Rattle.block_manager.proofs.planning.whole_runs.Goals.{then-count-eq0-via-then-count-eq0, then-count-eq0-via-else-count-eq0+then-is_marked}

-- how many columns a view has
width_at : (pool : PoolValue) (views : List ViewId) (k : ℕ) → k < length views → width_in (grids_of pool (numbers_of views)) k ≡ length (grid_at pool (slice_index_or views k record { 0 = 0 }).0).columns
width_at pool views k lt =
    ap (λ (g : CellBlock). length g.columns)
    (grid_there pool (numbers_of views) k (omega (arith, lt, numbers_long views)) ∙ ap (grid_at pool) (get_or-map (λ (v : ViewId). v.0) views k record { 0 = 0 } 0 lt))

pub columns-count-requires : goal.columns-count-requires
columns-count-requires c =
    let views = c.args.views.now in
    let k = c.loop-view.view in
    let lt : k < length views = omega arith in
    subst (IsLive c.args.pool.now) (get_or-map (λ (v : ViewId). v.0) views k record { 0 = 0 } 0 lt) (c.requires k 0 (omega (arith, lt, numbers_long views)))

pub loop-view-preserved-then-count-eq0 : goal.loop-view-preserved-then-count-eq0
loop-view-preserved-then-count-eq0 c =
    let grids = grids_of c.args.pool.now (numbers_of c.args.views.now) in
    let k = c.loop-view.view in
    let split = c.args.split.now in
    let width = width_at c.args.pool.now c.args.views.now k (omega arith) in
    let out : marked split k ≡ false → 0 < width_in grids k → ⊥ = λ unsplit wide. elim c.then-count-eq0.branch [
      | then-count-eq0-via-then-count-eq0 w ↦ omega (arith, wide, width, c.columns-count.ensures, w.if-count-eq0.true)
      | then-count-eq0-via-else-count-eq0+then-is_marked w ↦ false≢true (sym unsplit ∙ sym w.is_marked.ensures ∙ w.if-is_marked.true)
    ] in
    record {
      wholes = subst (λ (ps : List (Option ℕ)). AreWholesOf grids (k + 1) split c.loop-view.runs.items ps) (sym c.in_ok-push.ensures.items)
          (wholes_skip grids k split c.loop-view.runs.items c.loop-view.places.items c.loop-view.invariant.wholes c.loop-view.invariant.long out);
      long = omega (arith, c.in_ok-push.ensures.len, c.loop-view.invariant.long);
    }

pub loop-view-preserved : goal.loop-view-preserved
loop-view-preserved c =
    let grids = grids_of c.args.pool.now (numbers_of c.args.views.now) in
    let k = c.loop-view.view in
    let split = c.args.split.now in
    let runs = c.loop-view.runs.items in
    let places = c.loop-view.places.items in
    let width = width_at c.args.pool.now c.args.views.now k (omega arith) in
    let count : c.columns-count.result ≡ width_in grids k = c.columns-count.ensures ∙ sym width in
    let many : c.len.result ≡ length runs = omega (arith, c.len.ensures) in
    let more_runs : c.push-in-loop-view-2.new.self.items ≡ runs ++ whole_run k (width_in grids k) ∷ [] = c.in_ok-push-3.ensures.items ∙ ap (λ (n : ℕ). runs ++ whole_run k n ∷ []) count in
    let more_places : c.push-in-loop-view.new.self.items ≡ places ++ Some (length runs) ∷ [] = c.in_ok-push-2.ensures.items ∙ ap (λ (n : ℕ). places ++ Some n ∷ []) many in
    let wide : 0 < width_in grids k = omega (arith, count, c.if-count-eq0.false) in
    let unsplit : marked split k ≡ false = sym c.is_marked.ensures ∙ c.if-is_marked.false in
    record {
      wholes = subst (λ (rs : List Run). AreWholesOf grids (k + 1) split rs c.push-in-loop-view.new.self.items) (sym more_runs)
          (subst (λ (ps : List (Option ℕ)). AreWholesOf grids (k + 1) split (runs ++ whole_run k (width_in grids k) ∷ []) ps) (sym more_places)
          (wholes_more grids k split runs places c.loop-view.invariant.wholes c.loop-view.invariant.long wide unsplit));
      long = omega (arith, c.in_ok-push-2.ensures.len, c.loop-view.invariant.long);
    }
