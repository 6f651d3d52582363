-- New views of views that were alone on their blocks.
use Rattle.{std.proofs.Common.{◌≡◌, ◌≢◌, ℕ, ◌<◌, Bool, true, false, List, length, map, All, refl, ap, sym, ◌∙◌, subst, arith, get_or, Option, Some, None, inl, inr}, std.proofs.lemmas.{Bool.{cases_eq}, List.{length-map, get_or-map}}, std.specs.{Prelude.{is_some, slice_index}, FinMap.{get}}, block_pool.{specs.Pools.{PoolValue, ViewValue, IsLive, IsSole, block_at, live_count, view_at, view_or}, proofs.ChangeLaws.{block_kept}}, block_manager.{specs.{declared.spots.{Spot.{Spot}, Run.{Run}}, Managed.{AreLive, times}, Changes.{EndsEach, Lays, grids_of}, Spots.{no_run, run_in, run_grid, width_in, origin, spot_at, whole_at, AreOwnRuns, AreSoleBut, AreWholesOf, IsRunOf, LieThere, IsSoleBut, Plans, Stands}}, proofs.{TimesLaws.{times_place, live_in, live_once, live_is_one, free_is_none, live_view}, GridLaws.{grids_long}, SpotLaws.{same_place, spot_within, spots_on}, PlanLaws.{whole_run_is}, ChainLaws.{ends_each_count, ends_each_other}, LayLaws.{lays_count, lays_kept, lays_live}}}}

-- the new view of a run, which is the only one of a view that was alone on its block
module _ (old mid : PoolValue) (olds made : List ℕ) (live : AreLive old olds) (lays : Lays old made mid) (runs : List Run) (long : length made ≡ length runs) (lie : LieThere old mid olds made runs) (own : AreOwnRuns mid made runs) (inside : (j : ℕ) → j < length runs → (run_in runs j).view < length olds) (k : ℕ) (lt : k < length runs) (plain : (run_in runs k).alone ≡ false) (sole : IsSole old (slice_index olds (run_in runs k).view)) (unique : (j : ℕ) → j < length runs → (run_in runs j).view ≡ (run_in runs k).view → j ≡ k) where
  abbrev q : ℕ
  q = slice_index olds (run_in runs k).view

  abbrev id : ℕ
  id = slice_index made k

  lies : block_at mid id ≡ block_at old q
  lies = lie k lt plain

  old_live : (j : ℕ) → j < length runs → IsLive old (slice_index olds (run_in runs j).view)
  old_live j le = live_in old olds (run_in runs j).view 0 live (inside j le)

  new_live : (j : ℕ) → j < length runs → IsLive mid (slice_index made j)
  new_live j le = live_in mid made j 0 (lays_live old made mid lays) (omega (arith, le, long))

  -- another new view doesn't lie there
  other_made : (j : ℕ) → j < length runs → j ≢ k → slice_index made j ≢ id → block_at mid (slice_index made j) ≡ block_at mid id → ⊥
  other_made j le differ apart same = at (run_in runs j).alone refl
    where
      at : (b : Bool) → (run_in runs j).alone ≡ b → ⊥
      at true e = (own j le e).sole id (view_at mid id) (live_view mid id (new_live k lt)) (λ z. apart (sym z)) (sym same)
      at false e =
          let there : block_at old (slice_index olds (run_in runs j).view) ≡ block_at old q = sym (lie j le e) ∙ same ∙ lies in
          elim (cases_eq (slice_index olds (run_in runs j).view) q) [
            | inl z ↦ differ (unique j le (same_place old olds live (run_in runs j).view (run_in runs k).view (inside j le) (inside k lt) z))
            | inr ne ↦ sole (slice_index olds (run_in runs j).view) (view_at old (slice_index olds (run_in runs j).view)) (live_view old (slice_index olds (run_in runs j).view) (old_live j le)) ne there
          ]

  pub sole_but : IsSoleBut mid id q
  sole_but other view there apart differ at = by (get old.views other) refl
    where
      here : block_at mid other ≡ view.block
      here = ap (λ (o : Option ViewValue). (view_or o).block) there

      by : (o : Option ViewValue) → get old.views other ≡ o → ⊥
      by (Some v) is =
          let was : get old.views other ≡ Some view = sym (lays_kept old made mid lays other (ap is_some is)) ∙ there in
          sole other view was differ (at ∙ lies)
      by None is =
          let one : live_count mid other ≡ 1 = live_is_one mid other (ap is_some there) in
          let found = times_place other 0 made (omega (arith, one, lays_count old made mid lays other, free_is_none old other is)) in
          let below : found.0 < length runs = omega (arith, found.1, long) in
          other_made found.0 below (λ z. apart (sym found.2 ∙ ap (slice_index made) z)) (λ z. apart (sym found.2 ∙ z)) (ap (block_at mid) found.2 ∙ here ∙ at)

-- and once that one ended
pub sole_then : (mid new : PoolValue) (before : List ℕ) (id but : ℕ) → AreLive mid before → EndsEach mid before new → 0 < times but before → times id before ≡ 0 → IsSoleBut mid id but → IsSole new id
sole_then mid new before id but live ended some none sole other view there apart at =
    let one : live_count new other ≡ 1 = live_is_one new other (ap is_some there) in
    let gone : times other before ≡ 0 = omega (arith, one, ends_each_count mid before new live ended other, live_once mid other) in
    let was : get mid.views other ≡ Some view = sym (ends_each_other mid before new ended other gone) ∙ there in
    sole other view was apart (λ e. omega (arith, gone, some, ap (λ v. times v before) e)) (at ∙ block_kept mid new id (ends_each_other mid before new ended id none))

-- the views of columns on views that weren't split
pub separated_sole : (old mid : PoolValue) (views made : List ℕ) (spots now : List Spot) (marks split : List Bool) (wholes runs : List Run) (places : List (Option ℕ)) → Stands old views spots → Lays old made mid → AreWholesOf (grids_of old views) (length views) split wholes places → Plans wholes places runs now spots marks
    → All (IsRunOf (grids_of old views) None) runs → grids_of mid made ≡ map (run_grid (grids_of old views) None) runs → LieThere old mid views made runs → AreOwnRuns mid made runs → AreSoleBut old mid views made spots now split
separated_sole old mid views made spots now marks split wholes runs places stands lays are plan inside grids lie own k lt unsplit sole =
    let d : Spot = record { view = 0; column = 0 } in
    let view : ℕ = (spot_at spots k).view in
    let on : view < length views = spots_on old views spots stands k d lt in
    let wide : 0 < width_in (grids_of old views) view = omega (arith, spot_within (width_in (grids_of old views)) spots stands.fits.covers k d lt) in
    let whole = are.all view on unsplit wide in
    let there = are.wholes.there view whole.0 whole.1 in
    let many : k < length now = omega (arith, lt, ap length plan.origins, length-map now (origin runs)) in
    let r : ℕ = (spot_at now k).view in
    let below : r < length runs = plan.on k d many in
    let of_view : (run_in runs r).view ≡ view = ap (λ (s : Spot). s.view) (sym (get_or-map (origin runs) now k d d many) ∙ ap (λ (ss : List Spot). get_or ss k d) plan.origins) in
    let is_run : r ≡ whole.0 = whole_run_is wholes places runs now spots marks are.wholes plan r whole.0 below (ap (whole_at places) of_view ∙ whole.1) in
    let plain : (run_in runs r).alone ≡ false = ap (λ (i : ℕ). (run_in runs i).alone) is_run ∙ ap (λ (x : Run). x.alone) (plan.first whole.0 there.0 ∙ there.1) in
    let long : length made ≡ length runs = sym (grids_long mid made) ∙ ap length grids ∙ length-map runs (run_grid (grids_of old views) None) in
    subst (λ (v : ℕ). IsSoleBut mid (slice_index made r) (slice_index views v)) of_view
    (sole_but old mid views made stands.live lays runs long lie own
    (λ j le. omega (arith, (inside j no_run le).view, grids_long old views))
    r below plain (subst (λ (v : ℕ). IsSole old (slice_index views v)) (sym of_view) sole)
    (λ j le same. whole_run_is wholes places runs now spots marks are.wholes plan j whole.0 le (ap (whole_at places) (same ∙ of_view) ∙ whole.1) ∙ sym is_run))
