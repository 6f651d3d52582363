-- Spots that are all columns of a manager's views, as the places of its columns, and back.
use Rattle.{std.proofs.Common.{◌≡◌, ℕ, zero, suc, ◌<◌, ◌≤◌, Bool, true, false, cond, nat_lt, ltb-true, List, [], ◌∷◌, length, refl, ap, ap₂, sym, ◌∙◌, subst, arith, get_or, All, inl, inr, count_by, eq-eqb}, std.proofs.lemmas.{Bool.{false≢true, cases_eq, cases_lt, eqb-true, and_parts, lt-ltb, le-ltb}, List.{length-map, get_or-map, get_or_default}, Simd.{map-map}}, std.specs.Prelude.{◌==◌, slice_index, slice_index_or}, column_core.specs.Blocks.{CellBlock}, block_pool.specs.Pools.{PoolValue, grid_at}, block_manager.{specs.{declared.spots.Spot.{Spot}, Managed.{Place, ManagerValue, placed_column, columns_on, AreLive, IsColumnOf, StandsOn}, Changes.{grids_of}, Spots.{place_of, laid_out, AreOn, no_grid, grid_in, width_in, spot_column, spot_columns, is_at, Covers, IsEvenGrid, Stands}}, proofs.{CountLaws.{none_counted, some_counted, here_counted, two_counted, twice_counted, counted_none}, TimesLaws.{times_here, times_place, times_twice, live_once}, GridLaws.{grid_of, grids_long}, OtherLaws.{map_by_all}}}}

-- the test of a spot
pub at_parts : (view column : ℕ) (s : Spot) → is_at view column s ≡ true → (s.view ≡ view) × (s.column ≡ column)
at_parts view column s is =
    let both = and_parts (s.view == view) (s.column == column) is in
    (eqb-true s.view view both.0, eqb-true s.column column both.1)

pub at_itself : (view column : ℕ) (s : Spot) → s.view ≡ view → s.column ≡ column → is_at view column s ≡ true
at_itself view column s v c = rw (eq-eqb s.view view v, eq-eqb s.column column c) refl

-- what stands among spots that cover views
module _ (widths : ℕ → ℕ) (spots : List Spot) (covers : Covers widths spots) where
  pub spot_once : (view column : ℕ) → count_by (is_at view column) spots ≤ 1
  spot_once view column = at (nat_lt column (widths view)) (covers view column)
    where
      at : (b : Bool) → count_by (is_at view column) spots ≡ cond {A = ℕ} b 1 0 → count_by (is_at view column) spots ≤ 1
      at true e = omega (arith, e)
      at false e = omega (arith, e)

  pub spot_within : (k : ℕ) (d : Spot) → k < length spots → (get_or spots k d).column < widths (get_or spots k d).view
  spot_within k d lt = at (get_or spots k d) refl (nat_lt (get_or spots k d).column (widths (get_or spots k d).view)) refl
    where
      at : (s : Spot) → get_or spots k d ≡ s → (b : Bool) → nat_lt (get_or spots k d).column (widths (get_or spots k d).view) ≡ b → (get_or spots k d).column < widths (get_or spots k d).view
      at s e true is = ltb-true (get_or spots k d).column (widths (get_or spots k d).view) is
      at s e false is =
          let here : 0 < count_by (is_at (get_or spots k d).view (get_or spots k d).column) spots =
          here_counted (is_at (get_or spots k d).view (get_or spots k d).column) spots k d lt (at_itself (get_or spots k d).view (get_or spots k d).column (get_or spots k d) refl refl) in
          let none : count_by (is_at (get_or spots k d).view (get_or spots k d).column) spots ≡ 0 = covers (get_or spots k d).view (get_or spots k d).column ∙ ap (λ b. cond {A = ℕ} b 1 0) is in
          absurd (omega (arith, none, here))

  pub spot_there : (d : Spot) (view column : ℕ) → column < widths view → (k : ℕ) × (k < length spots) × (is_at view column (get_or spots k d) ≡ true)
  spot_there d view column lt =
      let one : count_by (is_at view column) spots ≡ 1 = covers view column ∙ ap (λ b. cond {A = ℕ} b 1 0) (lt-ltb column (widths view) lt) in
      some_counted (is_at view column) d spots (omega (arith, one))

  pub spots_differ : (d : Spot) (i j : ℕ) → i < j → j < length spots → (get_or spots i d).view ≡ (get_or spots j d).view → (get_or spots i d).column ≡ (get_or spots j d).column → ⊥
  spots_differ d i j lt below view column =
      let s : Spot = get_or spots j d in
      let two = twice_counted (is_at s.view s.column) d spots i j lt below (at_itself s.view s.column (get_or spots i d) view column) (at_itself s.view s.column s refl refl) in
      omega (arith, two, spot_once s.view s.column)

-- the grid of a view by its place
module _ (pool : PoolValue) (views : List ℕ) where
  pub grid_there : (k : ℕ) → k < length views → grid_in (grids_of pool views) k ≡ grid_at pool (slice_index views k)
  grid_there k lt = grid_of pool views k no_grid lt

  pub no_width : (k : ℕ) → length views ≤ k → width_in (grids_of pool views) k ≡ 0
  no_width k le = at (grids_of pool views) k (omega (arith, grids_long pool views, le))
    where
      at : (gs : List CellBlock) (k : ℕ) → length gs ≤ k → width_in gs k ≡ 0
      at [] k le = refl
      at (g ∷ gs) zero le = absurd (omega (arith, le))
      at (g ∷ gs) (suc k) le = at gs k (omega (arith, le))

  pub width_some : (k column : ℕ) → column < width_in (grids_of pool views) k → k < length views
  width_some k column lt = elim (cases_lt k (length views)) [
    | inl inside ↦ inside
    | inr out ↦ absurd (omega (arith, lt, no_width k out))
  ]

  -- a view stands once among those that are live
  pub same_place : AreLive pool views → (i j : ℕ) → i < length views → j < length views → slice_index views i ≡ slice_index views j → i ≡ j
  same_place live i j li lj e = elim (cases_eq i j) [
    | inl same ↦ same
    | inr ne ↦ elim (cases_lt i j) [
      | inl lt ↦ absurd (omega (arith, times_twice (slice_index views j) 0 views i j lt lj e refl, live (slice_index views j), live_once pool (slice_index views j)))
      | inr ge ↦ absurd (omega (arith, times_twice (slice_index views j) 0 views j i (omega (arith, ge, ne)) li refl e, live (slice_index views j), live_once pool (slice_index views j)))
    ]
  ]

module _ (pool : PoolValue) (views : List ℕ) (spots : List Spot) where
  abbrev s0 : Spot
  s0 = record { view = 0; column = 0 }

  abbrev m : ManagerValue
  m = laid_out views spots

  abbrev at : ℕ → Spot
  at k = get_or spots k s0

  places_long : length m.places ≡ length spots
  places_long = length-map spots (place_of views)

  place_is : (k : ℕ) (d : Place) → k < length spots → get_or m.places k d ≡ place_of views (at k)
  place_is k d lt = get_or-map (place_of views) spots k s0 d lt

  -- the column at a place is that at its spot
  pub placed_spot : (s : Spot) → s.view < length views → placed_column pool (place_of views s) ≡ spot_column (grids_of pool views) s
  placed_spot s lt = ap (λ (g : CellBlock). record { kind = g.kind; cells = slice_index_or g.columns s.column [] }) (sym (grid_there pool views s.view lt))

  pub columns_spots : AreOn (length views) spots → columns_on pool m ≡ spot_columns (grids_of pool views) spots
  columns_spots on =
      map-map (placed_column pool) (place_of views) spots
      ∙ map_by_all (λ s. placed_column pool (place_of views s)) (spot_column (grids_of pool views)) spots (λ k d lt. placed_spot (get_or spots k d) (on k d lt))

  -- from places to spots
  module _ (on : AreOn (length views) spots) (stands : StandsOn pool m) where
    of_view : (k : ℕ) → k < length spots → IsColumnOf pool views (place_of views (at k))
    of_view k lt = subst (IsColumnOf pool views) (place_is k (place_of views (at k)) lt) (stands.placed k (place_of views (at k)) (omega (arith, lt, places_long)))

    column_within : (k : ℕ) → k < length spots → (at k).column < width_in (grids_of pool views) (at k).view
    column_within k lt =
        omega (arith, (of_view k lt).column, ap (λ (g : CellBlock). length g.columns) (grid_there pool views (at k).view (on k s0 lt)))

    -- two columns on one view are different ones
    once : (i j : ℕ) → i < j → j < length spots → (at i).view ≡ (at j).view → (at i).column ≡ (at j).column → ⊥
    once i j lt below view column =
        stands.once i j (place_of views (at j)) lt (omega (arith, below, places_long))
        (place_is i (place_of views (at j)) (omega (arith, lt, below))
        ∙ ap₂ (λ (v c : ℕ). record { view = slice_index views v; column = c }) view column
        ∙ sym (place_is j (place_of views (at j)) below))

    few : (view column : ℕ) → count_by (is_at view column) spots ≤ 1
    few view column = elim (cases_lt 1 (count_by (is_at view column) spots)) [
      | inl two ↦
          let found = two_counted (is_at view column) s0 spots two in
          let a = at_parts view column (at found.0) found.4 in
          let b = at_parts view column (at found.1) found.5 in
          absurd (once found.0 found.1 found.2 found.3 (a.0 ∙ sym b.0) (a.1 ∙ sym b.1))
      | inr le ↦ le
    ]

    some : (view column : ℕ) → column < width_in (grids_of pool views) view → 0 < count_by (is_at view column) spots
    some view column lt = elim (cases_lt 0 (count_by (is_at view column) spots)) [
      | inl more ↦ more
      | inr none ↦
          let inside = width_some pool views view column lt in
          let p : Place = record { view = slice_index views view; column = column } in
          let is : IsColumnOf pool views p = record {
            view = times_here views view 0 (slice_index views view) inside refl;
            column = omega (arith, lt, ap (λ (g : CellBlock). length g.columns) (grid_there pool views view inside));
          } in
          absurd (stands.covered p is (λ k d le e.
          let below : k < length spots = omega (arith, le, places_long) in
          let here : place_of views (at k) ≡ p = sym (place_is k d below) ∙ e in
          let same : (at k).view ≡ view = same_place pool views stands.live (at k).view view (on k s0 below) inside (ap (λ (q : Place). q.view) here) in
          false≢true (sym (none_counted (is_at view column) spots (omega (arith, none)) k s0 below) ∙ at_itself view column (at k) same (ap (λ (q : Place). q.column) here))))
    ]

    nothing : (view column : ℕ) → width_in (grids_of pool views) view ≤ column → count_by (is_at view column) spots ≡ 0
    nothing view column le = counted_none (is_at view column) spots (λ k d lt. not_there k d lt (is_at view column (get_or spots k d)) refl)
      where
        not_there : (k : ℕ) (d : Spot) → k < length spots → (b : Bool) → is_at view column (get_or spots k d) ≡ b → is_at view column (get_or spots k d) ≡ false
        not_there k d lt false is = is
        not_there k d lt true is =
            let here = at_parts view column (at k) (subst (λ (s : Spot). is_at view column s ≡ true) (get_or_default spots k d s0 lt) is) in
            absurd (omega (arith, column_within k lt, ap (width_in (grids_of pool views)) here.0, here.1, le))

    covers : Covers (width_in (grids_of pool views)) spots
    covers view column = elim (cases_lt column (width_in (grids_of pool views) view)) [
      | inl lt ↦ (let few_here = few view column in let some_here = some view column lt in rw (lt-ltb column (width_in (grids_of pool views) view) lt) (omega (arith, few_here, some_here)))
      | inr le ↦ rw (le-ltb column (width_in (grids_of pool views) view) le) (nothing view column le)
    ]

    even : All IsEvenGrid (grids_of pool views)
    even v d lt column e inside =
        let below : v < length views = omega (arith, lt, grids_long pool views) in
        let grid : CellBlock = get_or (grids_of pool views) v d in
        let is : grid ≡ grid_in (grids_of pool views) v = get_or_default (grids_of pool views) v d no_grid lt in
        let found = spot_there (width_in (grids_of pool views)) spots covers s0 v column (omega (arith, inside, ap (λ (g : CellBlock). length g.columns) is)) in
        let here = at_parts v column (at found.0) found.2 in
        let p : Place = place_of views (at found.0) in
        let long = subst (λ (q : Place). length (placed_column pool q).cells ≡ (grid_at pool q.view).rows) (place_is found.0 p found.1) (stands.even found.0 p (omega (arith, found.1, places_long))) in
        let there : grid_at pool (slice_index views (at found.0).view) ≡ grid = ap (λ v. grid_at pool (slice_index views v)) here.0 ∙ sym (grid_there pool views v below) ∙ sym is in
        ap length (get_or_default grid.columns column e [] inside)
        ∙ ap₂ (λ (g : CellBlock) (c : ℕ). length (get_or g.columns c [])) (sym there) (sym here.1)
        ∙ long ∙ ap (λ (g : CellBlock). g.rows) there

    pub stands_spots : Stands pool views spots
    stands_spots = record { live = stands.live; fits = record { covers = covers; even = even } }

  -- and back
  module _ (stands : Stands pool views spots) where
    abbrev widths : ℕ → ℕ
    widths = width_in (grids_of pool views)

    pub spots_on : AreOn (length views) spots
    spots_on k d lt = width_some pool views (get_or spots k d).view (get_or spots k d).column (spot_within widths spots stands.fits.covers k d lt)

    placed_at : (k : ℕ) → k < length spots → IsColumnOf pool views (place_of views (at k))
    placed_at k lt = record {
      view = times_here views (at k).view 0 (slice_index views (at k).view) (spots_on k s0 lt) refl;
      column = omega (arith, spot_within widths spots stands.fits.covers k s0 lt, ap (λ (g : CellBlock). length g.columns) (grid_there pool views (at k).view (spots_on k s0 lt)));
    }

    pub spots_stand : StandsOn pool m
    spots_stand = record {
      live = stands.live;
      placed = λ k d lt. subst (IsColumnOf pool views) (sym (place_is k d (omega (arith, lt, places_long)))) (placed_at k (omega (arith, lt, places_long)));
      covered = λ p is none.
          let at_view = times_place p.view 0 views is.view in
          let grid : grid_in (grids_of pool views) at_view.0 ≡ grid_at pool p.view = grid_there pool views at_view.0 at_view.1 ∙ ap (grid_at pool) at_view.2 in
          let found = spot_there widths spots stands.fits.covers s0 at_view.0 p.column (omega (arith, is.column, ap (λ (g : CellBlock). length g.columns) grid)) in
          let here = at_parts at_view.0 p.column (at found.0) found.2 in
          none found.0 p (omega (arith, found.1, places_long))
          (place_is found.0 p found.1 ∙ ap₂ (λ (v c : ℕ). record { view = slice_index views v; column = c }) here.0 here.1 ∙ ap (λ (v : ℕ). record { view = v; column = p.column }) at_view.2);
      once = λ i j d lt below e.
          let inside : j < length spots = omega (arith, below, places_long) in
          let e' : place_of views (at i) ≡ place_of views (at j) = sym (place_is i d (omega (arith, lt, inside))) ∙ e ∙ place_is j d inside in
          spots_differ widths spots stands.fits.covers s0 i j lt inside
          (same_place pool views stands.live (at i).view (at j).view (spots_on i s0 (omega (arith, lt, inside))) (spots_on j s0 inside) (ap (λ (q : Place). q.view) e'))
          (ap (λ (q : Place). q.column) e');
      even = λ k d lt.
          let below : k < length spots = omega (arith, lt, places_long) in
          let v : ℕ = (at k).view in
          let inside = spots_on k s0 below in
          let grid = grid_there pool views v inside in
          let long = stands.fits.even v no_grid (omega (arith, inside, grids_long pool views)) (at k).column [] (spot_within widths spots stands.fits.covers k s0 below) in
          subst (λ (q : Place). length (placed_column pool q).cells ≡ (grid_at pool q.view).rows) (sym (place_is k d below))
          (ap (λ (g : CellBlock). length (get_or g.columns (at k).column [])) (sym grid) ∙ long ∙ ap (λ (g : CellBlock). g.rows) grid);
    }
