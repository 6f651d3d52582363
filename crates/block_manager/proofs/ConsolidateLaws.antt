-- A manager whose views are joined by their kinds.
use Rattle.{std.proofs.Common.{◌≡◌, ℕ, ◌<◌, ◌≤◌, List, [], map, length, refl, ap, ap₂, sym, ◌∙◌, subst, arith, get_or, All}, std.proofs.lemmas.{List.{length-map, get_or-map, get_or_default}, List.Sums.{get_or-le-sum_by}}, std.specs.{Prelude.{slice_index, slice_index_or}}, cell_core.specs.declared.cell.{Cell.{Cell}, Kind.TheVariants.{Int64}}, column_core.specs.Blocks.{CellBlock}, meaning_tables.specs.Table.{ColumnOf, no_column}, block_pool.specs.Pools.{PoolValue, grid_at, live_count, IsApart, IsSole}, block_manager.{specs.{declared.spots.Spot.{Spot}, Parts.{HaveRows}, Managed.{Place, AreJoined, AreLive, Exchanges, Keeps, placed_column, rows_of, times}, Changes.{grids_of}, Spots.{place_of, laid_out, no_grid, grid_in, width_in, spot_column, spot_columns, Fits, Shows}, Groups.{GroupValue, no_views, group_at, group_grid, moved, times_in, AreGroups, IsGroup, IsFilled, JoinsGroups}}, proofs.{TimesLaws.{times_here, times_place, live_in}, GridLaws.{grids_long}, SpotLaws.{at_parts, grid_there, placed_spot, spot_there, spots_on}, PlanLaws.{s0}, GroupLaws.{moved_columns, moved_fits, moved_joined}}}}

module _ (old : PoolValue) (views : List ℕ) (spots : List Spot) (columns : List (ColumnOf Cell)) (shows : Shows old views spots columns) (sole : All (IsSole old) views) (whole : All (IsFilled old) views) (rows : HaveRows (rows_of columns) columns) (groups : List GroupValue) (targets : List Spot) (are : AreGroups (grid_at old) views groups targets) where
  abbrev grids : List CellBlock
  grids = grids_of old views

  fits : Fits grids spots
  fits = shows.stands.fits

  -- each view has as many rows as the columns have cells
  view_rows : (v : ℕ) → v < length views → (grid_at old (slice_index views v)).rows ≡ rows_of columns
  view_rows v lt =
      let grid : grid_in grids v ≡ grid_at old (slice_index views v) = grid_there old views v lt in
      let first : 0 < width_in grids v = subst (λ (g : CellBlock). 0 < length g.columns) (sym grid) (whole v 0 lt).some in
      let found = spot_there (width_in grids) spots fits.covers s0 v 0 first in
      let parts = at_parts v 0 (get_or spots found.0 s0) found.2 in
      let seen : get_or columns found.0 no_column ≡ spot_column grids (get_or spots found.0 s0) = ap (λ (cs : List (ColumnOf Cell)). get_or cs found.0 no_column) (sym shows.columns_are) ∙ get_or-map (spot_column grids) spots found.0 s0 no_column found.1 in
      let many : found.0 < length columns = omega (arith, found.1, ap length shows.columns_are, length-map spots (spot_column grids)) in
      let long : length (slice_index_or (grid_in grids v).columns 0 []) ≡ (grid_in grids v).rows = fits.even v no_grid (omega (arith, lt, grids_long old views)) 0 [] first in
      let there : spot_column grids (get_or spots found.0 s0) ≡ record { kind = (grid_in grids v).kind; cells = slice_index_or (grid_in grids v).columns 0 [] } =
      ap₂ (λ (w c : ℕ). record { kind = (grid_in grids w).kind; cells = slice_index_or (grid_in grids w).columns c [] }) parts.0 parts.1 in
      ap (λ (g : CellBlock). g.rows) (sym grid) ∙ sym long ∙ ap (λ (c : ColumnOf Cell). length c.cells) (sym (seen ∙ there)) ∙ rows found.0 no_column many

  -- the views of a group are among the views
  in_views : (t : ℕ) → t < length groups → (q : ℕ) → times q (group_at groups t).views ≤ times q views
  in_views t lt q = omega (arith, get_or-le-sum_by (λ (g : GroupValue). times q g.views) groups t (no_views Int64) lt, are.sorted.once q)

  place_in : (t k d : ℕ) → t < length groups → k < length (group_at groups t).views → (v : ℕ) × (v < length views) × (slice_index views v ≡ get_or (group_at groups t).views k d)
  place_in t k d lt below =
      let q : ℕ = get_or (group_at groups t).views k d in
      times_place q 0 views (omega (arith, times_here (group_at groups t).views k d q below refl, in_views t lt q))

  group_rows : (t k d : ℕ) → t < length groups → k < length (group_at groups t).views → (grid_at old (get_or (group_at groups t).views k d)).rows ≡ rows_of columns
  group_rows t k d lt below = (let p = place_in t k d lt below in ap (λ (q : ℕ). (grid_at old q).rows) (sym p.2) ∙ view_rows p.0 p.1)

  first_rows : (t : ℕ) → t < length groups → (grid_at old (slice_index (group_at groups t).views 0)).rows ≡ rows_of columns
  first_rows t lt = group_rows t 0 0 lt (are.some t (no_views Int64) lt)

  group_at_is : (t : ℕ) → t < length groups → IsGroup old (group_at groups t)
  group_at_is t lt = record {
    some = are.some t (no_views Int64) lt;
    live = λ q. omega (arith, in_views t lt q, shows.stands.live q);
    apart = λ k d below.
        let p = place_in t k d lt below in
        subst (IsApart old) p.2 (record {
          live = live_in old views p.0 0 shows.stands.live p.1;
          sole = sole p.0 0 p.1;
          full = (whole p.0 0 p.1).full;
        });
    kinds = are.sorted.alike t (no_views Int64) lt;
    rows = λ k d below. group_rows t k d lt below ∙ sym (first_rows t lt);
  }

  pub all_groups : All (IsGroup old) groups
  all_groups t d lt = subst (IsGroup old) (get_or_default groups t (no_views Int64) d lt) (group_at_is t lt)

  pub groups_apart : (q : ℕ) → times_in q groups ≤ live_count old q
  groups_apart q = omega (arith, are.sorted.once q, shows.stands.live q)

  -- once they are joined
  module _ (new : PoolValue) (left : List ℕ) (joins : JoinsGroups old new groups left) where
    abbrev after : List Spot
    after = map (moved targets) spots

    pub joined_live : AreLive new left
    joined_live q = omega (arith, joins.views q, groups_apart q)

    pub joined_shows : Shows new left (map (moved targets) spots) columns
    joined_shows = record {
      stands = record {
        live = joined_live;
        fits = subst (λ (gs : List CellBlock). Fits gs after) (sym joins.grids) (moved_fits (grid_at old) views groups targets are.sorted are.targets_are spots fits (rows_of columns) view_rows first_rows);
      };
      columns_are = ap (λ (gs : List CellBlock). spot_columns gs after) joins.grids ∙ moved_columns (grid_at old) views groups targets are.sorted are.targets_are spots fits ∙ shows.columns_are;
    }

    pub joined_views : Exchanges old new views left
    joined_views q = omega (arith, joins.views q, are.sorted.once q)

    pub joined_kept : Keeps old new views
    joined_kept q none one = joins.kept q (omega (arith, are.sorted.once q, none))

    -- columns of one kind are on one view
    place_at : (k : ℕ) (d : Place) → k < length spots → get_or (laid_out left after).places k d ≡ place_of left (moved targets (get_or spots k s0))
    place_at k d lt =
        get_or-map (place_of left) after k s0 d (omega (arith, lt, length-map spots (moved targets)))
        ∙ ap (place_of left) (get_or-map (moved targets) spots k s0 s0 lt)

    spot_inside : (k : ℕ) → k < length spots → (get_or spots k s0).view < length views
    spot_inside k lt = spots_on old views spots shows.stands k s0 lt

    moved_inside : (k : ℕ) → k < length spots → (moved targets (get_or spots k s0)).view < length left
    moved_inside k lt = (let h = (are.targets_are.stands (get_or spots k s0).view (spot_inside k lt)).inside in omega (arith, h, ap length joins.grids, grids_long new left, length-map groups (group_grid (grid_at old))))

    kind_at : (k : ℕ) (d : Place) → k < length spots → (placed_column new (get_or (laid_out left after).places k d)).kind ≡ (spot_column (map (group_grid (grid_at old)) groups) (moved targets (get_or spots k s0))).kind
    kind_at k d lt =
        ap (λ (p : Place). (placed_column new p).kind) (place_at k d lt)
        ∙ ap (λ (c : ColumnOf Cell). c.kind) (placed_spot new left after (moved targets (get_or spots k s0)) (moved_inside k lt))
        ∙ ap (λ (gs : List CellBlock). (spot_column gs (moved targets (get_or spots k s0))).kind) joins.grids

    pub joined_kinds : AreJoined new (laid_out left (map (moved targets) spots))
    joined_kinds i d li j e lj same =
        let many : length (laid_out left after).places ≡ length spots = length-map after (place_of left) ∙ length-map spots (moved targets) in
        let a : i < length spots = omega (arith, li, many) in
        let b : j < length spots = omega (arith, lj, many) in
        let kinds = sym (kind_at j e b) ∙ same ∙ kind_at i d a in
        let views_same = moved_joined (grid_at old) views groups targets are.sorted are.targets_are spots fits (get_or spots j s0) (get_or spots i s0) (spot_inside j b) (spot_inside i a) kinds in
        ap (λ (p : Place). p.view) (place_at j e b) ∙ ap (slice_index left) views_same ∙ ap (λ (p : Place). p.view) (sym (place_at i d a))
