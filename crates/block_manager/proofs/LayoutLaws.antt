-- A manager by its views and the spots of its columns, and what is made of it.
use Rattle.{std.proofs.Common.{◌≡◌, ℕ, suc, ◌+◌, ◌<◌, Bool, List, [], map, length, take, drop, ap, sym, ◌∙◌, subst, arith, get_or, All, Option, Some, None, Ok, Err}, std.proofs.lemmas.{List.{length-map, get_or-map, get_or_default, map-id}, List.Elements.{All-append, All-take, All-drop}, Simd.{map-map}}, std.specs.Prelude.{IfOk, Result, slice_index, slice_index_or, remove}, cell_core.specs.{declared.{cell.Cell.{Cell}, cell.Cell.TheVariants.{Na}, grid.Rows.{Rows}}, Grids.{AreRowsBelow}}, column_core.{specs.Blocks.{CellBlock}, proofs.ColumnLaws.{length-tabulate}}, meaning_tables.specs.{Table.{ColumnOf, column_at, no_column}, cells.Block.{strided}}, block_pool.specs.{declared.views.ViewId.{ViewId}, Pools.{PoolValue, grid_at, IsLive}}, block_manager.{specs.{declared.spots.{Spot.{Spot}, Run.{Run}}, Managed.{ManagerValue, AreLive, StandsOn, columns_on}, Changes.{grids_of, numbers_of}, Parts.{AreBelow}, Spots.{place_of, laid_out, AreOn, no_grid, grid_in, width_in, spot_at, spot_column, spot_columns, IsEvenGrid, Fits, Stands, Shows, no_run, rows_by, run_grid, column_by, IsPick, AreOwnRuns, AreOwnAt}}, proofs.{TimesLaws.{live_in}, GridLaws.{grid_of, grids_long, numbers_long, map-remove}, SpotLaws.{grid_there, spot_within, columns_spots, stands_spots, spots_on}, PlanLaws.{s0, FullPlan, plan_fits, plan_columns}, SharedLaws.{all_below}, OtherLaws.{map_by_all}}}}

-- a manager by its views and spots
module _ (pool : PoolValue) (m : ManagerValue) (views : List ViewId) (spots : List Spot) (is : laid_out (numbers_of views) spots ≡ m) (on : AreOn (length views) spots) (stands : StandsOn pool m) where
  abbrev ids : List ℕ
  ids = numbers_of views

  abbrev grids : List CellBlock
  grids = grids_of pool ids

  pub on_ids : AreOn (length (numbers_of views)) spots
  on_ids = subst (λ n. AreOn n spots) (sym (numbers_long views)) on

  pub inner : Stands pool (numbers_of views) spots
  inner = stands_spots pool ids spots on_ids (subst (StandsOn pool) (sym is) stands)

  pub inner_columns : columns_on pool m ≡ spot_columns (grids_of pool (numbers_of views)) spots
  inner_columns = ap (columns_on pool) (sym is) ∙ columns_spots pool ids spots on_ids

  pub inner_shows : Shows pool (numbers_of views) spots (columns_on pool m)
  inner_shows = record { stands = inner; columns_are = sym inner_columns }

  pub views_are : m.views ≡ numbers_of views
  views_are = ap (λ (n : ManagerValue). n.views) (sym is)

  pub places_count : length m.places ≡ length spots
  places_count = ap (λ (n : ManagerValue). length n.places) (sym is) ∙ length-map spots (place_of ids)

  pub column_is : (k : ℕ) (d : Spot) → k < length spots → column_at (columns_on pool m) k ≡ spot_column grids (get_or spots k d)
  column_is k d lt = ap (λ (cs : List (ColumnOf Cell)). column_at cs k) inner_columns ∙ get_or-map (spot_column grids) spots k d no_column lt

  view_inside : (k : ℕ) (d : Spot) → k < length spots → (get_or spots k d).view < length grids
  view_inside k d lt = omega (arith, on k d lt, numbers_long views, grids_long pool ids)

  column_inside : (k : ℕ) (d : Spot) → k < length spots → (get_or spots k d).column < width_in grids (get_or spots k d).view
  column_inside k d lt = spot_within (width_in grids) spots inner.fits.covers k d lt

  cells_long : (k : ℕ) (d : Spot) → k < length spots → length (spot_column grids (get_or spots k d)).cells ≡ (grid_in grids (get_or spots k d).view).rows
  cells_long k d lt = inner.fits.even (get_or spots k d).view no_grid (view_inside k d lt) (get_or spots k d).column [] (column_inside k d lt)

  -- the columns as picks, with all rows or with rows that each of them has
  pub all_picks : All (IsPick (grids_of pool (numbers_of views)) None) spots
  all_picks k d lt = record { view = view_inside k d lt; column = column_inside k d lt; rows = all_below _ }

  pub row_picks : (rows : Rows) → All (λ (c : ColumnOf Cell). AreRowsBelow rows (length c.cells)) (columns_on pool m) → All (IsPick (grids_of pool (numbers_of views)) (Some rows)) spots
  row_picks rows below k d lt = record {
    view = view_inside k d lt;
    column = column_inside k d lt;
    rows = subst (AreRowsBelow rows) (ap (λ (c : ColumnOf Cell). length c.cells) (column_is k d lt) ∙ cells_long k d lt)
        (below k no_column (omega (arith, lt, ap length inner_columns, length-map spots (spot_column grids))));
  }

  -- the view of a column
  pub spot_on : (k : ℕ) (s : Spot) → k < length spots → s ≡ get_or spots k s → s.view < length views
  spot_on k s lt at = subst (λ (t : Spot). t.view < length views) (sym at) (on k s lt)

  module _ (k : ℕ) (s : Spot) (lt : k < length spots) (at : s ≡ get_or spots k s) (v : ViewId) (at_view : v ≡ slice_index_or views s.view v) where
    s_on : s.view < length views
    s_on = spot_on k s lt at

    pub spot_named : slice_index (numbers_of views) s.view ≡ v.0
    spot_named = get_or-map (λ (w : ViewId). w.0) views s.view v 0 s_on ∙ sym (ap (λ (w : ViewId). w.0) at_view)

    pub spot_live : IsLive pool v.0
    spot_live = subst (IsLive pool) spot_named (live_in pool ids s.view 0 inner.live (omega (arith, s_on, numbers_long views)))

    grid_is : grid_in grids s.view ≡ grid_at pool v.0
    grid_is = grid_there pool ids s.view (omega (arith, s_on, numbers_long views)) ∙ ap (grid_at pool) spot_named

    pub spot_inside : s.column < length (grid_at pool v.0).columns
    spot_inside = omega (arith, subst (λ (t : Spot). t.column < width_in grids t.view) (sym at) (column_inside k s lt), ap (λ (g : CellBlock). length g.columns) grid_is)

    pub spot_column_is : column_at (columns_on pool m) k ≡ record { kind = (grid_at pool v.0).kind; cells = slice_index_or (grid_at pool v.0).columns s.column [] }
    spot_column_is = column_is k s lt ∙ ap (spot_column grids) (sym at) ∙ ap (λ (g : CellBlock). record { kind = g.kind; cells = slice_index_or g.columns s.column [] }) grid_is

-- what is made by a plan
module _ (new : PoolValue) (grids : List CellBlock) (rows : Option Rows) (runs : List Run) (spots picks : List Spot) (marks : List Bool) (plan : FullPlan runs spots picks marks) (even : All IsEvenGrid grids) (inside : All (IsPick grids rows) picks)
    (made : List ℕ) (live : AreLive new made) (are : grids_of new made ≡ map (run_grid grids rows) runs) where
  pub made_shows : Shows new made spots (map (column_by rows) (spot_columns grids picks))
  made_shows = record {
    stands = record {
      live = live;
      fits = subst (λ (gs : List CellBlock). Fits gs spots) (sym are) (plan_fits runs spots picks marks plan grids rows even inside);
    };
    columns_are = ap (λ (gs : List CellBlock). spot_columns gs spots) are ∙ plan_columns runs spots picks marks plan grids rows even inside;
  }

  -- each view has columns
  pub made_some : All (λ view. 0 < length (grid_at new view).columns) made
  made_some k d lt =
      let many : length made ≡ length runs = sym (grids_long new made) ∙ ap length are ∙ length-map runs (run_grid grids rows) in
      let inside : k < length runs = omega (arith, lt, many) in
      let r : Run = get_or runs k no_run in
      let grid : grid_at new (get_or made k 0) ≡ run_grid grids rows r = sym (grid_of new made k no_grid lt) ∙ ap (λ (gs : List CellBlock). get_or gs k no_grid) are ∙ get_or-map (run_grid grids rows) runs k no_run no_grid inside in
      let wide : length (run_grid grids rows r).columns ≡ r.count = length-tabulate r.count (λ c. strided Na (slice_index_or (grid_in grids r.view).columns (r.from + c) []) (rows_by rows (grid_in grids r.view))) in
      let some : 0 < r.count = plan.some k no_run inside in
      subst (λ (v : ℕ). 0 < length (grid_at new v).columns) (get_or_default made k 0 d lt) (omega (arith, some, wide, ap (λ (g : CellBlock). length g.columns) grid))

  -- the views of marked columns are on blocks of their own
  pub made_own : AreOwnRuns new made runs → AreOwnAt new made spots marks
  made_own own k lt is = own (spot_at spots k).view (plan.on k s0 lt) (plan.apart k lt is)

-- all columns of a manager, as picks
module _ (pool : PoolValue) (views : List ℕ) (spots : List Spot) (stands : Stands pool views spots) where
  pub whole_picks : All (IsPick (grids_of pool views) None) spots
  whole_picks k d lt = record {
    view = (let on = spots_on pool views spots stands k d lt in omega (arith, on, grids_long pool views));
    column = spot_within (width_in (grids_of pool views)) spots stands.fits.covers k d lt;
    rows = all_below _;
  }

-- all rows of columns
pub all_columns : (columns : List (ColumnOf Cell)) → map (column_by None) columns ≡ columns
all_columns columns = map-id columns

-- columns that are picked by places, and those but one
pub picked_columns : (grids : List CellBlock) (spots : List Spot) (places : List ℕ) → AreBelow (length spots) places → spot_columns grids (map (spot_at spots) places) ≡ map (column_at (spot_columns grids spots)) places
picked_columns grids spots places below =
    map-map (spot_column grids) (spot_at spots) places
    ∙ map_by_all (λ place. spot_column grids (spot_at spots place)) (column_at (spot_columns grids spots)) places
    (λ k d lt. sym (get_or-map (spot_column grids) spots (get_or places k d) s0 no_column (below k d lt)))

pub other_columns_are : (grids : List CellBlock) (spots : List Spot) (place : ℕ) → spot_columns grids (remove spots place) ≡ remove (spot_columns grids spots) place
other_columns_are grids spots place = map-remove (spot_column grids) spots place

-- what holds of spots holds of those that are picked
pub picked_picks : (P : Spot → Type 0) (spots : List Spot) (places : List ℕ) → All P spots → AreBelow (length spots) places → All P (map (spot_at spots) places)
picked_picks P spots places all below k d lt =
    let inside : k < length places = omega (arith, lt, length-map places (spot_at spots)) in
    subst P (sym (get_or-map (spot_at spots) places k 0 d inside)) (all (get_or places k 0) s0 (below k 0 inside))

pub removed_picks : (P : Spot → Type 0) (spots : List Spot) (place : ℕ) → All P spots → All P (remove spots place)
removed_picks P spots place all = All-append P (take place spots) (drop (suc place) spots) (All-take P place spots all) (All-drop P (suc place) spots all)

-- what follows of a value that there is if no memory lacked
pub if_ok : {X E : Type 0} (P Q : X → Type 0) (r : Result X E) → ((x : X) → P x → Q x) → IfOk r P → IfOk r Q
if_ok P Q (Ok x) f p = f x p
if_ok P Q (Err e) f p = p
