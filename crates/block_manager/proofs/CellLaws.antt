-- A cell that is set at a spot.
use Rattle.{std.proofs.Common.{◌≡◌, ◌≢◌, ℕ, ◌<◌, cond, nat_lt, List, [], length, refl, ap, sym, ◌∙◌, subst, arith, get_or, inl, inr, length-set, get_or-set_same, get_or-set_other, Option}, std.proofs.lemmas.{Bool.{cases_eq, cases_lt}, List.{length-map, get_or-map, get_or_default}, List.Elements.{All-set}}, std.specs.{Prelude.{slice_index, slice_index_or, slice_set}}, cell_core.specs.declared.cell.{Cell.{Cell}, Kind.{Kind}}, column_core.specs.Blocks.{CellBlock}, meaning_tables.specs.{Table.{ColumnOf, column_at, no_column}, Change.{with_cell_at, with_cell}}, block_pool.{specs.{declared.views.ViewId.{ViewId}, Pools.{PoolValue, ViewValue, grid_at, block_at, view_or, grid_with, with_grid, IsLive, IsSole}}, proofs.ChangeLaws.{with_grid_view, with_grid_count, with_grid_other, with_grid_sole, grid_is, grid_kept, view_kept}}, block_manager.{specs.{declared.spots.Spot.{Spot}, Parts.{IsHeld}, Managed.{AreLive, times, block_under, under}, Changes.{grids_of, numbers_of, Writes}, Spots.{no_grid, grid_in, width_in, spot_column, spot_columns, IsEvenGrid, Fits, Stands, spot_at, AreAloneAt}}, proofs.{TimesLaws.{times_here, live_in}, GridLaws.{grid_of, grids_long, numbers_long}, SpotLaws.{spot_within, spots_on, spots_differ, same_place, grid_there, width_some}, PlanLaws.{set_seen, beyond}, WritingLaws.{set_by}}}}

-- a view whose columns are asked for is one of those listed
pub width_inside : (grids : List CellBlock) (view column : ℕ) → column < width_in grids view → view < length grids
width_inside grids view column lt = elim (cases_lt view (length grids)) [
  | inl inside ↦ inside
  | inr out ↦ absurd (omega (arith, lt, ap (λ (g : CellBlock). length g.columns) (beyond grids view no_grid out)))
]

module _ (grids : List CellBlock) (spots : List Spot) (fits : Fits grids spots) (place row : ℕ) (cell : Cell) (lt : place < length spots) where
  abbrev s : Spot
  s = spot_at spots place

  abbrev g : CellBlock
  g = grid_in grids s.view

  abbrev changed : CellBlock
  changed = grid_with g s.column row cell

  abbrev pub after : List CellBlock
  after = slice_set grids s.view changed

  below : s.column < width_in grids s.view
  below = spot_within (width_in grids) spots fits.covers place record { view = 0; column = 0 } lt

  inside : s.view < length grids
  inside = width_inside grids s.view s.column below

  widths : (k : ℕ) → width_in after k ≡ width_in grids k
  widths k = set_seen (λ (x : CellBlock). length x.columns) grids s.view k changed no_grid (length-set g.columns s.column _)

  even_g : IsEvenGrid g
  even_g = fits.even s.view no_grid inside

  pub cell_fits : Fits after spots
  cell_fits = record {
    covers = λ view column. fits.covers view column ∙ ap (λ n. cond {A = ℕ} (nat_lt column n) 1 0) (sym (widths view));
    even = All-set IsEvenGrid grids s.view changed
        (All-set (λ (c : List Cell). length c ≡ g.rows) g.columns s.column (slice_set (slice_index_or g.columns s.column []) row cell) (length-set (slice_index_or g.columns s.column []) row cell ∙ even_g s.column [] below) even_g)
        fits.even;
  }

  -- another spot shows what it showed
  other : (k : ℕ) (d : Spot) → k < length spots → k ≢ place → spot_column after (get_or spots k d) ≡ spot_column grids (get_or spots k d)
  other k d le ne =
      let t : Spot = get_or spots k d in
      elim (cases_eq t.view s.view) [
        | inl e ↦
            let apart : t.column ≢ s.column = λ c. elim (cases_lt k place) [
              | inl lower ↦ spots_differ (width_in grids) spots fits.covers d k place lower lt (e ∙ ap (λ (x : Spot). x.view) (get_or_default spots place record { view = 0; column = 0 } d lt)) (c ∙ ap (λ (x : Spot). x.column) (get_or_default spots place record { view = 0; column = 0 } d lt))
              | inr higher ↦ spots_differ (width_in grids) spots fits.covers d place k (omega (arith, higher, ne)) le (ap (λ (x : Spot). x.view) (get_or_default spots place d record { view = 0; column = 0 } lt) ∙ sym e) (ap (λ (x : Spot). x.column) (get_or_default spots place d record { view = 0; column = 0 } lt) ∙ sym c)
            ] in
            ap (λ (x : CellBlock). record { kind = x.kind; cells = slice_index_or x.columns t.column [] }) (ap (grid_in after) e ∙ get_or-set_same grids s.view changed no_grid inside)
            ∙ ap (λ (cells : List Cell). record { kind = g.kind; cells = cells }) (get_or-set_other g.columns s.column t.column (slice_set (slice_index_or g.columns s.column []) row cell) [] apart)
            ∙ ap (λ (x : CellBlock). record { kind = x.kind; cells = slice_index_or x.columns t.column [] }) (ap (grid_in grids) (sym e))
        | inr ne_view ↦ ap (λ (x : CellBlock). record { kind = x.kind; cells = slice_index_or x.columns t.column [] }) (get_or-set_other grids s.view t.view changed no_grid ne_view)
      ]

  here : spot_column after s ≡ with_cell_at (spot_column grids s) row cell
  here =
      ap (λ (x : CellBlock). record { kind = x.kind; cells = slice_index_or x.columns s.column [] }) (get_or-set_same grids s.view changed no_grid inside)
      ∙ ap (λ (cells : List Cell). record { kind = g.kind; cells = cells }) (get_or-set_same g.columns s.column (slice_set (slice_index_or g.columns s.column []) row cell) [] below)

  pub cell_columns : spot_columns after spots ≡ with_cell (spot_columns grids spots) place row cell
  cell_columns =
      let long : length (spot_columns grids spots) ≡ length spots = length-map spots (spot_column grids) in
      set_by (spot_columns grids spots) (spot_columns after spots) place (with_cell_at (column_at (spot_columns grids spots) place) row cell) (length-map spots (spot_column after) ∙ sym long)
      (λ k d le ne.
      let within : k < length spots = omega (arith, le, long) in
      get_or-map (spot_column after) spots k record { view = 0; column = 0 } d within ∙ other k record { view = 0; column = 0 } within ne ∙ sym (get_or-map (spot_column grids) spots k record { view = 0; column = 0 } d within))
      (λ d le.
      get_or-map (spot_column after) spots place record { view = 0; column = 0 } d lt ∙ here
      ∙ ap (λ (c : ColumnOf Cell). with_cell_at c row cell) (sym (get_or-map (spot_column grids) spots place record { view = 0; column = 0 } no_column lt)))

-- a view of a list has another grid
module _ (old new : PoolValue) (views : List ℕ) (v : ℕ) (g : CellBlock) (live : AreLive old views) (lt : v < length views) (is : new ≡ with_grid old (slice_index views v) g) where
  abbrev view : ℕ
  view = slice_index views v

  abbrev written : PoolValue
  written = with_grid old view g

  here_live : IsLive old view
  here_live = live_in old views v 0 live lt

  pub put_grids : grids_of new views ≡ slice_set (grids_of old views) v g
  put_grids = subst (λ (p : PoolValue). grids_of p views ≡ slice_set (grids_of old views) v g) (sym is)
      (set_by (grids_of old views) (grids_of written views) v g (grids_long written views ∙ sym (grids_long old views))
      (λ k d le ne.
      let inside : k < length views = omega (arith, le, grids_long old views) in
      grid_of written views k d inside
      ∙ grid_kept old written (slice_index views k) (with_grid_other old view g (slice_index views k) (λ e. ne (same_place old views live k v inside lt e)))
      ∙ sym (grid_of old views k d inside))
      (λ d le. grid_of written views v d lt ∙ grid_is written view (block_at old view) g (with_grid_view old view g)))

  pub put_live : AreLive new views
  put_live = subst (λ (p : PoolValue). AreLive p views) (sym is) (λ q. omega (arith, with_grid_count old view g here_live q, live q))

  -- each view lies on the block on which it lay
  written_under : (q : ℕ) → block_under written q ≡ block_under old q
  written_under q = elim (cases_eq q view) [
    | inl e ↦ ap (block_under written) e ∙ ap (λ (o : Option ViewValue). under (view_or o)) (with_grid_view old view g) ∙ ap (block_under old) (sym e)
    | inr ne ↦ ap under (view_kept old written q (with_grid_other old view g q ne))
  ]

  pub put_writes : Writes old new views
  put_writes = subst (λ (p : PoolValue). Writes old p views) (sym is) (record {
    live = with_grid_count old view g here_live;
    kept = λ q none. with_grid_other old view g q (λ e. (let some : 0 < times q views = times_here views v 0 q lt (sym e) in omega (arith, none, some)));
    lies = record { blocks = refl; lies = written_under };
  })

  pub put_sole : (q : ℕ) → IsSole old q → IsSole new q
  put_sole q sole = subst (λ (p : PoolValue). IsSole p q) (sym is) (with_grid_sole old view g here_live q sole)

-- a cell of a column is set
module _ (old new : PoolValue) (views : List ℕ) (spots : List Spot) (place row : ℕ) (cell : Cell) (stands : Stands old views spots) (lt : place < length spots)
    (is : new ≡ with_grid old (slice_index views (spot_at spots place).view) (grid_with (grid_at old (slice_index views (spot_at spots place).view)) (spot_at spots place).column row cell)) where
  abbrev spot : Spot
  spot = spot_at spots place

  view_on : spot.view < length views
  view_on = width_some old views spot.view spot.column (spot_within (width_in (grids_of old views)) spots stands.fits.covers place record { view = 0; column = 0 } lt)

  is_at : new ≡ with_grid old (slice_index views spot.view) (grid_with (grid_in (grids_of old views) spot.view) spot.column row cell)
  is_at = is ∙ ap (λ (x : CellBlock). with_grid old (slice_index views spot.view) (grid_with x spot.column row cell)) (sym (grid_there old views spot.view view_on))

  grids_are : grids_of new views ≡ after (grids_of old views) spots stands.fits place row cell lt
  grids_are = put_grids old new views spot.view _ stands.live view_on is_at

  pub set_stands : Stands new views spots
  set_stands = record {
    live = put_live old new views spot.view _ stands.live view_on is_at;
    fits = subst (λ (gs : List CellBlock). Fits gs spots) (sym grids_are) (cell_fits (grids_of old views) spots stands.fits place row cell lt);
  }

  pub set_columns : spot_columns (grids_of new views) spots ≡ with_cell (spot_columns (grids_of old views) spots) place row cell
  set_columns = ap (λ (gs : List CellBlock). spot_columns gs spots) grids_are ∙ cell_columns (grids_of old views) spots stands.fits place row cell lt

  pub set_writes : Writes old new views
  set_writes = put_writes old new views spot.view _ stands.live view_on is_at

  pub set_alone : (places : List ℕ) → AreAloneAt old views spots places → AreAloneAt new views spots places
  set_alone places alone k d le = put_sole old new views spot.view _ stands.live view_on is_at _ (alone k d le)

-- what setting a cell of a column asks of its view
module _ (pool : PoolValue) (views : List ViewId) (spots : List Spot) (place : ℕ) (stands : Stands pool (numbers_of views) spots) (lt : place < length spots) where
  abbrev t : Spot
  t = spot_at spots place

  abbrev at : ViewId
  at = slice_index_or views t.view record { 0 = 0 }

  abbrev seen : List CellBlock
  seen = grids_of pool (numbers_of views)

  t_on : t.view < length (numbers_of views)
  t_on = spots_on pool (numbers_of views) spots stands place record { view = 0; column = 0 } lt

  pub set_inside : t.view < length views
  set_inside = omega (arith, t_on, numbers_long views)

  set_named : slice_index (numbers_of views) t.view ≡ at.0
  set_named = get_or-map (λ (w : ViewId). w.0) views t.view record { 0 = 0 } 0 set_inside

  pub set_live : IsLive pool at.0
  set_live = subst (IsLive pool) set_named (live_in pool (numbers_of views) t.view 0 stands.live t_on)

  grid_there_now : grid_in seen t.view ≡ grid_at pool at.0
  grid_there_now = grid_there pool (numbers_of views) t.view t_on ∙ ap (grid_at pool) set_named

  t_below : t.column < width_in seen t.view
  t_below = spot_within (width_in seen) spots stands.fits.covers place record { view = 0; column = 0 } lt

  pub set_column : t.column < length (grid_at pool at.0).columns
  set_column = omega (arith, t_below, ap (λ (x : CellBlock). length x.columns) grid_there_now)

  column_there : column_at (spot_columns seen spots) place ≡ spot_column seen t
  column_there = get_or-map (spot_column seen) spots place record { view = 0; column = 0 } no_column lt

  pub set_row : (row : ℕ) → row < length (column_at (spot_columns seen spots) place).cells → row < (grid_at pool at.0).rows
  set_row row below =
      let even = stands.fits.even t.view no_grid (width_inside seen t.view t.column t_below) t.column [] t_below in
      omega (arith, below, ap (λ (c : ColumnOf Cell). length c.cells) column_there, even, ap (λ (x : CellBlock). x.rows) grid_there_now)

  pub set_held : (cell : Cell) → IsHeld (column_at (spot_columns seen spots) place).kind cell → IsHeld (grid_at pool at.0).kind cell
  set_held cell held = subst (λ (k : Kind). IsHeld k cell) (ap (λ (c : ColumnOf Cell). c.kind) column_there ∙ ap (λ (x : CellBlock). x.kind) grid_there_now) held

  pub set_sole : IsSole pool (slice_index (numbers_of views) t.view) → IsSole pool at.0
  set_sole sole = subst (IsSole pool) set_named sole

  pub sole_back : IsSole pool at.0 → IsSole pool (slice_index (numbers_of views) t.view)
  sole_back sole = subst (IsSole pool) (sym set_named) sole

  pub set_spot : (new : PoolValue) (row : ℕ) (cell : Cell) → new ≡ with_grid pool at.0 (grid_with (grid_at pool at.0) t.column row cell) → new ≡ with_grid pool (slice_index (numbers_of views) t.view) (grid_with (grid_at pool (slice_index (numbers_of views) t.view)) t.column row cell)
  set_spot new row cell is = is ∙ ap (λ (id : ℕ). with_grid pool id (grid_with (grid_at pool id) t.column row cell)) (sym set_named)
