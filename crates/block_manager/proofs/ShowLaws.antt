-- Columns that views show at spots, and the manager that stands there.
use Rattle.{std.proofs.Common.{◌≡◌, ℕ, zero, suc, ◌<◌, ◌≤◌, List, [], ◌∷◌, ◌++◌, length, refl, ap, ap₂, sym, ◌∙◌, subst, arith, get_or}, std.proofs.lemmas.{List.{length-map, map-append}}, std.specs.{Prelude.{insert}, FinMap.{get}}, cell_core.specs.declared.cell.Cell.{Cell}, column_core.specs.Blocks.{CellBlock}, meaning_tables.specs.Table.{ColumnOf, column_at}, block_pool.specs.{Pools.{PoolValue, grid_at, live_count}}, block_manager.{specs.{declared.spots.Spot.{Spot}, Managed.{AreLive, StandsOn, columns_on, times}, Changes.{grids_of}, Parts.{block_column, IsSingle}, Spots.{laid_out, spot_column, spot_columns, shifted, Fits, Shows}}, proofs.{TimesLaws.{times_here, live_same}, GridLaws.{grids_kept, grids_long}, SpotLaws.{columns_spots, spots_stand, spots_on}, BothLaws.{both_fit, left_columns, right_columns, single_fit, counted-inserted, map-insert}}}}

-- the manager of what is shown
module _ (pool : PoolValue) (views : List ℕ) (spots : List Spot) (columns : List (ColumnOf Cell)) (shows : Shows pool views spots columns) where
  pub shows_stand : StandsOn pool (laid_out views spots)
  shows_stand = spots_stand pool views spots shows.stands

  pub shows_columns : columns_on pool (laid_out views spots) ≡ columns
  shows_columns = columns_spots pool views spots (spots_on pool views spots shows.stands) ∙ shows.columns_are

  pub shows_many : length columns ≡ length spots
  shows_many = ap length (sym shows.columns_are) ∙ length-map spots (spot_column (grids_of pool views))

  -- it stays where its views stay
  pub shows_kept : (new : PoolValue) → ((q : ℕ) → 0 < times q views → get new.views q ≡ get pool.views q) → Shows new views spots columns
  shows_kept new kept =
      let same : grids_of new views ≡ grids_of pool views = grids_kept pool new views (λ k lt. kept (get_or views k 0) (times_here views k 0 (get_or views k 0) lt refl)) in
      record {
        stands = record {
          live = live_kept;
          fits = subst (λ (gs : List CellBlock). Fits gs spots) (sym same) shows.stands.fits;
        };
        columns_are = ap (λ (gs : List CellBlock). spot_columns gs spots) same ∙ shows.columns_are;
      }
    where
      live_kept : AreLive new views
      live_kept q = at (times q views) refl
        where
          at : (n : ℕ) → times q views ≡ n → times q views ≤ live_count new q
          at zero e = omega (arith, e)
          at (suc n) e = omega (arith, shows.stands.live q, live_same pool new q (kept q (omega (arith, e))))

-- a column more, on views behind the others
module _ (pool : PoolValue) (views added : List ℕ) (spots : List Spot) (columns : List (ColumnOf Cell)) (s : Spot) (c : ColumnOf Cell) (shows : Shows pool views spots columns) (more : Shows pool added (s ∷ []) (c ∷ [])) (live : AreLive pool (views ++ added)) (place : ℕ) where
  abbrev g : List CellBlock
  g = grids_of pool views

  abbrev h : List CellBlock
  h = grids_of pool added

  grids_both : grids_of pool (views ++ added) ≡ g ++ h
  grids_both = map-append (grid_at pool) views added

  fits_there : Fits (g ++ h) (insert spots place (shifted (length g) s))
  fits_there = both_fit g h spots (s ∷ []) shows.stands.fits more.stands.fits (insert spots place (shifted (length g) s)) (λ view column. counted-inserted view column spots place (shifted (length g) s))

  column_there : spot_column (g ++ h) (shifted (length g) s) ≡ c
  column_there = ap (λ (cs : List (ColumnOf Cell)). column_at cs 0) (right_columns g h spots (s ∷ []) shows.stands.fits more.stands.fits ∙ more.columns_are)

  columns_there : spot_columns (g ++ h) (insert spots place (shifted (length g) s)) ≡ insert columns place c
  columns_there =
      map-insert (spot_column (g ++ h)) spots place (shifted (length g) s)
      ∙ ap₂ (λ (cs : List (ColumnOf Cell)) (x : ColumnOf Cell). insert cs place x) (left_columns g h spots (s ∷ []) shows.stands.fits more.stands.fits ∙ shows.columns_are) column_there

  pub inserted_shows : Shows pool (views ++ added) (insert spots place (shifted (length views) s)) (insert columns place c)
  inserted_shows =
      subst (λ (n : ℕ). Shows pool (views ++ added) (insert spots place (shifted n s)) (insert columns place c)) (grids_long pool views) (record {
        stands = record {
          live = live;
          fits = subst (λ (gs : List CellBlock). Fits gs (insert spots place (shifted (length g) s))) (sym grids_both) fits_there;
        };
        columns_are = ap (λ (gs : List CellBlock). spot_columns gs (insert spots place (shifted (length g) s))) grids_both ∙ columns_there;
      })

-- one view that shows one column
pub single_shows : (pool : PoolValue) (view : ℕ) (grid : CellBlock) → AreLive pool (view ∷ []) → grid_at pool view ≡ grid → IsSingle grid → Shows pool (view ∷ []) (record { view = 0; column = 0 } ∷ []) (block_column grid ∷ [])
single_shows pool view grid live is single =
    let columns : (grid_at pool view).columns ≡ (block_column grid).cells ∷ [] = ap (λ (g : CellBlock). g.columns) (is ∙ single) in
    let rows : length (block_column grid).cells ≡ (grid_at pool view).rows = sym (ap (λ (g : CellBlock). g.rows) (is ∙ single)) in
    record {
      stands = record { live = live; fits = single_fit (grid_at pool view) (block_column grid).cells columns rows };
      columns_are = ap (λ (g : CellBlock). block_column g ∷ []) is;
    }
