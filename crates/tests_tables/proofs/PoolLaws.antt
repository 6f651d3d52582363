-- Views of a pool.
use Rattle.{
  column_core.{proofs.cells.Common.{◌≡◌, ◌≢◌, ◌∙◌, ℕ, ◌+◌, ◌*◌, ◌<◌, ◌≤◌, List, length, refl, ap, sym, subst, arith, inl, inr, slice_set, length-set, cases_eq, IsSome, Cell, ⊤, Result, Ok, Err, OnOk, Int64, Rows, AreRowsBelow, pos, negsuc, tabulate}, proofs.ColumnLaws.{length-tabulate}, specs.Blocks.{CellBlock}},
  block_pool.{specs.Pools.{PoolValue, grid_at, grid_with, with_grid, cut, IsLive, IsFree, Adds, Shares, Owns, Ends}, proofs.ChangeLaws.{live_not_free, live_kept, grid_kept, live_is, grid_is, adds_view, shares_view, shares_other, owns_live, owns_grid, ends_other, with_grid_view, with_grid_other, with_grid_live}},
  tests_tables.specs.Shared.{ShowsNumbers},
}

-- a grid of that size, in a view that has it
shows_grid : (pool : PoolValue) (id columns rows : ℕ) (grid : CellBlock) → IsLive pool id → grid_at pool id ≡ grid → length grid.columns ≡ columns → grid.rows ≡ rows → grid.kind ≡ Int64 → ShowsNumbers pool id columns rows
shows_grid pool id columns rows grid live is wide long numbers = record {
  live = live;
  wide = ap (λ (g : CellBlock). length g.columns) is ∙ wide;
  long = ap (λ (g : CellBlock). g.rows) is ∙ long;
  numbers = ap (λ (g : CellBlock). g.kind) is ∙ numbers;
}

same_shows : (old new : PoolValue) (id columns rows : ℕ) → IsLive new id → grid_at new id ≡ grid_at old id → ShowsNumbers old id columns rows → ShowsNumbers new id columns rows
same_shows old new id columns rows live same was = shows_grid new id columns rows (grid_at old id) live same was.wide was.long was.numbers

pub added_shows : (old new : PoolValue) (id columns rows : ℕ) (grid : CellBlock) → Adds old new id grid → length grid.columns ≡ columns → grid.rows ≡ rows → grid.kind ≡ Int64 → ShowsNumbers new id columns rows
added_shows old new id columns rows grid adds wide long numbers =
    let view = adds_view old new id grid adds in
    shows_grid new id columns rows grid (live_is new id adds.block grid view) (grid_is new id adds.block grid view) wide long numbers

module _ (old new : PoolValue) (id from : ℕ) (rows : Rows) (shares : Shares old new id from (cut (grid_at old from) 0 1 rows)) where
  pub cut_shows : ShowsNumbers old from 1 5 → ShowsNumbers new id 1 rows.count
  cut_shows was =
      let view = shares_view old new id from _ shares in
      shows_grid new id 1 rows.count (cut (grid_at old from) 0 1 rows) (live_is new id _ _ view) (grid_is new id _ _ view) refl refl was.numbers

  pub cut_others : IsFree old id → (q columns rows : ℕ) → ShowsNumbers old q columns rows → q ≢ id
  cut_others free q columns rows was = live_not_free old id q free was.live

  pub cut_keeps : IsFree old id → (q columns rows : ℕ) → ShowsNumbers old q columns rows → ShowsNumbers new q columns rows
  cut_keeps free q columns rows was =
      let same = shares_other old new id from _ shares q (cut_others free q columns rows was) in
      same_shows old new q columns rows (live_kept old new q same was.live) (grid_kept old new q same) was

pub owned_shows : (old new : PoolValue) (id : ℕ) → Owns old new id → (q columns rows : ℕ) → ShowsNumbers old q columns rows → ShowsNumbers new q columns rows
owned_shows old new id owns q columns rows was = same_shows old new q columns rows (owns_live old new id owns q was.live) (owns_grid old new id owns q) was

pub spared_shows : (pool : PoolValue) (spare id columns rows : ℕ) → ShowsNumbers pool id columns rows → ShowsNumbers (record pool { spare = spare }) id columns rows
spared_shows pool spare id columns rows was = record { live = was.live; wide = was.wide; long = was.long; numbers = was.numbers }

pub moved_shows : {E : Type 0} (result : Result ⊤ E) (old new : PoolValue) (id : ℕ) → OnOk result (Owns old new id) → OnOk result ((q columns rows : ℕ) → ShowsNumbers old q columns rows → ShowsNumbers new q columns rows)
moved_shows (Ok done) old new id owns = owned_shows old new id owns
moved_shows (Err fault) old new id owns = tt

pub set_shows : (pool : PoolValue) (id row : ℕ) (cell : Cell) (q columns rows : ℕ) → ShowsNumbers pool q columns rows → ShowsNumbers (with_grid pool id (grid_with (grid_at pool id) 0 row cell)) q columns rows
set_shows pool id row cell q columns rows was =
    let grid = grid_with (grid_at pool id) 0 row cell in
    let live = with_grid_live pool id grid q was.live in
    elim (cases_eq q id) [
      | inl e ↦
          let here : grid_at (with_grid pool id grid) q ≡ grid = ap (grid_at (with_grid pool id grid)) e ∙ grid_is (with_grid pool id grid) id _ grid (with_grid_view pool id grid) in
          let before : grid_at pool id ≡ grid_at pool q = ap (grid_at pool) (sym e) in
          shows_grid (with_grid pool id grid) q columns rows grid live here
          (length-set (grid_at pool id).columns 0 _ ∙ ap (λ (g : CellBlock). length g.columns) before ∙ was.wide)
          (ap (λ (g : CellBlock). g.rows) before ∙ was.long) (ap (λ (g : CellBlock). g.kind) before ∙ was.numbers)
      | inr ne ↦ same_shows pool (with_grid pool id grid) q columns rows live (grid_kept pool (with_grid pool id grid) q (with_grid_other pool id grid q ne)) was
    ]

pub end_shows : (old new : PoolValue) (id : ℕ) → Ends old new id → (q columns rows : ℕ) → q ≢ id → ShowsNumbers old q columns rows → ShowsNumbers new q columns rows
end_shows old new id ends q columns rows ne was =
    let same = ends_other old new id ends q ne in
    same_shows old new q columns rows (live_kept old new q same was.live) (grid_kept old new q same) was

-- the rows from the last one back, and every other row
pub five_back : AreRowsBelow record { start = 4; step = negsuc 0; count = 5 } 5
five_back = record { places = λ row lt. omega (arith, lt); below = λ row lt. omega arith; moves = λ two e. cc }

pub every_other : AreRowsBelow record { start = 1; step = pos 2; count = 2 } 5
every_other = record { places = λ row lt. tt; below = λ row lt. omega (arith, lt); moves = λ two e. cc }
