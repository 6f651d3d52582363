-- A step over rows that have a step.
use Rattle.{
  meaning_cells.proofs.Common.{◌≡◌, ℕ, suc, ◌+◌, ◌-◌, ◌*◌, ◌<◌, ◌≤◌, ℤ, pos, negsuc, Bool, true, false, not, cond, arith, Rows, place_from, AreRowsBelow},
  cell_core.specs.Grids.{IsPlace},
  column_core.specs.{Lanes.{LaneFits, lane_place}, Moves.{is_ahead, distance_of}},
}

-- the first place
pub first_place : (start : ℕ) (step : ℤ) → place_from start step 0 ≡ start
first_place = grind arith

pub first_below : (rows : Rows) (n : ℕ) → AreRowsBelow rows n → 0 < rows.count → rows.start < n
first_below = grind (arith, first_place)

-- so far on, and so far back from there
forth_back : (s d row m stride start : ℕ) → d + row * m ≡ start → (s + start * stride) - row * (stride * m) ≡ s + d * stride
forth_back s d _ m _ _ e = grind arith

back_forth : (s d row m stride start : ℕ) → d + row * m ≡ start → start * stride ≤ s → (s - start * stride) + row * (stride * m) ≡ s - d * stride
back_forth s d _ m _ _ e = grind arith

-- the place of a row of rows
pub place_composed : (s stride : ℕ) (back : Bool) (start : ℕ) (step : ℤ) (row : ℕ) → IsPlace start step row → (back ≡ true → start * stride ≤ s)
    → lane_place (lane_place s stride back start) (stride * distance_of step) (cond (is_ahead step) (not back) back) row ≡ lane_place s stride back (place_from start step row)
place_composed s _ false _ (pos m) = omega arith
place_composed s _ false _ (negsuc m) = grind (arith, forth_back)
place_composed s _ true _ (pos m) = omega arith
place_composed s _ true _ (negsuc m) = grind (arith, back_forth)

-- the places stay places
pub fits_composed : (s stride : ℕ) (back : Bool) (n values flags : ℕ) → LaneFits s stride back n values flags → (rows : Rows) → AreRowsBelow rows n → rows.start < n
    → LaneFits (lane_place s stride back rows.start) (stride * distance_of rows.step) (cond (is_ahead rows.step) (not back) back) rows.count values flags
fits_composed s stride back n _ _ fits rows below some = record {
  within = grind (arith, place_composed);
  above = λ e row lt. not_below s _ _ n _ _ _ e (below.places row lt) (below.below row lt) (λ t k. fits.above t k);
  alike = fits.alike;
}
  where
    not_below : (s stride : ℕ) (back : Bool) (n start : ℕ) (step : ℤ) (row : ℕ) → cond (is_ahead step) (not back) back ≡ true → IsPlace start step row → place_from start step row < n → (back ≡ true → (k : ℕ) → k < n → k * stride ≤ s)
        → row * (stride * distance_of step) ≤ lane_place s stride back start
    not_below s _ false n _ (pos m) _ e is lt above = absurd cc
    not_below s stride false n start (negsuc m) row e is lt above =
        let d = start - row * suc m in
        let whole : d + row * suc m ≡ start = omega arith in
        let le : row * (stride * suc m) ≤ s + (d + row * suc m) * stride = omega arith in
        rw whole at le
    not_below s stride true n start (pos m) row e is lt above =
        let le : (start + row * m) * stride ≤ s = search in
        omega (arith, le)
    not_below s _ true n _ (negsuc m) _ e is lt above = absurd cc

-- the stride isn't too long
pub stride_small : (s stride : ℕ) (back : Bool) (n values flags limit : ℕ) → LaneFits s stride back n values flags → (rows : Rows) → AreRowsBelow rows n → 1 < rows.count → s < limit → values < limit
    → stride * distance_of rows.step < limit
stride_small s stride _ n values _ limit fits rows below two hs hv = small _ _ _ (below.places 1 two) (below.below 1 two) (first_below _ n below (omega (arith, two))) fits.within fits.above
  where
    small : (b : Bool) (start : ℕ) (step : ℤ) → IsPlace start step 1 → place_from start step 1 < n → start < n → ((k : ℕ) → k < n → lane_place s stride b k < values) → (b ≡ true → (k : ℕ) → k < n → k * stride ≤ s) → stride * distance_of step < limit
    small false start (pos m) is lt first within above =
        let h : s + (start + 1 * m) * stride < values = search in
        omega (arith, h, hv)
    small false start (negsuc m) is lt first within above =
        let h = within start first in
        let d = start - 1 * suc m in
        let whole : d + 1 * suc m ≡ start = omega arith in
        let g : s + (d + 1 * suc m) * stride < values = rw whole h in
        omega (arith, g, hv)
    small true start (pos m) is lt first within above =
        let h : (start + 1 * m) * stride ≤ s = search in
        omega (arith, h, hs)
    small true start (negsuc m) is lt first within above =
        let h : start * stride ≤ s = search in
        let d = start - 1 * suc m in
        let whole : d + 1 * suc m ≡ start = omega arith in
        let g : (d + 1 * suc m) * stride ≤ s = rw whole h in
        omega (arith, g, hs)

-- one row by ones
pub only_row : (s stride : ℕ) (back : Bool) (rows : Rows) (row : ℕ) → rows.count ≡ 1 → row < rows.count → lane_place (lane_place s stride back rows.start) 1 false row ≡ lane_place s stride back (place_from rows.start rows.step row)
only_row = grind (arith, first_place)
