-- Where the rows of views lie.
use Rattle.{column_core.proofs.cells.Common.{◌≡◌, ◌≢◌, ℕ, zero, suc, ◌+◌, ◌*◌, ◌<◌, ◌≤◌, ◌^◌, ℤ, pos, negsuc, Bool, true, false, refl, arith, inl, inr, Rows, place_from, AreRowsBelow, cases_lt}, cell_core.specs.Grids.{IsPlace}, column_core.{specs.{Lanes.{LaneFits, lane_place}, Moves.{distance_of}}, proofs.StrideLaws.{first_below, stride_small}}, block_pool.specs.declared.views.View.{View}}

-- the first row is a row of the block
pub start_below : (v : View) (limit : ℕ) → LaneFits v.start v.stride v.back v.count limit limit → 0 < v.count → v.start < limit
start_below v limit fits some = first v.start v.back (fits.within 0 some)
  where
    first : (s : ℕ) (b : Bool) → lane_place s v.stride b 0 < limit → s < limit
    first s true h = omega (arith, h)
    first s false h = omega (arith, h)

-- the distance of rows of a view isn't too far
pub product_small : (v : View) (limit : ℕ) → LaneFits v.start v.stride v.back v.count limit limit → limit < 2 ^ 63 → (rows : Rows) → AreRowsBelow rows v.count → 1 < rows.count → v.stride * distance_of rows.step < 2 ^ 63
product_small v limit fits small rows below two =
    let first = first_below rows v.count below (omega (arith, two)) in
    let start = start_below v limit fits (omega (arith, first)) in
    stride_small v.start v.stride v.back v.count limit limit (2 ^ 63) fits rows below two (omega (arith, start, small)) small

-- and they are different ones
far : (z : ℤ) → z ≢ pos 0 → 0 < distance_of z
far (pos zero) ne = absurd (ne refl)
far (pos (suc n)) ne = omega arith
far (negsuc n) ne = omega arith

another : (start n : ℕ) (z : ℤ) → z ≢ pos 0 → IsPlace start z 1 → place_from start z 1 < n → start < n → 1 < n
another start n (pos zero) ne is lt first = absurd (ne refl)
another start n (pos (suc k)) ne is lt first = omega (arith, lt)
another start n (negsuc k) ne is lt first = omega (arith, is, first)

times : (a b : ℕ) → 0 < a → 0 < b → 0 < a * b
times zero b h k = absurd (omega (arith, h))
times (suc a) zero h k = absurd (omega (arith, k))
times (suc a) (suc b) h k = omega arith

pub product_moves : (v : View) → (1 < v.count → 0 < v.stride) → (rows : Rows) → AreRowsBelow rows v.count → 1 < rows.count → 0 < v.stride * distance_of rows.step
product_moves v moves rows below two =
    let first = first_below rows v.count below (omega (arith, two)) in
    let more = another rows.start v.count rows.step (below.moves two) (below.places 1 two) (below.below 1 two) first in
    times v.stride (distance_of rows.step) (moves more) (far rows.step (below.moves two))

-- two places of a view are those of one row
apart_ahead : (start stride i j : ℕ) → 0 < stride → start + i * stride ≡ start + j * stride → i ≡ j
apart_ahead start stride i j h e = same i j stride h (omega (arith, e))
  where
    same : (i j s : ℕ) → 0 < s → i * s ≡ j * s → i ≡ j
    same zero zero s h e = refl
    same zero (suc j) s h e = absurd (omega (arith, h, e))
    same (suc i) zero s h e = absurd (omega (arith, h, e))
    same (suc i) (suc j) s h e = let k = same i j s h (omega (arith, e)) in omega (arith, k)

apart_places : (start stride : ℕ) (back : Bool) (i j : ℕ) → 0 < stride → (back ≡ true → i * stride ≤ start) → (back ≡ true → j * stride ≤ start) → lane_place start stride back i ≡ lane_place start stride back j → i ≡ j
apart_places start stride false i j h a b e = apart_ahead start stride i j h e
apart_places start stride true i j h a b e =
    let below_i : i * stride ≤ start = a refl in
    let below_j : j * stride ≤ start = b refl in
    apart_ahead 0 stride i j h (omega (arith, e, below_i, below_j))

one_row : (i j n : ℕ) → i < n → j < n → n ≤ 1 → i ≡ j
one_row i j n a b c = omega (arith, a, b, c)

-- each row of a view has a place of its own
pub places_differ : (v : View) (limit : ℕ) → LaneFits v.start v.stride v.back v.count limit limit → (1 < v.count → 0 < v.stride) → (i j : ℕ) → i < v.count → j < v.count → lane_place v.start v.stride v.back i ≡ lane_place v.start v.stride v.back j → i ≡ j
places_differ v limit fits moves i j a b e = elim (cases_lt 1 v.count) [
  | inl two ↦ apart_places v.start v.stride v.back i j (moves two) (λ t. fits.above t i a) (λ t. fits.above t j b) e
  | inr one ↦ one_row i j v.count a b one
]
