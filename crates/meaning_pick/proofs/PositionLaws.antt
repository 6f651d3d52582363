-- Slices by positions lie within the rows, and `::-1` taken twice is all rows in order.
use Rattle.{
  meaning_cells.{proofs.Common.{◌≡◌, ◌∙◌, ap, sym, arith, ℕ, zero, suc, ◌+◌, ◌-◌, ◌*◌, ◌<◌, ◌≤◌, ℤ, pos, negsuc, List, [], ◌∷◌, map, length, All, Option, Some, Result, Ok, slice_index_or, cases_lt, nat_tests, same_lists, length-map, get_or-map, length-range_with_len, get_or-range_with_len, length-map-range_with_len, get_or-map-range_with_len, div_ceil, range_with_len, Rows, place_from, AreRowsBelow}, specs.Place.{place_of}},
  std.proofs.Math.Nat.{mul-le-mul_left},
  meaning_pick.{specs.{Faults.{PickFault}, Rows.{rows_of}, Positions.{row_or_fault, row_at, rows_at, rows_before, rows_through, bound_or, forward, backward, slice_with_step}}, proofs.InsideLaws.{went_on, ok_same}},
}

-- the rows that a step takes stand before the end
pub taken_before : (rows distance row : ℕ) → 0 < distance → row < div_ceil rows distance → row * distance < rows
taken_before = grind (arith, cases_lt, mul-le-mul_left)

-- rows that lie below a limit are all below it
pub spaced_inside : (rows : Rows) (limit : ℕ) → AreRowsBelow rows limit → All (λ row. row < limit) (rows_of rows)
spaced_inside = grind (arith, length-map-range_with_len, get_or-map-range_with_len)

pub forward_below : (low high n count : ℕ) → high ≤ count → AreRowsBelow (forward low high (pos (suc n)) (suc n)) count
forward_below = grind (arith, taken_before)

pub backward_below : (low high n count : ℕ) → high ≤ count → AreRowsBelow (backward low high (negsuc n) (suc n)) count
backward_below = grind (arith, taken_before)

pub before_within : (count : ℕ) (z : Option ℤ) (end : ℕ) → end ≤ count → bound_or (rows_before count) end z ≤ count
before_within = grind arith

pub through_within : (count : ℕ) (z : Option ℤ) (end : ℕ) → end ≤ count → bound_or (rows_through count) end z ≤ count
through_within = grind arith

-- a slice by positions lies within the rows
pub slice_below : {K : Type 0} (count : ℕ) (from to : Option ℤ) (step : ℤ) (rows : Rows) → ◌≡◌ {A = Result Rows (PickFault K)} (slice_with_step count from to step) (Ok rows) → AreRowsBelow rows count
slice_below _ _ _ (pos zero) _ e = cc
slice_below {K} _ _ _ (pos (suc n)) _ e = grind (arith, forward_below, before_within)
slice_below {K} _ _ _ (negsuc n) _ e = grind (arith, backward_below, through_within)

-- a position lies within the rows
some_same : (a b : ℕ) → Some a ≡ Some b → a ≡ b
some_same a b e = cc

pub place_inside : (z : ℤ) (count row : ℕ) → place_of z count ≡ Some row → row < count
place_inside = grind (arith, nat_tests, some_same)

module _ {K : Type 0} where
  found_row : (count : ℕ) (z : ℤ) (found : Option ℕ) (row : ℕ) → row_or_fault {K = K} count z found ≡ Ok row → found ≡ Some row
  found_row = grind arith

  pub at_inside : (count : ℕ) (z : ℤ) (row : ℕ) → row_at {K = K} count z ≡ Ok row → row < count
  at_inside _ z _ e = search (place_inside, found_row)

  pub rows_at_inside : (count : ℕ) (zs : List ℤ) (rows : List ℕ) → rows_at {K = K} count zs ≡ Ok rows → All (λ row. row < count) rows
  rows_at_inside _ [] _ e = grind arith
  rows_at_inside count (z ∷ zs) rows e =
      went_on _ _ _ _
      (λ row is rest. went_on (rows_at count zs) (λ more. Ok (row ∷ more)) rows (All (λ row. row < count) rows)
      (λ more are made. grind (arith, ok_same, at_inside, rows_at_inside count zs more are)) rest)
      e

-- `::-1` taken twice is all rows in order
abbrev backwards : ℕ → Rows
backwards count = backward 0 count (negsuc 0) 1

all_taken : (count : ℕ) → div_ceil (count - 0) 1 ≡ count
all_taken = omega arith

pub reversed_twice : (count : ℕ) → map (λ row. slice_index_or (rows_of (backwards count)) row 0) (rows_of (backwards count)) ≡ range_with_len 0 count
reversed_twice count =
    let f = place_from (count - 1) (negsuc 0) in
    let whole : rows_of (backwards count) ≡ map f (range_with_len 0 count) = search all_taken in
    ap (λ l. map (λ row. slice_index_or l row 0) l) whole
    ∙ same_lists (map (λ row. slice_index_or (map f (range_with_len 0 count)) row 0) (map f (range_with_len 0 count))) (range_with_len 0 count)
    (search (length-map, length-map-range_with_len, length-range_with_len))
    (λ k d lt.
    let long = length-map (map f (range_with_len 0 count)) (λ row. slice_index_or (map f (range_with_len 0 count)) row 0) in
    let inside : k < count = omega (arith, length-map-range_with_len f 0 count) in
    let there : k < length (map f (range_with_len 0 count)) = omega (arith, length-map-range_with_len f 0 count) in
    let back : count - 1 - k * 1 < count = omega arith in
    let again : count - 1 - (count - 1 - k * 1) * 1 ≡ 0 + k = omega arith in
    get_or-map (λ row. slice_index_or (map f (range_with_len 0 count)) row 0) (map f (range_with_len 0 count)) k 0 d there
    ∙ ap (λ row. slice_index_or (map f (range_with_len 0 count)) row 0) (get_or-map-range_with_len f 0 _ k k 0 inside (omega arith))
    ∙ get_or-map-range_with_len f 0 _ _ _ 0 back (omega arith)
    ∙ again
    ∙ sym (get_or-range_with_len 0 _ k d inside))
