-- Lists in order.
use Rattle.{
  meaning_cells.proofs.Common.{◌≡◌, refl, arith, ℕ, zero, suc, ◌+◌, ◌-◌, ◌<◌, ◌≤◌, Bool, true, false, not, ◌&&◌, List, [], ◌∷◌, length, drop, slice_index_or, drop_more, length-drop, IsTotalOrder, is_lt, is_gt, Ordering},
  std.{proofs.lemmas.Cmp.{upto}, specs.List.Sorted.{IsSortedBy}},
  meaning_pick.specs.Slices.{goes_on_in_order, is_in_order},
}

pub not_so : (b : Bool) → not b ≡ true → b ≡ false
not_so = grind arith

first_of_both : (a b : Bool) → (a && b) ≡ true → a ≡ true
first_of_both = grind arith

second_of_both : (a b : Bool) → (a && b) ≡ true → b ≡ true
second_of_both = grind arith

module _ {X : Type 0} (cmp : X → X → Ordering) where
  -- one more element of a list in order
  pub order_step : (xs : List X) (k : ℕ) (d : X) → k + 1 < length xs
      → is_in_order cmp (drop k xs) ≡ (not (is_lt (cmp (slice_index_or xs (k + 1) d) (slice_index_or xs k d))) && is_in_order cmp (drop (k + 1) xs))
  order_step = grind (arith, drop_more)

  short_in_order : (xs : List X) → length xs ≤ 1 → is_in_order cmp xs ≡ true
  short_in_order [] _ = refl
  short_in_order (x ∷ []) _ = refl
  short_in_order (x ∷ (y ∷ ys)) few = absurd (omega arith)

  pub order_end : (xs : List X) (k : ℕ) → length xs ≤ k + 1 → is_in_order cmp (drop k xs) ≡ true
  order_end = grind (arith, length-drop, short_in_order)

  -- a loop over neighbours: in order so far, out of order, and in order to the end
  pub order_goes_on : (xs : List X) (place : ℕ) (d : X) (whole : Bool) → 1 ≤ place → place < length xs → is_lt (cmp (slice_index_or xs place d) (slice_index_or xs (place - 1) d)) ≡ false
      → is_in_order cmp (drop (place - 1) xs) ≡ whole → is_in_order cmp (drop (place + 1 - 1) xs) ≡ whole
  order_goes_on xs place d _ some lt apart before =
      let here : place - 1 + 1 ≡ place = omega arith in
      let next : place + 1 - 1 ≡ place - 1 + 1 = omega arith in
      cc (order_step xs (place - 1) d (omega arith))

  pub order_broken : (xs : List X) (place : ℕ) (d : X) (whole : Bool) → 1 ≤ place → place < length xs → is_lt (cmp (slice_index_or xs place d) (slice_index_or xs (place - 1) d)) ≡ true
      → is_in_order cmp (drop (place - 1) xs) ≡ whole → false ≡ whole
  order_broken xs place d _ some lt apart before =
      let here : place - 1 + 1 ≡ place = omega arith in
      cc (order_step xs (place - 1) d (omega arith))

  pub order_kept : (xs : List X) (place : ℕ) (whole : Bool) → length xs ≤ place → is_in_order cmp (drop (place - 1) xs) ≡ whole → true ≡ whole
  order_kept = grind (arith, order_end)

  -- neighbours of a list in order
  neighbours : (x : X) (xs : List X) (k : ℕ) (d : X) → goes_on_in_order cmp x xs ≡ true → k + 1 < length (x ∷ xs) → is_lt (cmp (slice_index_or (x ∷ xs) (k + 1) d) (slice_index_or (x ∷ xs) k d)) ≡ false
  neighbours x [] k d e lt = absurd (omega arith)
  neighbours x (y ∷ ys) zero d e lt = search (not_so, first_of_both)
  neighbours x (y ∷ ys) (suc k) d e lt = grind (arith, second_of_both, neighbours y ys k d (second_of_both (not (is_lt (cmp y x))) (goes_on_in_order cmp y ys) e) (omega arith))

  pub sorted_in_order : (xs : List X) → is_in_order cmp xs ≡ true → IsSortedBy (λ x y. is_lt (cmp x y)) xs
  sorted_in_order = grind (arith, neighbours)

module _ {K : Type 0} {R : K → K → Ordering} (o : IsTotalOrder R) where
  -- what isn't greater than an element below a bound lies below the bound
  pub below_too : (a b c : K) → is_lt (R b a) ≡ false → is_lt (R b c) ≡ true → is_lt (R a c) ≡ true
  below_too = grind arith

  -- and what isn't greater than an element within a bound lies within it
  pub within_too : (a b c : K) → is_lt (R b a) ≡ false → is_gt (R b c) ≡ false → is_gt (R a c) ≡ false
  within_too = grind (arith, upto)
