-- Leading labels in a list of tuples, and slices of tuples in order.
use Rattle.index_core.{proofs.{cells.Common.{◌≡◌, ap, refl, arith, ℕ, ◌+◌, ◌<◌, ◌≤◌, Bool, true, false, not, ◌&&◌, List, [], ◌∷◌, length, drop, slice_index_or, Option, Some, Ok, nat_tests, drop_more, drop_all, get_or_from_slice_get, slice_get, is_lt, is_gt, ordering_then, Ordering, Less, Equal, Label, Rows, Text}, pick.{OrderLaws.{sorted_in_order}, LeadingLaws.{leading_below, leading_within}, RowLaws.{when_so}}, SplitLaws.{order_total, rows_of_splits, split_at_first}}, specs.{pick.{Leading.{leads, leading_cmp}, Rows.{rows_of, rows_between}, Slices.{is_in_order, reaches, stays_within, label_slice, leading_slice, slice_on}}, Labels.{order_in}, Splits.{IsSplitAt}}}

-- leading labels, one more at a time
module _ {L : Type 0} (same : L → L → Bool) where
  pub leads_step : (key tuple : List L) (level : ℕ) (k t : L) → level < length key → level < length tuple → slice_get key level ≡ Some k → slice_get tuple level ≡ Some t
      → leads same (drop level key) (drop level tuple) ≡ (same k t && leads same (drop (level + 1) key) (drop (level + 1) tuple))
  leads_step key tuple level k t lt inside at there = cc (drop_more key level k lt, drop_more tuple level t inside, get_or_from_slice_get key level k k at, get_or_from_slice_get tuple level t t there)

  pub leads_all : (key tuple : List L) (level : ℕ) (whole : Bool) → length key ≤ level → leads same (drop level key) (drop level tuple) ≡ whole → true ≡ whole
  leads_all = grind (arith, drop_all)

  pub leads_short : (key tuple : List L) → length tuple < length key → false ≡ leads same key tuple
  leads_short [] _ lt = absurd (omega arith)
  leads_short (k ∷ key) [] _ = refl
  leads_short (k ∷ key) (l ∷ tuple) lt = grind (arith, leads_short key tuple (omega arith))

-- what decides is the first that differs
pub stays : (o rest : Ordering) → (o ≡ Equal → ⊥) → ordering_then o rest ≡ o
stays = grind arith

-- a bound, one label more at a time
module _ {L : Type 0} (cmp : L → L → Ordering) where
  pub stands_step : (tuple bound : List L) (level : ℕ) (t b : L) → level < length tuple → level < length bound → slice_get tuple level ≡ Some t → slice_get bound level ≡ Some b
      → leading_cmp cmp (drop level tuple) (drop level bound) ≡ ordering_then (cmp t b) (leading_cmp cmp (drop (level + 1) tuple) (drop (level + 1) bound))
  stands_step tuple bound level t b inside lt there at = cc (drop_more tuple level t inside, drop_more bound level b lt, get_or_from_slice_get tuple level t t there, get_or_from_slice_get bound level b b at)

  pub stands_short : (d : L) (tuple bound : List L) (level : ℕ) (whole : Ordering) → length tuple ≤ level → level < length bound → leading_cmp cmp (drop level tuple) (drop level bound) ≡ whole → Less ≡ whole
  stands_short d tuple bound level _ all lt before = cc (drop_all level tuple all, drop_more bound level d lt)

  pub stands_equal : (tuple bound : List L) (level : ℕ) (whole : Ordering) → length bound ≤ level → leading_cmp cmp (drop level tuple) (drop level bound) ≡ whole → Equal ≡ whole
  stands_equal = grind (arith, drop_all)

-- tuples in order, split at a bound
reach_on : (s t : Bool) → (s ≡ true → t ≡ true) → not t ≡ true → not s ≡ true
reach_on = grind arith

leave_on : (s t : Bool) → (s ≡ false → t ≡ false) → not (not t) ≡ true → not (not s) ≡ true
leave_on = grind arith

module _ (texts : List Text) (tuples : List (List Label)) (sorted : is_in_order (leading_cmp (order_in texts)) tuples ≡ true) where
  abbrev cmp : List Label → List Label → Ordering
  cmp = leading_cmp (order_in texts)

  in_turn : (k : ℕ) (d : List Label) → k + 1 < length tuples → is_lt (cmp (slice_index_or tuples (k + 1) d) (slice_index_or tuples k d)) ≡ false
  in_turn k d lt = sorted_in_order cmp tuples sorted k d (omega arith) lt

  pub begins_at : (bound : List Label) (row : ℕ) → row ≤ length tuples → ((k : ℕ) → k < row → (d : List Label) → is_lt (cmp (slice_index_or tuples k d) bound) ≡ true)
      → ((d : List Label) → row < length tuples → is_lt (cmp (slice_index_or tuples row d) bound) ≡ false) → IsSplitAt (reaches cmp (Some bound)) tuples row
  begins_at _ _ few before here =
      split_at_first _ _ _
      (λ k d lt. search (reach_on, leading_below, order_total, in_turn))
      few (λ k lt d. ap not (before k lt d)) (λ d lt. ap not (here d lt))

  pub ends_at : (bound : List Label) (row : ℕ) → row ≤ length tuples → ((k : ℕ) → k < row → (d : List Label) → is_gt (cmp (slice_index_or tuples k d) bound) ≡ false)
      → ((d : List Label) → row < length tuples → is_gt (cmp (slice_index_or tuples row d) bound) ≡ true) → IsSplitAt (λ tuple. not (stays_within cmp (Some bound) tuple)) tuples row
  ends_at _ _ few before here =
      split_at_first _ _ _
      (λ k d lt. search (leave_on, leading_within, order_total, in_turn))
      few (λ k lt d. grind arith) (λ d lt. grind arith)

  -- their slice
  pub slice_found : (lower upper : Option (List Label)) (first end : ℕ) (rows : Rows) → rows_of rows ≡ rows_between first end → IsSplitAt (reaches cmp lower) tuples first
      → IsSplitAt (λ tuple. not (stays_within cmp upper tuple)) tuples end → leading_slice cmp lower upper tuples ≡ Ok (rows_of rows)
  slice_found = grind (arith, when_so, rows_of_splits)

-- a slice on one level, and on several
module _ {X : Type 0} (cmp : X → X → Ordering) (lower upper : Option X) (xs : List X) where
  pub on_one : (levels : ℕ) → levels ≡ 1 → slice_on levels cmp lower upper xs ≡ label_slice cmp lower upper xs
  on_one _ one = search nat_tests
