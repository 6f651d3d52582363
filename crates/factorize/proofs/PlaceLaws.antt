-- The first place that passes a test, with one element more.
use Rattle.{
  column_core.{proofs.cells.Common.{◌≡◌, ◌∙◌, ◌+◌, ◌<◌, ◌≤◌, sym, subst, arith, ℕ, Bool, false, List, [], ◌∷◌, ◌++◌, ◌==◌, length, slice_index_or, Option, Some, None, length-append, map, All, lt-ltb, le-ltb, ne_eqb, eq-eqb, eqb-true, eqb-false, cases_lt, length-map, get_or-map, get_or-set_same, get_or-set_other, get_or_default, same_lists, position_or_len_push, All-map, length-map-range_with_len, get_or-map-range_with_len, position_or_len, map-map as map_map}, specs.Moves.{IsPlaceOf}},
  std.specs.List.{position},
  row_keys.proofs.DistinctLaws.{prefix-le},
  factorize.specs.Numbers.{placed, places_of, recoded, number_in},
}

module _ {X : Type 0} (p : X → Bool) where
  pub there : (xs : List X) → position_or_len p xs < length xs → position p xs ≡ Some (position_or_len p xs)
  there = search lt-ltb

  pub nowhere : (xs : List X) → length xs ≤ position_or_len p xs → position p xs ≡ None
  nowhere = search le-ltb

  module _ (xs : List X) (y : X) where
    place_stays : position_or_len p xs < length xs → position_or_len p (xs ++ y ∷ []) ≡ position_or_len p xs
    place_stays = grind (arith, position_or_len_push, ne_eqb)

    few : position_or_len p xs ≤ length xs
    few = search prefix-le

    longer : length (xs ++ y ∷ []) ≡ length xs + 1
    longer = length-append xs (y ∷ [])

    stays : position_or_len p xs < length xs → position p (xs ++ y ∷ []) ≡ position p xs
    stays = grind (arith, there, place_stays, longer)

  -- a place is one of the list
  pub place_inside : (xs : List X) → IsPlaceOf (length xs) (position p xs)
  place_inside = grind (arith, cases_lt, there, nowhere)

-- where each number first stands, with one number more
module _ (numbers : List ℕ) (count number : ℕ) (before after : List (Option ℕ)) (below : number < count) (size : length before ≡ count)
    (were : (n : ℕ) → n < count → slice_index_or before n None ≡ position (λ k. n == k) numbers) (is : after ≡ placed before number (length numbers)) where
  other : (n : ℕ) → (n == number) ≡ false → slice_index_or after n None ≡ slice_index_or before n None
  other = grind (arith, get_or-set_other, eqb-false)

  here : (o : Option ℕ) → slice_index_or before number None ≡ o → slice_index_or after number None ≡ position (λ k. number == k) (numbers ++ number ∷ [])
  here = grind (arith, get_or-set_same, cases_lt, there, position_or_len_push, eq-eqb, few, longer, stays, nowhere)

  pub placed_more : (n : ℕ) → n < count → slice_index_or after n None ≡ position (λ k. n == k) (numbers ++ number ∷ [])
  placed_more = grind (arith, eqb-true, here, other, cases_lt, stays, nowhere, position_or_len_push, eq-eqb, few, longer)

pub codes_placed : (kept : List ℕ) (count : ℕ) (places : List (Option ℕ)) (codes : List ℕ) → places ≡ places_of kept count → All (λ code. code < count) codes → All (λ code. code < length places) codes
codes_placed = grind (arith, length-map-range_with_len)

pub recoded_inside : (kept : List ℕ) (count : ℕ) (codes : List ℕ) → All (λ code. code < count) codes → All (IsPlaceOf (length kept)) (recoded (places_of kept count) codes)
recoded_inside kept count codes below =
    All-map (IsPlaceOf (length kept)) (λ number. slice_index_or (places_of kept count) number None) codes
    (λ k d lt.
    subst (IsPlaceOf (length kept)) (grind (arith, get_or-map-range_with_len))
    (place_inside (λ i. (slice_index_or codes k d) == i) kept))

-- numbers are recoded one by one
pub all_recoded : (places : List (Option ℕ)) (codes made : List ℕ) → length made ≡ length codes
    → ((k : ℕ) → k < length codes → slice_index_or made k 0 ≡ number_in (slice_index_or places (slice_index_or codes k 0) None)) → made ≡ map number_in (recoded places codes)
all_recoded places codes made size each =
    same_lists made (map (λ n. number_in (slice_index_or places n None)) codes) (size ∙ sym (length-map codes _)) (λ k d lt. grind (arith, get_or_default, get_or-map))
    ∙ sym (map_map _ _ _)
