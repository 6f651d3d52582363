-- Keys of two sides, numbered together, have the same partners as their codes.
use Rattle.{
  multi_index.{proofs.{cells.Common.{◌≡◌, ◌==◌, Bool, true, ℕ, List, [], ◌++◌, ◌<◌, length, slice_index_or, map, sym, arith, list_any-append, list_any_at, get_or-map-range_with_len, All-map, list_any, IsEquivalence, distinct}, pick.RowLaws.{rows_where-map}}, specs.pick.Rows.{rows_where}},
  std.specs.List.{All},
  row_keys.{specs.{Keys.{place_among}, Buckets.{buckets_of}}, proofs.KeyLaws.{place_tells, distinct_has, position_in}},
}

module _ {K : Type 0} (eq : K → K → Bool) (laws : IsEquivalence eq) (left right : List K) where
  abbrev pub rank : K → ℕ
  rank = place_among eq (distinct eq (left ++ right))

  abbrev pub IsKnown : K → Type 0
  IsKnown x = list_any (eq x) (distinct eq (left ++ right)) ≡ true

  pub rows_coded : (k : K) (xs : List K) (at : ℕ) → All IsKnown xs → rows_where (eq k) at xs ≡ rows_where (λ n. rank k == n) at (map rank xs)
  rows_coded k xs at known = sym (rows_where-map IsKnown _ _ rank (λ x h. sym (place_tells eq laws _ k x h)) at xs known)

  abbrev pub count : ℕ
  count = length (distinct eq (left ++ right))

  pub left_known : All IsKnown left
  left_known = grind (arith, distinct_has, list_any-append, list_any_at)

  pub right_known : All IsKnown right
  right_known = grind (arith, distinct_has, list_any-append, list_any_at)

  -- each code is below the count
  pub codes_below : (xs : List K) → All IsKnown xs → All (λ c. c < count) (map rank xs)
  codes_below xs known = All-map (λ c. c < count) rank xs (λ k d lt. position_in _ _ (known k d lt))

  -- the rows of a key lie in the bucket of its code
  pub bucket_of_key : (k : K) (xs : List K) → All IsKnown xs → rank k < count → slice_index_or (buckets_of count (map rank xs)) (rank k) [] ≡ rows_where (eq k) 0 xs
  bucket_of_key = grind (arith, get_or-map-range_with_len, rows_coded)
