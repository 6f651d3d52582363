-- A key's place among the distinct keys tells the key.
use Rattle.{
  multi_index.proofs.cells.Common.{◌≡◌, ◌<◌, ◌==◌, Bool, true, false, not, cond, ℕ, List, [], ◌∷◌, ◌++◌, refl, length, slice_index_or, arith, false≢true, nat_tests, passes_at_first, list_any_at, filter-append, position_or_len, list_any, IsEquivalence, distinct},
  std.specs.List.{All},
  row_keys.specs.Keys.{place_among},
}
pub use Rattle.multi_index.proofs.DistinctLaws.{position_in, distinct_push, distinct_has}

pub position_none : {K : Type 0} (p : K → Bool) (xs : List K) → list_any p xs ≡ false → position_or_len p xs ≡ length xs
position_none p [] _ = refl
position_none p (x ∷ xs) h = grind (arith, position_none p xs)

pub any_at : {K : Type 0} (p : K → Bool) (xs : List K) (k : ℕ) (d : K) → k < length xs → p (slice_index_or xs k d) ≡ true → list_any p xs ≡ true
any_at p = list_any_at p

module _ {K : Type 0} (eq : K → K → Bool) (laws : IsEquivalence eq) where
  pub all_known : (rows : List K) → All (λ x. list_any (eq x) (distinct eq rows) ≡ true) rows
  all_known = grind (arith, distinct_has eq laws, list_any_at)

  module _ (keys : List K) where
    pub place_tells : (k x : K) → list_any (eq x) keys ≡ true → eq k x ≡ (place_among eq keys k == place_among eq keys x)
    place_tells k x known = grind (arith, nat_tests, passes_at_first (eq k) keys k, passes_at_first (eq x) keys k, position_in (eq x) keys known)
