-- Keys that differ on each side differ in an outer join.
use Rattle.{
  meaning_pick.{proofs.{cells.Common.{rules, ◌≡◌, ◌≢◌, ◌<◌, ◌≤◌, ◌+◌, refl, sym, ℕ, suc, Bool, true, false, not, cond, List, [], ◌∷◌, map, length, All, AllPairs, Result, Ok, Err, arith, false≢true, map-append, All-head, All-tail, filter_passes, AllPairs-cons, AllPairs-filter, Decides, flat_map, distinct}, InsideLaws.{ok_same}}, specs.Rows.{rows_where}},
  sorting.specs.Sorting.{put_in, in_order},
  meaning_align.{proofs.OrderLaws.{all_put_in, all_in_order}, specs.{Faults.{AlignRefusal, too_large}, Joins.{Entry, Lists, entries_of, outer_entries, lists_of, outer}}},
}

module _ {K : Type 0} (same less : K → K → Bool) (decides : (a b : K) → Decides (same a b) (a ≡ b)) where
  abbrev pub AreApart : List K → Type 0
  AreApart = AllPairs (λ a b. a ≢ b)

  none_apart : AreApart []
  none_apart = grind arith

  apart_first : (x : K) (xs : List K) → AreApart (x ∷ xs) → All (λ y. x ≢ y) xs
  apart_first x xs apart = λ k d lt. let inside : suc k < suc (length xs) = omega (arith, lt) in apart 0 (suc k) d (omega arith) inside

  apart_rest : (x : K) (xs : List K) → AreApart (x ∷ xs) → AreApart xs
  apart_rest x _ apart = λ i j d lt inside. apart (suc i) (suc j) d (omega (arith, lt)) (omega (arith, inside))

  distinct_apart : (xs : List K) → AreApart (distinct same xs)
  distinct_apart [] = none_apart
  distinct_apart (x ∷ xs) =
      AllPairs-cons (λ a b. a ≢ b) x _
      (grind (arith, false≢true, filter_passes))
      (AllPairs-filter (λ a b. a ≢ b) (λ q. not (same q x)) _ (distinct_apart xs))

  -- in order
  put_in_apart : (x : K) (ys : List K) → All (λ y. x ≢ y) ys → AreApart ys → AreApart (put_in less x ys)
  put_in_apart x [] others apart = grind (arith, none_apart)
  put_in_apart x (y ∷ ys) others apart =
      elim (less y x) as (λ b. AreApart (cond b (y ∷ put_in less x ys) (x ∷ y ∷ ys))) [
        | true ↦ AllPairs-cons (λ a b. a ≢ b) y _ (all_put_in (λ z. y ≢ z) less x ys (λ e. All-head (λ z. x ≢ z) y ys others (sym e)) (apart_first y ys apart)) (put_in_apart x ys (All-tail (λ z. x ≢ z) y ys others) (apart_rest y ys apart))
        | false ↦ grind arith
      ]

  in_order_apart : (xs : List K) → AreApart xs → AreApart (in_order less xs)
  in_order_apart [] _ = none_apart
  in_order_apart (x ∷ xs) apart = put_in_apart x _ (all_in_order (λ y. x ≢ y) _ xs (apart_first x xs apart)) (in_order_apart xs (apart_rest x xs apart))

  -- a key that stands once has one row
  no_rows : (key : K) (row : ℕ) (xs : List K) → All (λ y. key ≢ y) xs → rows_where (same key) row xs ≡ []
  no_rows _ _ [] _ = refl
  no_rows key row (x ∷ xs) others =
      elim (same key x) as (λ b. same key x ≡ b → cond b (row ∷ rows_where (same key) (row + 1) xs) (rows_where (same key) (row + 1) xs) ≡ []) [
        | true ↦ λ h. absurd (All-head (λ y. key ≢ y) x xs others ((decides key x).0 h))
        | false ↦ λ h. no_rows key (row + 1) xs (All-tail (λ y. key ≢ y) x xs others)
      ] refl

  few_rows : (key : K) (row : ℕ) (xs : List K) → AreApart xs → length (rows_where (same key) row xs) ≤ 1
  few_rows _ _ [] apart = omega arith
  few_rows key row (x ∷ xs) apart = search (rules, no_rows, apart_first, apart_rest, few_rows key (row + 1) xs (apart_rest x xs apart))

  one_entry : (key : K) (lefts rights : List ℕ) → length lefts ≤ 1 → length rights ≤ 1 → map (λ e. e.key) (entries_of key lefts rights) ≡ key ∷ []
  one_entry _ [] [] _ _ = refl
  one_entry _ [] (r ∷ []) _ _ = refl
  one_entry _ (l ∷ []) [] _ _ = refl
  one_entry _ (l ∷ []) (r ∷ []) _ _ = refl
  one_entry _ (l ∷ m ∷ ls) _ few few' = grind arith
  one_entry _ [] (r ∷ s ∷ rs) few few' = grind arith
  one_entry _ (l ∷ []) (r ∷ s ∷ rs) few few' = grind arith

  module _ (left right : List K) (lefts : AreApart left) (rights : AreApart right) where
    abbrev of_key : K → List (Entry K)
    of_key key = entries_of key (rows_where (same key) 0 left) (rows_where (same key) 0 right)

    keys_once : (keys : List K) → map (λ e. e.key) (flat_map of_key keys) ≡ keys
    keys_once [] = refl
    keys_once (key ∷ keys) = search (map-append, one_entry, few_rows, keys_once keys)

    abbrev limited : Bool → Result (Lists K) (AlignRefusal K)
    limited beyond = cond beyond (Err too_large) (Ok (lists_of (outer_entries same less left right)))

    pub joined_apart : (rows : Lists K) → outer same less left right ≡ Ok rows → AreApart rows.keys
    joined_apart = grind (arith, ok_same, keys_once, in_order_apart, distinct_apart)
