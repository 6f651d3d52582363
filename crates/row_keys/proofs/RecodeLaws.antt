-- Codes depend on which rows are equal alone.
use Rattle.{
  multi_index.proofs.{cells.Common.{◌≡◌, ◌+◌, ◌<◌, Bool, true, false, not, ℕ, suc, List, [], ◌∷◌, map, drop, refl, sym, ap, ◌∙◌, length, slice_index_or, arith, cond_both, get_or-map, length-map, drop_more, drop_all, map-id, passes_at_first, position_or_len_is, list_any_at, All-cons, All-head, All-tail, All-filter, All-map, filter_passes, map-map, Decides, position_or_len, list_any, zip, IsEquivalence, pointwise, lists_equiv, distinct}, LevelLaws.{maps_alike}},
  std.specs.List.{filter, All},
  row_keys.{specs.Keys.{place_among, codes_of, first_rows, same_pair}, proofs.KeyLaws.{place_tells, all_known, position_in}},
}

pub All-distinct : {Z : Type 0} (P : Z → Type 0) (eq : Z → Z → Bool) (zs : List Z) → All P zs → All P (distinct eq zs)
All-distinct P _ [] all = all
All-distinct P eq (z ∷ zs) all =
    All-cons P z (filter (λ q. not (eq q z)) (distinct eq zs)) (All-head P z zs all) (All-filter _ P _ (All-distinct P eq zs (All-tail P z zs all)))

-- what is made of elements that pass P: tests on it that agree with tests on them
module _ {Z A : Type 0} (P : Z → Type 0) (f : Z → A) where
  module _ (p : A → Bool) (q : Z → Bool) (same : (z : Z) → P z → p (f z) ≡ q z) where
    filter_seen : (zs : List Z) → All P zs → filter p (map f zs) ≡ map f (filter q zs)
    filter_seen [] _ = refl
    filter_seen (z ∷ zs) all = grind (arith, same z (All-head P z zs all), filter_seen zs (All-tail P z zs all))

    position_seen : (zs : List Z) → All P zs → position_or_len p (map f zs) ≡ position_or_len q zs
    position_seen [] _ = refl
    position_seen (z ∷ zs) all = cc (same z (All-head P z zs all), position_seen zs (All-tail P z zs all))

  module _ (eq : A → A → Bool) (same : Z → Z → Bool) (agree : (y z : Z) → P y → P z → eq (f y) (f z) ≡ same y z) where
    distinct_seen : (zs : List Z) → All P zs → distinct eq (map f zs) ≡ map f (distinct same zs)
    distinct_seen [] _ = refl
    distinct_seen (z ∷ zs) all =
        let rest = All-tail P z zs all in
        cc (distinct_seen zs rest, filter_seen (λ q. not (eq q (f z))) (λ q. not (same q z)) (λ q h. ap not (agree q z h (All-head P z zs all))) (distinct same zs) (All-distinct P same zs rest))

    codes_seen : (zs : List Z) → All P zs → codes_of eq (map f zs) ≡ codes_of same zs
    codes_seen = search (distinct_seen, map-map, maps_alike, position_seen, All-distinct)

    firsts_seen : (zs : List Z) → All P zs → first_rows eq (map f zs) ≡ first_rows same zs
    firsts_seen zs all = rw (distinct_seen zs all, map-map) (maps_alike P _ _ (λ z h. position_seen _ _ (λ y. agree z y h) zs all) (distinct same zs) (All-distinct P same zs all))

-- codes and first rows of keys
pub record AreNumbers {K : Type 0} (eq : K → K → Bool) (keys : List K) (codes firsts : List ℕ) : Type 0 where
  pub coded : codes ≡ codes_of eq keys
  pub first : firsts ≡ first_rows eq keys

-- the same numbers, for keys that are equal in the same rows
pub renumbered : {Z A B : Type 0} (f : Z → A) (eq : A → A → Bool) (g : Z → B) (same : B → B → Bool) (P : Z → Type 0) → ((y z : Z) → P y → P z → eq (f y) (f z) ≡ same (g y) (g z)) → (zs : List Z) → All P zs
    → (codes firsts : List ℕ) → AreNumbers eq (map f zs) codes firsts → AreNumbers same (map g zs) codes firsts
renumbered f eq g same P agree zs all _ _ are = record {
  coded = are.coded ∙ codes_seen P f eq _ agree zs all ∙ sym (codes_seen P g same _ (λ y z h k. refl) zs all);
  first = are.first ∙ firsts_seen P f eq _ agree zs all ∙ sym (firsts_seen P g same _ (λ y z h k. refl) zs all);
}

zip_maps : {Z A B C : Type 0} (a : Z → A) (d : Z → B) (b : B → C) (zs : List Z) → zip (map a zs) (map b (map d zs)) ≡ map (λ z. (a z, b (d z))) zs
zip_maps a d b [] = refl
zip_maps a d b (z ∷ zs) = cc (zip_maps a d b zs)

-- tuples of one length, level by level: what is numbered are the labels from a level on
module _ {L : Type 0} (eq : L → L → Bool) (laws : IsEquivalence eq) (na : L) where
  abbrev at : ℕ → List L → L
  at i t = slice_index_or t i na

  pub last_level : (i : ℕ) (rows : List (List L)) (codes firsts : List ℕ) → All (λ t. length t ≡ i + 1) rows → AreNumbers eq (map (at i) rows) codes firsts → AreNumbers (pointwise eq) (map (drop i) rows) codes firsts
  last_level i rows codes firsts all are =
      renumbered _ eq _ _ (λ t. length t ≡ i + 1)
      (λ y z h k. grind (arith, drop_more y i na, drop_more z i na, drop_all)) rows all codes firsts are

  module _ (i : ℕ) (rows : List (List L)) where
    abbrev below : List (List L)
    below = map (drop (i + 1)) rows

    abbrev rank : List L → ℕ
    rank = place_among (pointwise eq) (distinct (pointwise eq) below)

    abbrev IsKnown : List L → Type 0
    IsKnown t = (i < length t) × (list_any (pointwise eq (drop (i + 1) t)) (distinct (pointwise eq) below) ≡ true)

    pub one_level : (old codes firsts : List ℕ) → All (λ t. i < length t) rows → old ≡ codes_of (pointwise eq) below → AreNumbers (same_pair eq) (zip (map (at i) rows) old) codes firsts → AreNumbers (pointwise eq) (map (drop i) rows) codes firsts
    one_level _ codes firsts all was are =
        renumbered (λ t. (at i t, rank (drop (i + 1) t))) (same_pair eq) _ _ IsKnown
        (λ y z h k. cc (place_tells _ (lists_equiv laws) (distinct (pointwise eq) below) (drop (i + 1) y) (drop (i + 1) z) k.1, drop_more y i na h.0, drop_more z i na k.0)) rows
        (λ k d lt. (all k d lt, cc (get_or-map (drop (i + 1)) rows k d (drop (i + 1) d) lt, all_known (pointwise eq) (lists_equiv laws) below k (drop (i + 1) d) (omega (arith, lt, length-map rows (drop (i + 1)))))))
        codes firsts
        (grind (arith, zip_maps))

pub drop_none : {X : Type 0} (rows : List (List X)) → map (drop 0) rows ≡ rows
drop_none rows = map-id rows

-- the distinct keys are among all
pub all_there : {K : Type 0} (eq : K → K → Bool) → IsEquivalence eq → (rows : List K) → All (λ k. list_any (eq k) rows ≡ true) (distinct eq rows)
all_there eq laws rows = All-distinct (λ k. list_any (eq k) rows ≡ true) eq rows (grind (arith, list_any_at))

-- the keys of the first rows are the distinct ones
module _ {K : Type 0} (eq : K → K → Bool) (decides : (a b : K) → Decides (eq a b) (a ≡ b)) (laws : IsEquivalence eq) (rows : List K) where
  pub firsts_inside : All (λ r. r < length rows) (first_rows eq rows)
  firsts_inside = All-map (λ r. r < length rows) (place_among eq rows) (distinct eq rows) (λ k d lt. position_in _ _ (all_there eq laws rows k d lt))

  pub first_keys : (d : K) → map (λ r. slice_index_or rows r d) (first_rows eq rows) ≡ distinct eq rows
  first_keys d =
      map-map _ (place_among eq rows) (distinct eq rows)
      ∙ maps_alike (λ k. list_any (eq k) rows ≡ true) _ (λ k. k) (λ k h. sym (grind (arith, passes_at_first, position_in))) (distinct eq rows) (all_there eq laws rows)
      ∙ map-id (distinct eq rows)

-- no distinct key stands before one that equals it
module _ {K : Type 0} (eq : K → K → Bool) where
  abbrev pub Apart : List K → Type 0
  Apart [] = Unit {0}
  Apart (k ∷ ks) = All (λ q. not (eq q k) ≡ true) ks × Apart ks

  apart_filter : (p : K → Bool) (ks : List K) → Apart ks → Apart (filter p ks)
  apart_filter p [] _ = tt
  apart_filter p (k ∷ ks) apart =
      let rest = apart_filter p ks apart.1 in
      cond_both (p k) _ _ Apart (λ _. (All-filter p (λ q. not (eq q k) ≡ true) ks apart.0, rest)) (λ _. rest)

  pub apart_distinct : (ks : List K) → Apart (distinct eq ks)
  apart_distinct [] = tt
  apart_distinct (k ∷ ks) = search (filter_passes, apart_filter, apart_distinct ks)

  -- of two of them the later one doesn't equal the earlier one
  pub apart_at : (ks : List K) (i j : ℕ) (d : K) → Apart ks → i < j → j < length ks → eq (slice_index_or ks j d) (slice_index_or ks i d) ≡ false
  apart_at (k ∷ ks) (suc i) (suc j) = grind (arith, apart_at ks)
  apart_at _ i _ = grind arith

-- the place of a distinct key is where it stands
pub place_there : {K : Type 0} (eq : K → K → Bool) → IsEquivalence eq → (rows : List K) (c : ℕ) (d : K) → c < length (distinct eq rows) → place_among eq (distinct eq rows) (slice_index_or (distinct eq rows) c d) ≡ c
place_there = grind (arith, position_or_len_is, apart_at, apart_distinct)
