-- The distinct keys, and what a walk over rows has noted of them.
use Rattle.{
  multi_index.proofs.{cells.Common.{◌≡◌, ◌+◌, ◌<◌, ◌≤◌, Bool, true, false, not, cond, ℕ, List, [], ◌∷◌, ◌++◌, map, take, length, slice_index_or, nat_eq, refl, arith, eq-eqb, ne_eqb, nat_tests, append-nil, get_or_default, take_more, map_push, length-take, length-map, get_or-take, get_or-map, prefix_len-le-length, list_any-append, list_any_none, position_or_len_push, slice_index, IsEquivalence, nat_eq_equiv, list_any, position_or_len, prefix_len, distinct}, LevelLaws.{maps_alike}},
  indexmap.specs.IndexSet.{insert_key},
  row_keys.{specs.{Keys.{place_among}, Numbers.{LeadBack}}, proofs.{KeyLaws.{position_in, position_none, any_at, distinct_push, distinct_has, all_known}, RecodeLaws.{AreNumbers, all_there}}},
}

pub prefix-le : {X : Type 0} (p : X → Bool) (xs : List X) → prefix_len p xs ≤ length xs
prefix-le p = prefix_len-le-length p

module _ {K : Type 0} (eq : K → K → Bool) (laws : IsEquivalence eq) where
  -- what was seen is what the rows so far have
  pub covers_more : (k : K) (seen rows : List K) → ((q : K) → list_any (eq q) seen ≡ list_any (eq q) rows) → (q : K) → list_any (eq q) (insert_key eq seen k) ≡ list_any (eq q) (rows ++ k ∷ [])
  covers_more = grind (arith, list_any-append, list_any {X = K})

  -- the place of a key that is known stays
  place_kept : (x k : K) (keys : List K) → list_any (eq x) keys ≡ true → position_or_len (eq x) (keys ++ k ∷ []) ≡ position_or_len (eq x) keys
  place_kept = grind (arith, position_or_len_push, nat_tests, position_in)

  module _ (keys : List K) (i : ℕ) (k : K) (seen : List K) where
    pub seen_more : (seen' : List K) → i < length keys → slice_index_or keys i k ≡ k → seen ≡ distinct eq (take i keys) → seen' ≡ insert_key eq seen k → seen' ≡ distinct eq (take (i + 1) keys)
    seen_more _ lt here was grown = rw (take_more keys i k lt, here, distinct_push) (grind (arith, distinct_has, append-nil))

    pub numbers_more : (codes firsts codes' firsts' : List ℕ) (code : ℕ) (new : Bool) → i < length keys → slice_index_or keys i k ≡ k → AreNumbers eq (take i keys) codes firsts → seen ≡ distinct eq (take i keys)
        → new ≡ not (list_any (eq k) seen) → code ≡ position_or_len (eq k) seen → codes' ≡ codes ++ code ∷ [] → firsts' ≡ cond new (firsts ++ i ∷ []) firsts → AreNumbers eq (take (i + 1) keys) codes' firsts'
    numbers_more _ _ _ _ _ _ lt here are is fresh at pushed added =
        rw (take_more keys i k lt, here) (grind (arith, map_push, distinct_push, places, place_here, append-nil, rows, position_or_len_push, position_none, length-take, nat_tests, distinct_has))
      where
        before : List K
        before = take i keys

        places : map (place_among eq (distinct eq before ++ k ∷ [])) before ≡ map (place_among eq (distinct eq before)) before
        places = maps_alike (λ x. list_any (eq x) (distinct eq before) ≡ true) _ _ (λ x. place_kept x k (distinct eq before)) before (all_known eq laws before)

        rows : map (place_among eq (before ++ k ∷ [])) (distinct eq before) ≡ map (place_among eq before) (distinct eq before)
        rows = maps_alike (λ x. list_any (eq x) before ≡ true) _ _ (λ x. place_kept x k before) (distinct eq before) (all_there eq laws before)

        place_here : list_any (eq k) before ≡ false → position_or_len (eq k) (distinct eq before ++ k ∷ []) ≡ position_or_len (eq k) (distinct eq before)
        place_here = grind (arith, position_or_len_push, position_none, distinct_has, nat_tests)

-- a walk over leaders
module _ (leaders : List ℕ) (lead : LeadBack leaders) (i : ℕ) (codes firsts : List ℕ) (lt : i < length leaders) (are : AreNumbers nat_eq (take i leaders) codes firsts) where
  abbrev leader : ℕ
  leader = slice_index leaders i

  abbrev before : List ℕ
  before = take i leaders

  -- a leader before the row has its code
  pub code_inside : (leader ≡ i → ⊥) → leader < length codes
  code_inside = grind (arith, length-map, length-take)

  -- a row that leads itself has a new number, and another row that of its leader
  pub led_more : (codes' firsts' : List ℕ) (code : ℕ) → code ≡ cond (nat_eq leader i) (length firsts) (slice_index codes leader) → codes' ≡ codes ++ code ∷ [] → firsts' ≡ cond (nat_eq leader i) (firsts ++ i ∷ []) firsts → AreNumbers nat_eq (take (i + 1) leaders) codes' firsts'
  led_more codes' firsts' code at pushed added = numbers_more nat_eq nat_eq_equiv leaders i leader _ codes firsts codes' firsts' code (nat_eq leader i) lt (grind (arith, get_or_default)) are refl (grind (arith, fresh, old, nat_tests, distinct_has nat_eq nat_eq_equiv)) (grind (arith, counted, coded, nat_tests)) pushed added
    where
      fresh : leader ≡ i → list_any (nat_eq leader) before ≡ false
      fresh own = list_any_none _ before (λ k d below. grind (arith, lead.back k, ne_eqb, get_or-take {A = ℕ} i leaders k, get_or_default, length-take))

      old : (leader ≡ i → ⊥) → list_any (nat_eq leader) before ≡ true
      old apart = grind (arith, any_at, nat_eq, length-take, get_or-take, eq-eqb)

      counted : leader ≡ i → length firsts ≡ position_or_len (nat_eq leader) (distinct nat_eq before)
      counted = grind (arith, position_none, distinct_has nat_eq nat_eq_equiv, fresh, length-map)

      coded : (leader ≡ i → ⊥) → slice_index codes leader ≡ position_or_len (nat_eq leader) (distinct nat_eq before)
      coded = grind (arith, get_or-map, get_or-take, length-take)
