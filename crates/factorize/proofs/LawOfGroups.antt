-- What factorize answers are groups.
use Rattle.{
  column_core.proofs.cells.Common.{rules, ◌≡◌, ◌+◌, ◌<◌, ◌≤◌, ◌||◌, refl, arith, ℕ, suc, Bool, true, false, not, cond, List, [], ◌∷◌, filter, length, All, slice_index_or, nat_lt, Option, None, false≢true, ltb-true, lt-ltb, eqb-true, eq-eqb, cases_lt, length-map, get_or-map, All-cons, All-head, All-tail, All-filter, filter_passes, passes_at_first, position_or_len_is, list_any, position_or_len, IsEquivalence, IsStrictWeakOrder, distinct},
  std.proofs.lemmas.Bool.{true≢false, not-true, not-false},
  sorting.specs.Sorting.{put_in, in_order},
  meaning_group.{proofs.{align.OrderLaws.{all_put_in, all_in_order}, pick.RowLaws.{rows_where-map}}, specs.{pick.Rows.{rows_where}, Keys.{KeyRules, is_kept, group_keys, group_of, group_codes}, Rows.{is_in, rows_of_group}, Grouping.{HasGroup, AreGroups}}},
  row_keys.proofs.{KeyLaws.{position_in, all_known, any_at}, RecodeLaws.{Apart, All-distinct, apart_distinct, apart_at}},
  factorize.proofs.PlaceLaws.{there},
}

-- none passes, so that the first place is behind the end
none_at : {X : Type 0} (p : X → Bool) (xs : List X) → All (λ x. p x ≡ false) xs → length xs ≤ position_or_len p xs
none_at p [] all = omega arith
none_at p (x ∷ xs) all = grind (arith, All-head (λ y. p y ≡ false) x xs all, none_at p xs (All-tail (λ y. p y ≡ false) x xs all))

any_put_in : {X : Type 0} (p : X → Bool) (less : X → X → Bool) (x : X) (ys : List X) → list_any p (put_in less x ys) ≡ (p x || list_any p ys)
any_put_in p _ x [] = refl
any_put_in p less x (y ∷ ys) = grind (arith, any_put_in p less x ys)

pub any_in_order : {X : Type 0} (p : X → Bool) (less : X → X → Bool) (xs : List X) → list_any p (in_order less xs) ≡ list_any p xs
any_in_order p _ [] = refl
any_in_order p less (x ∷ xs) = search (any_put_in, any_in_order p less xs)

-- an element that passes is left by a filter that keeps all such elements
any_kept : {X : Type 0} (p r : X → Bool) → ((q : X) → p q ≡ true → r q ≡ true) → (xs : List X) → list_any p (filter r xs) ≡ list_any p xs
any_kept p r _ [] = refl
any_kept p r keeps (x ∷ xs) = grind (arith, any_kept p r keeps xs)

module _ {K : Type 0} (same : K → K → Bool) (laws : IsEquivalence same) where
  apart_filter : (p : K → Bool) (ks : List K) → Apart same ks → Apart same (filter p ks)
  apart_filter p [] _ = tt
  apart_filter p (k ∷ ks) apart = grind (arith, All-filter p (λ q. not (same q k) ≡ true) ks apart.0, apart_filter p ks apart.1)

  module _ (less : K → K → Bool) where
    apart_put_in : (x : K) (ys : List K) → All (λ q. not (same q x) ≡ true) ys → Apart same ys → Apart same (put_in less x ys)
    apart_put_in x [] other _ = (other, tt)
    apart_put_in x (y ∷ ys) other apart = grind (arith, laws.symm x y, All-head (λ q. not (same q x) ≡ true) y ys other, all_put_in (λ q. not (same q y) ≡ true) less x ys, apart_put_in x ys (All-tail (λ q. not (same q x) ≡ true) y ys other) apart.1)

    apart_in_order : (xs : List K) → Apart same xs → Apart same (in_order less xs)
    apart_in_order [] _ = tt
    apart_in_order (x ∷ xs) apart = apart_put_in x _ (all_in_order (λ q. not (same q x) ≡ true) _ xs apart.0) (apart_in_order xs apart.1)

  -- a key's place among keys of which no two are the same
  module _ (keys : List K) (apart : Apart same keys) where
    place_is : (g : ℕ) (d k : K) → g < length keys → same (slice_index_or keys g d) k ≡ true → position_or_len (same k) keys ≡ g
    place_is = grind (arith, position_or_len_is, apart_at)

    -- a key is in the group whose key it is
    pub told : (g : ℕ) (d k : K) → g < length keys → is_in g (group_of same keys k) ≡ same (slice_index_or keys g d) k
    told = grind (arith, place_is, there, eq-eqb, cases_lt, eqb-true, passes_at_first, false≢true)

module _ {K : Type 0} (rules : KeyRules K) (laws : IsEquivalence rules.same) (weak : IsStrictWeakOrder rules.less) (respects : (a b : K) → rules.same a b ≡ true → rules.holds_na a ≡ rules.holds_na b) (sorted dropna : Bool) (rows : List K) where
  abbrev distinct_keys : List K
  distinct_keys = distinct rules.same rows

  abbrev keys : List K
  keys = group_keys rules sorted dropna rows

  abbrev codes : List (Option ℕ)
  codes = group_codes rules sorted dropna rows

  abbrev kept : K → Bool
  kept = is_kept dropna rules.holds_na

  keys_apart : Apart rules.same keys
  keys_apart = grind (arith, apart_filter, apart_in_order, apart_distinct)

  module _ (row : ℕ) (d : K) (lt : row < length rows) where
    abbrev key : K
    key = slice_index_or rows row d

    coded : slice_index_or codes row None ≡ group_of rules.same keys key
    coded = grind (arith, get_or-map)

    in_group : kept key ≡ true → HasGroup rules rows keys codes row d
    in_group = grind (arith, any_kept, any_in_order, all_known, position_in, there, coded, passes_at_first)

    in_none : kept key ≡ false → slice_index_or codes row None ≡ None
    in_none = grind (arith, coded, none_at, true≢false, filter_passes)

  rows_of : (group : ℕ) (d : K) → group < length keys → rows_of_group group codes ≡ rows_where (rules.same (slice_index_or keys group d)) 0 rows
  rows_of group d lt = rows_where-map (λ k. Unit {0}) _ _ _ (λ k _. told _ laws _ keys_apart group d k lt) 0 _ _

-- a key that a row has
abbrev pub IsThere : {K : Type 0} → (K → K → Bool) → List K → K → Type 0
IsThere same rows key = list_any (same key) rows ≡ true

pub keys_there : {K : Type 0} (rules : KeyRules K) → IsEquivalence rules.same → (sorted dropna : Bool) (rows : List K) → All (IsThere rules.same rows) (group_keys rules sorted dropna rows)
keys_there {K} rules laws sorted _ rows =
    let there = IsThere rules.same rows in
    let keys = distinct rules.same rows in
    let all = All-distinct there rules.same _ (λ k d lt. any_at _ _ k d lt (laws.refl (slice_index_or rows k d))) in
    All-filter _ there _
    (elim sorted as (λ b. All there (cond b (in_order rules.less keys) keys)) [
      | true ↦ search all_in_order
      | false ↦ all
    ])

-- a list in which no two elements stand the wrong way
module _ {X : Type 0} (wrong : X → X → Bool) where
  abbrev pub Rises : List X → Type 0
  Rises [] = Unit {0}
  Rises (x ∷ xs) = All (λ y. wrong y x ≡ false) xs × Rises xs

  rises_at : (xs : List X) → Rises xs → (i j : ℕ) (d : X) → i < j → j < length xs → wrong (slice_index_or xs j d) (slice_index_or xs i d) ≡ false
  rises_at (x ∷ xs) up (suc i) (suc j) = grind (arith, rises_at xs up.1)
  rises_at _ up _ _ = grind arith

  rises_filter : (p : X → Bool) (xs : List X) → Rises xs → Rises (filter p xs)
  rises_filter p [] _ = tt
  rises_filter p (x ∷ xs) up = grind (arith, All-filter p (λ y. wrong y x ≡ false) xs up.0, rises_filter p xs up.1)

in_order_rises : {X : Type 0} (less : X → X → Bool) → IsStrictWeakOrder less → (xs : List X) → Rises less (in_order less xs)
in_order_rises {X} _ _ [] = tt
in_order_rises {X} less weak (x ∷ xs) = put x _ (in_order_rises _ weak xs)
  where
    put : (x : X) (ys : List X) → Rises less ys → Rises less (put_in less x ys)
    put x [] up = grind arith
    put x (y ∷ ys) up = elim (less y x) as (λ b. less y x ≡ b → Rises less (cond b (y ∷ put_in less x ys) (x ∷ y ∷ ys))) [
      | true ↦ λ h. (all_put_in (λ w. less w y ≡ false) less x ys (weak.one_way y x h) up.0, put x ys up.1)
      | false ↦ λ h. (All-cons (λ w. less w x ≡ false) y ys h (λ k d lt. weak.chain _ y x (up.0 k d lt) h), up)
    ] refl

-- distinct keys stand as the rows show them first
module _ {K : Type 0} (same : K → K → Bool) where
  abbrev not_after : List K → K → K → Bool
  not_after rows b a = not (nat_lt (position_or_len (same a) rows) (position_or_len (same b) rows))

  sight_rises : (rows : List K) → IsEquivalence same → Rises (not_after rows) (distinct same rows)
  sight_rises [] laws = tt
  sight_rises (k ∷ ks) laws = (grind (arith, not-true, filter_passes, lt-ltb, moved, sight_rises ks laws))
    where
      one_later : (q : K) → same q k ≡ false → position_or_len (same q) (k ∷ ks) ≡ 1 + position_or_len (same q) ks
      one_later q other = cc

      above : (a : K) (qs : List K) → same a k ≡ false → All (λ b. not_after ks b a ≡ false) qs → All (λ b. not_after (k ∷ ks) b a ≡ false) (filter (λ q. not (same q k)) qs)
      above a qs other all j d lt =
          let b = slice_index_or (filter (λ q. not (same q k)) qs) j d in
          let apart : same b k ≡ false = grind (arith, not-true, filter_passes) in
          let before = not-false _ (All-filter _ (λ q. not_after ks q a ≡ false) qs all j d lt) in
          grind (arith, lt-ltb, one_later, ltb-true)

      moved : (qs : List K) → Rises (not_after ks) qs → Rises (not_after (k ∷ ks)) (filter (λ q. not (same q k)) qs)
      moved [] up = tt
      moved (q ∷ qs) up = grind (arith, above, moved qs up.1)

module _ {K : Type 0} (rules : KeyRules K) (laws : IsEquivalence rules.same) (weak : IsStrictWeakOrder rules.less) (dropna : Bool) (rows : List K) where
  abbrev kept' : K → Bool
  kept' = is_kept dropna rules.holds_na

-- what group_keys and group_codes say are groups
pub are_groups : {K : Type 0} (rules : KeyRules K) (laws : IsEquivalence rules.same) (weak : IsStrictWeakOrder rules.less) (respects : (a b : K) → rules.same a b ≡ true → rules.holds_na a ≡ rules.holds_na b) (sorted dropna : Bool) (rows : List K)
    → AreGroups rules sorted dropna rows (group_keys rules sorted dropna rows) (group_codes rules sorted dropna rows)
are_groups {K} rules laws weak respects _ _ _ = record {
  each_row = search length-map;
  in_group = search in_group;
  in_none = search in_none;
  rows_of = search rows_of;
  has_row = search keys_there;
  in_order = grind (arith, rises_at, rises_filter, in_order_rises, false≢true);
  by_sight = grind (arith, true≢false, ltb-true, not-false, rises_at, rises_filter, sight_rises);
}
