-- The pairs of a join stand in order.
use Rattle.{
  column_core.proofs.cells.Common.{rules, ◌≡◌, ◌≢◌, ◌<◌, ◌≤◌, ◌+◌, ◌++◌, ◌∙◌, inl, inr, refl, sym, ap, subst, arith, ℕ, suc, Bool, true, false, List, [], ◌∷◌, map, length, slice_index_or, Option, Some, None, Result, Ok, Err, IfOk, All, false≢true, if◌then◌else◌, All-cons, All-head, All-tail, All-map, AllPairs-cons, list_any, list_any-append, flat_map, distinct, Decides, IsEquivalence, IsStrictWeakOrder, Label, Text},
  std.{specs.Prelude.{AllPairs}, proofs.lemmas.List.Kept.{AllPairs-from_increasing}},
  meaning_join.{specs.{align.Joins.{or_gap, keys_in_order}, pick.Rows.{rows_where}, Pairs.{Pair, pair, exchanged, partners, pairs_from, key_pairs, JoinRefusal, RepeatedKey, within, unless_repeated, repeated_key, joined_within}, declared.{How.{How, TheVariants.{Inner, Left, Right, Outer}}, Validate.{Validate}}}, proofs.{align.{OrderLaws.{all_flat}}, pick.InsideLaws.{rows_ascend}, align.sorting.{SortLaws.{irreflexive}, OrderLaws.{in_order_rises}}}},
  merge_concat.{proofs.JoinLaws.{outer, seen, keys_stand, key_once, only_place}, specs.{Codes.{pairs_with, pairs_of}, Pairs.{JoinsBy}, JoinOrder.{IsEarlier, IsEarlierPair, key_at, key_of, IsEarlierByKey, StandsBefore, IsOrderedJoin}, declared.{pairs.Pairs.{Pairs}, fault.MergeFault.{MergeFault}}}},
  factorize.{proofs.label_align.{SameLaws.{tuple_decides}, LawOfJoins.{tuple_weak}}, specs.label_align.Tuples.{tuple_less}},
  row_keys.{specs.Keys.{same_tuple}, proofs.PartnerLaws.{tuple_laws}},
}
pub use Rattle.std.proofs.lemmas.List.Elements.{All-append as all_append}

-- pairs of elements of lists that are put together
module _ {X : Type 0} (R : X → X → Type 0) where
  no_pairs : AllPairs R []
  no_pairs i j d lt inside = absurd (omega (arith, inside))

  first_with : (x : X) (xs : List X) → AllPairs R (x ∷ xs) → All (R x) xs
  first_with x xs all k d lt = all 0 (suc k) d (omega arith) (omega (arith, lt))

  rest_pairs : (x : X) (xs : List X) → AllPairs R (x ∷ xs) → AllPairs R xs
  rest_pairs x xs all i j d lt inside = all (suc i) (suc j) d (omega (arith, lt)) (omega (arith, inside))

  append_pairs : (xs ys : List X) → AllPairs R xs → AllPairs R ys → All (λ x. All (R x) ys) xs → AllPairs R (xs ++ ys)
  append_pairs [] ys front back across = back
  append_pairs (x ∷ xs) ys front back across =
      AllPairs-cons R x (xs ++ ys) (all_append (R x) xs ys (first_with x xs front) (All-head (λ x. All (R x) ys) x xs across))
      (append_pairs xs ys (rest_pairs x xs front) back (All-tail (λ x. All (R x) ys) x xs across))

map_pairs : {X Y : Type 0} (R : Y → Y → Type 0) (f : X → Y) (xs : List X) → AllPairs (λ a b. R (f a) (f b)) xs → AllPairs R (map f xs)
map_pairs R f [] all = no_pairs R
map_pairs R f (x ∷ xs) all = AllPairs-cons R (f x) (map f xs) (All-map (R (f x)) f xs (first_with (λ a b. R (f a) (f b)) x xs all)) (map_pairs R f xs (rest_pairs (λ a b. R (f a) (f b)) x xs all))

flat_pairs : {X Y : Type 0} (R : Y → Y → Type 0) (S : X → X → Type 0) (Q : X → Type 0) (f : X → List Y) → ((x : X) → Q x → AllPairs R (f x)) → ((x z : X) → Q x → Q z → S x z → All (λ y. All (R y) (f z)) (f x))
    → (xs : List X) → All Q xs → AllPairs S xs → AllPairs R (flat_map f xs)
flat_pairs R S Q f within across [] all up = no_pairs R
flat_pairs R S Q f within across (x ∷ xs) all up =
    let here : Q x = All-head Q x xs all in
    let later : All Q xs = All-tail Q x xs all in
    append_pairs R (f x) (flat_map f xs) (within x here) (flat_pairs R S Q f within across xs later (rest_pairs S x xs up))
    (λ k d lt. all_flat (R (slice_index_or (f x) k d)) (λ z. Q z × S x z) f (λ z h. across x z here h.0 h.1 k d lt) xs (λ n e inside. (later n e inside, first_with S x xs up n e inside)))

-- the rows that pass stand in order
module _ {X : Type 0} (p : X → Bool) (xs : List X) where
  rows_in_order : AllPairs IsEarlier (map Some (rows_where p 0 xs))
  rows_in_order = map_pairs IsEarlier Some (rows_where p 0 xs) (AllPairs-from_increasing (rows_where p 0 xs) (rows_ascend p 0 xs))

  one_gap : AllPairs IsEarlier (None ∷ [])
  one_gap = AllPairs-cons IsEarlier None [] (λ k d lt. absurd (omega (arith, lt))) (no_pairs IsEarlier)

  gaps_in_order : AllPairs IsEarlier (or_gap (rows_where p 0 xs))
  gaps_in_order = by (rows_where p 0 xs) rows_in_order
    where
      by : (rows : List ℕ) → AllPairs IsEarlier (map Some rows) → AllPairs IsEarlier (or_gap rows)
      by [] up = one_gap
      by (row ∷ rows) up = up

  partners_in_order : (stays : Bool) → AllPairs IsEarlier (partners stays (rows_where p 0 xs))
  partners_in_order true = gaps_in_order
  partners_in_order false = rows_in_order

with_row_in_order : (left : Option ℕ) (rights : List (Option ℕ)) → AllPairs IsEarlier rights → AllPairs IsEarlierPair (map (pair left) rights)
with_row_in_order left rights up = map_pairs IsEarlierPair (pair left) rights (λ i j d lt inside. inr (refl, up i j d lt inside))

-- a row of those from one on
abbrev IsFrom : ℕ → Option ℕ → Type 0
IsFrom n (Some i) = n ≤ i
IsFrom n None = ⊥

earlier_than : (at : ℕ) (b : Option ℕ) → IsFrom (at + 1) b → IsEarlier (Some at) b
earlier_than at (Some i) le = omega (arith, le)
earlier_than at None none = none

module _ {K : Type 0} (same : K → K → Bool) (stays : Bool) (others : List K) where
  from_there : (n at : ℕ) (keys : List K) → n ≤ at → All (λ p. IsFrom n p.left) (pairs_from same stays at keys others)
  from_there n at [] le = λ k d lt. absurd (omega (arith, lt))
  from_there n at (key ∷ keys) le =
      all_append (λ p. IsFrom n p.left) _ _
      (All-map (λ p. IsFrom n p.left) (pair (Some at)) (partners stays (rows_where (same key) 0 others)) (λ k d lt. le))
      (from_there n (at + 1) keys (omega (arith, le)))

  from_in_order : (at : ℕ) (keys : List K) → AllPairs IsEarlierPair (pairs_from same stays at keys others)
  from_in_order at [] = no_pairs IsEarlierPair
  from_in_order at (key ∷ keys) =
      let later = from_there (at + 1) (at + 1) keys (omega arith) in
      append_pairs IsEarlierPair _ (pairs_from same stays (at + 1) keys others)
      (with_row_in_order (Some at) _ (partners_in_order (same key) others stays))
      (from_in_order (at + 1) keys)
      (All-map (λ p. All (IsEarlierPair p) (pairs_from same stays (at + 1) keys others)) (pair (Some at)) (partners stays (rows_where (same key) 0 others))
      (λ k d lt. λ n e inside. inl (earlier_than at _ (later n e inside))))

-- key by key
module _ {X : Type 0} (p : X → Bool) where
  rows_pass : (f : ℕ → X) (at : ℕ) (xs : List X) (d : X) → ((k : ℕ) → k < length xs → f (at + k) ≡ slice_index_or xs k d) → All (λ row. p (f row) ≡ true) (rows_where p at xs)
  rows_pass f at [] d there = λ k e lt. absurd (omega (arith, lt))
  rows_pass f at (x ∷ xs) d there =
      let later = rows_pass f (at + 1) xs d (λ k lt. ap f (omega arith) ∙ there (suc k) (omega (arith, lt))) in
      let here : f at ≡ x = ap f (omega arith) ∙ there 0 (omega arith) in
      elim (p x) as (λ b. p x ≡ b → All (λ row. p (f row) ≡ true) (if b then at ∷ rows_where p (at + 1) xs else rows_where p (at + 1) xs)) [
        | true ↦ λ e. All-cons (λ row. p (f row) ≡ true) at (rows_where p (at + 1) xs) (ap p here ∙ e) later
        | false ↦ λ e. later
      ] refl

  rows_are_some : (at : ℕ) (xs : List X) → list_any p xs ≡ true → rows_where p at xs ≡ [] → ⊥
  rows_are_some at [] any none = false≢true any
  rows_are_some at (x ∷ xs) any none = grind (arith, rows_are_some (at + 1) xs)

none_there : (b : Bool) → (b ≡ true → ⊥) → b ≡ false
none_there true h = absurd (h refl)
none_there false h = refl

module _ {K : Type 0} (same less : K → K → Bool) (laws : IsEquivalence same) (decides : (a b : K) → Decides (same a b) (a ≡ b)) (weak : IsStrictWeakOrder less) (left right : List K) (none : K) where
  abbrev key_in : Pair → K
  key_in = key_of left right none

  abbrev of_this : K → List Pair
  of_this key = pairs_of (rows_where (same key) 0 left) (rows_where (same key) 0 right)

  abbrev Stands : K → Type 0
  Stands key = list_any (same key) (left ++ right) ≡ true

  -- a row of a side has the key; there is a gap only where the side hasn't the key
  abbrev HasKey : K → List K → Option ℕ → Type 0
  HasKey key side (Some i) = slice_index_or side i none ≡ key
  HasKey key side None = list_any (same key) side ≡ false

  rows_keyed : (key : K) (side : List K) → All (HasKey key side) (or_gap (rows_where (same key) 0 side))
  rows_keyed key side = by (rows_where (same key) 0 side) (rows_pass (same key) (λ i. slice_index_or side i none) 0 side none (λ k lt. let e : 0 + k ≡ k = omega arith in ap (λ (i : ℕ). slice_index_or side i none) e)) (rows_are_some (same key) 0 side)
    where
      has : (rows : List ℕ) → All (λ row. same key (slice_index_or side row none) ≡ true) rows → All (HasKey key side) (map Some rows)
      has rows pass = All-map (HasKey key side) Some rows (λ k d lt. sym ((decides key _).0 (pass k d lt)))

      by : (rows : List ℕ) → All (λ row. same key (slice_index_or side row none) ≡ true) rows → (list_any (same key) side ≡ true → rows ≡ [] → ⊥) → All (HasKey key side) (or_gap rows)
      by [] pass some = All-cons (HasKey key side) None [] (none_there (list_any (same key) side) (λ e. some e refl)) (λ k d lt. absurd (omega (arith, lt)))
      by (row ∷ rows) pass some = has (row ∷ rows) pass

  pair_keyed : (key : K) → Stands key → (l r : Option ℕ) → HasKey key left l → HasKey key right r → key_at left right none l r ≡ key
  pair_keyed key there (Some i) r hl hr = hl
  pair_keyed key there None (Some j) hl hr = hr
  pair_keyed key there None None hl hr = absurd (grind (arith, list_any-append (same key) left right, false≢true))

  pairs_keyed : (key : K) → Stands key → All (λ p. key_in p ≡ key) (of_this key)
  pairs_keyed key there =
      all_flat (λ p. key_in p ≡ key) (HasKey key left) (pairs_with (rows_where (same key) 0 right))
      (λ l hl. All-map (λ p. key_in p ≡ key) (pair l) (or_gap (rows_where (same key) 0 right)) (λ k d lt. pair_keyed key there l _ hl (rows_keyed key right k d lt)))
      (or_gap (rows_where (same key) 0 left)) (rows_keyed key left)

  one_key_in_order : (key : K) → AllPairs IsEarlierPair (of_this key)
  one_key_in_order key =
      flat_pairs IsEarlierPair IsEarlier (λ l. Unit {0}) (pairs_with (rows_where (same key) 0 right))
      (λ l _. with_row_in_order l (or_gap (rows_where (same key) 0 right)) (gaps_in_order (same key) right))
      (λ l m _ _ lt. All-map (λ p. All (IsEarlierPair p) (pairs_with (rows_where (same key) 0 right) m)) (pair l) (or_gap (rows_where (same key) 0 right))
      (λ k d inside. All-map (IsEarlierPair (pair l (slice_index_or (or_gap (rows_where (same key) 0 right)) k d))) (pair m) (or_gap (rows_where (same key) 0 right)) (λ n e there. inl lt)))
      (or_gap (rows_where (same key) 0 left)) (λ k d lt. tt) (gaps_in_order (same key) left)

  -- no lesser key stands later, and no key twice
  record Rises (a b : K) : Type 0 where
    not_greater : less b a ≡ false
    apart : a ≢ b

  abbrev keys : List K
  keys = keys_in_order same less (left ++ right)

  keys_apart : AllPairs (λ a b. a ≢ b) keys
  keys_apart i j d lt inside e =
      let a = slice_index_or keys i d in
      let one = key_once same less laws decides weak left right a (keys_stand same less laws decides weak left right i d (omega (arith, lt, inside))) in
      let here = only_place (same a) keys a i d one (omega (arith, lt, inside)) (laws.refl a) in
      let there = only_place (same a) keys a j d one inside (subst (λ b. same a b ≡ true) e (laws.refl a)) in
      omega (arith, lt, here, there)

  keys_rise : AllPairs Rises keys
  keys_rise i j d lt inside = record {
    not_greater = in_order_rises less weak (distinct same (left ++ right)) d i j lt inside;
    apart = keys_apart i j d lt inside;
  }

  of_one : (key : K) → Stands key → AllPairs (IsEarlierByKey same less key_in) (of_this key)
  of_one key there i j d lt inside =
      let p = slice_index_or (of_this key) i d in
      let q = slice_index_or (of_this key) j d in
      let kp : key_in p ≡ key = pairs_keyed key there i d (omega (arith, lt, inside)) in
      let kq : key_in q ≡ key = pairs_keyed key there j d inside in
      record {
        not_greater = subst (λ a. less a (key_in p) ≡ false) (sym kq) (subst (λ b. less key b ≡ false) (sym kp) (irreflexive less weak key));
        of_one_key = λ e. one_key_in_order key i j d lt inside;
      }

  of_two : (a b : K) → Stands a → Stands b → Rises a b → All (λ p. All (IsEarlierByKey same less key_in p) (of_this b)) (of_this a)
  of_two a b there there' up k d lt n e inside =
      let p = slice_index_or (of_this a) k d in
      let q = slice_index_or (of_this b) n e in
      let kp : key_in p ≡ a = pairs_keyed a there k d lt in
      let kq : key_in q ≡ b = pairs_keyed b there' n e inside in
      record {
        not_greater = subst (λ x. less x (key_in p) ≡ false) (sym kq) (subst (λ y. less b y ≡ false) (sym kp) up.not_greater);
        of_one_key = λ s. absurd (up.apart (sym kp ∙ (decides (key_in p) (key_in q)).0 s ∙ kq));
      }

  outer_in_order : AllPairs (IsEarlierByKey same less key_in) (outer same less laws decides weak left right)
  outer_in_order =
      flat_pairs (IsEarlierByKey same less key_in) Rises Stands of_this of_one of_two
      (keys_in_order same less (left ++ right)) (keys_stand same less laws decides weak left right) keys_rise

  pub key_pairs_in_order : (how : How) → AllPairs (StandsBefore same less key_in how) (key_pairs same less how left right)
  key_pairs_in_order Inner = from_in_order same false right 0 left
  key_pairs_in_order Left = from_in_order same true right 0 left
  key_pairs_in_order Right = map_pairs (λ p q. IsEarlierPair (exchanged p) (exchanged q)) exchanged (pairs_from same true 0 right left) (from_in_order same true left 0 right)
  key_pairs_in_order Outer = subst (AllPairs (IsEarlierByKey same less key_in)) (sym (seen same less laws decides weak left right keys)) outer_in_order

-- what is answered stands in order
module _ {K : Type 0} (most : ℕ) (meant pairs : List Pair) where
  answered : (repeated : Option (RepeatedKey K)) → unless_repeated repeated (within most meant) ≡ Ok pairs → pairs ≡ meant
  answered (Some r) e = cc
  answered None e = grind arith

pub order_of : (most : ℕ) (texts : List Text) (how : How) (once : Validate) (left right : List (List Label)) (result : Result Pairs MergeFault)
    → JoinsBy result (joined_within most same_tuple (tuple_less texts) how once left right) → IfOk result (IsOrderedJoin same_tuple (tuple_less texts) how left right)
order_of most texts how once left right (Ok made) answer = record {
  pairs = answer.pairs;
  seen = answer.seen;
  ordered = λ none. subst (AllPairs (StandsBefore same_tuple (tuple_less texts) (key_of left right none) how)) (sym (answered most (key_pairs same_tuple (tuple_less texts) how left right) answer.pairs (repeated_key same_tuple once left right) answer.are))
      (key_pairs_in_order same_tuple (tuple_less texts) tuple_laws tuple_decides (tuple_weak texts) left right none how);
}
order_of _ _ _ _ _ _ (Err fault) _ = tt
