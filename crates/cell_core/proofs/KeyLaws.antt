-- Laws of the keys of a dictionary's texts.
use Rattle.{std.{proofs.{Common.{◌<◌, ◌≤◌, length, take, ◌≡◌, ◌∙◌, ℕ, suc, ◌+◌, ◌%◌, ◌^◌, ◌⊎◌, subst, Bool, true, false, cond, nat_eq, get_or, List, [], ◌∷◌, ◌++◌, refl, sym, ap, arith, inl, inr}, lemmas.{Slice.Eq.{bytes_eq-Decides}, Map.Keys.{apart_from_distinct}, List.{length-append, length-take, get_or-take, get_or_append_left, Folds.{list_any_at}, Sums.{position_or_len_is, fails_before_first, passes_at_first}}, Bool.{cases_order, both_ways}, Bool.Decides.{Decides-eqb}}, Math.Seq.{get_or-append_seam}}, specs.{List.{list_any, IsDistinct}, Str.{bytes_eq}}}, indexmap.proofs.IndexTableLemmas.Probe.{pigeonhole}, cell_core.specs.{Texts.{with_text, number_of, AreDistinct}, Keys.{text_hash, key_at, key_place, IsKeyed, AreKeyed, IsOthers, IsFree}}}
use borrow.Author.Count.{below_more}

false_unless : (b : Bool) → (b ≡ true → ⊥) → b ≡ false
false_unless true h = absurd (h refl)
false_unless false h = refl

module _ (keys : List ℕ) where
  -- the key at its place
  key_there : (k : ℕ) → key_place keys k < length keys → get_or keys (key_place keys k) 0 ≡ k
  key_there k lt = sym ((Decides-eqb k (get_or keys (key_place keys k) 0)).0 (passes_at_first (nat_eq k) keys 0 lt))

  -- the place of a key that is there
  place_there : IsDistinct nat_eq keys → (i k : ℕ) → i < length keys → get_or keys i 0 ≡ k → key_place keys k ≡ i
  place_there distinct i k lt e =
      position_or_len_is (nat_eq k) keys i 0 (omega arith)
      (λ j below. false_unless _ (λ same. both_ways _ (apart_from_distinct nat_eq keys j i 0 distinct below lt) ((Decides-eqb _ _).1 (sym ((Decides-eqb k _).0 same) ∙ sym e))))
      (λ _. (Decides-eqb k _).1 (sym e))

  -- the place of a key among more keys, and among the first ones
  place_more : (more : List ℕ) (k : ℕ) → key_place keys k < length keys → key_place (keys ++ more) k ≡ key_place keys k
  place_more more k lt =
      position_or_len_is (nat_eq k) (keys ++ more) (key_place keys k) 0 (omega (arith, length-append keys more))
      (λ j below. ap (nat_eq k) (get_or_append_left keys more 0 j (omega arith)) ∙ fails_before_first (nat_eq k) keys j 0 below)
      (λ _. ap (nat_eq k) (get_or_append_left keys more 0 (key_place keys k) lt) ∙ passes_at_first (nat_eq k) keys 0 lt)

  place_first : (n k : ℕ) → key_place keys k < n → key_place keys k < length keys → key_place (take n keys) k ≡ key_place keys k
  place_first n k below lt =
      position_or_len_is (nat_eq k) (take n keys) (key_place keys k) 0 (omega (arith, length-take n keys))
      (λ j less. ap (nat_eq k) (get_or-take n keys j 0 (omega arith)) ∙ fails_before_first (nat_eq k) keys j 0 less)
      (λ _. ap (nat_eq k) (get_or-take n keys (key_place keys k) 0 below) ∙ passes_at_first (nat_eq k) keys 0 lt)

-- a text that isn't found at any attempt isn't there
pub missing : (texts : List (List ℕ)) (keys t : List ℕ) (n : ℕ) → AreKeyed texts keys → ((m : ℕ) → m < n → IsOthers texts keys t m) → length keys ≤ key_place keys (key_at t n)
    → (i : ℕ) → i < length texts → get_or texts i [] ≡ t → ⊥
missing texts keys t n h passed free i lt e =
    let own = h.keyed i lt in
    let count = h.count in
    let key : get_or keys i 0 ≡ key_at t own.attempt = own.key ∙ ap (λ u. key_at u own.attempt) e in
    let place : key_place keys (key_at t own.attempt) ≡ i = place_there keys h.unique i (key_at t own.attempt) (omega arith) key in
    elim (cases_order own.attempt n) [
      | inl same ↦ absurd (omega (arith, place, ap (λ a. key_place keys (key_at t a)) same, free, lt, count))
      | inr (inl before) ↦ (passed own.attempt before).1 (ap (λ p. get_or texts p []) place ∙ e)
      | inr (inr after) ↦ absurd (omega (arith, own.taken n after, ap (λ u. key_place keys (key_at u n)) e, free, lt, count))
    ]

-- one more attempt, at which another text was found
pub others_more : (texts : List (List ℕ)) (keys t found : List ℕ) (n place : ℕ) → ((m : ℕ) → m < n → IsOthers texts keys t m) → key_place keys (key_at t n) ≡ place → place < length keys → found ≡ get_or texts place [] → bytes_eq found t ≡ false → (m : ℕ) → m < n + 1 → IsOthers texts keys t m
others_more texts keys t found n place passed at inside is differs =
    below_more (IsOthers texts keys t) n passed
    (omega (arith, at, inside), (λ same. both_ways _ differs ((bytes_eq-Decides _ _).1 (is ∙ ap (λ p. get_or texts p []) (sym at) ∙ same))))

keys_differ : (h i j : ℕ) → i < 2 ^ 64 → j < 2 ^ 64 → (h + i) % 2 ^ 64 ≡ (h + j) % 2 ^ 64 → i ≡ j
keys_differ h i j a b e = omega arith

-- other texts have no more keys than there are
pub full : (texts : List (List ℕ)) (keys t : List ℕ) (m : ℕ) → m ≤ 2 ^ 64 → ((n : ℕ) → n < m → IsOthers texts keys t n) → m ≤ length keys
full texts keys t m small passed =
    let there : (n : ℕ) → n < m → get_or keys (key_place keys (key_at t n)) 0 ≡ key_at t n = λ n lt. key_there keys (key_at t n) (passed n lt).0 in
    pigeonhole m (length keys) (λ n. key_place keys (key_at t n))
    (λ n lt. (passed n lt).0)
    (λ i j li lj e. keys_differ (text_hash t) i j (omega arith) (omega arith) (sym (there i li) ∙ ap (λ p. get_or keys p 0) e ∙ there j lj))

-- a place among one more is one of those before, or the last
split : (i n : ℕ) → i < n + 1 → (i < n) ⊎ (i ≡ n)
split i n lt = elim (cases_order i n) [
  | inl same ↦ inr same
  | inr (inl before) ↦ inl before
  | inr (inr after) ↦ absurd (omega arith)
]

at_end : (texts : List (List ℕ)) (t : List ℕ) → get_or (texts ++ t ∷ []) (length texts) [] ≡ t
at_end texts t = get_or-append_seam texts t [] []

distinct_more : (texts : List (List ℕ)) (t : List ℕ) → AreDistinct texts → ((i : ℕ) → i < length texts → get_or texts i [] ≡ t → ⊥) → AreDistinct (texts ++ t ∷ [])
distinct_more texts t distinct absent i j hi hj same =
    let size : length (texts ++ t ∷ []) ≡ length texts + 1 = length-append texts (t ∷ []) in
    elim (split i (length texts) (omega arith)) [
      | inl li ↦ elim (split j (length texts) (omega arith)) [
        | inl lj ↦ distinct i j li lj (sym (get_or_append_left texts (t ∷ []) [] i li) ∙ same ∙ get_or_append_left texts (t ∷ []) [] j lj)
        | inr ej ↦ absurd (absent i li (sym (get_or_append_left texts (t ∷ []) [] i li) ∙ same ∙ ap (λ p. get_or (texts ++ t ∷ []) p []) ej ∙ at_end texts t))
      ]
      | inr ei ↦ elim (split j (length texts) (omega arith)) [
        | inl lj ↦ absurd (absent j lj (sym (get_or_append_left texts (t ∷ []) [] j lj) ∙ sym same ∙ ap (λ p. get_or (texts ++ t ∷ []) p []) ei ∙ at_end texts t))
        | inr ej ↦ ei ∙ sym ej
      ]
    ]

-- one more text
own_more : (texts : List (List ℕ)) (keys t : List ℕ) (k i : ℕ) → AreKeyed texts keys → i < length texts → IsKeyed (texts ++ t ∷ []) (keys ++ k ∷ []) i
own_more texts keys t k i h lt =
    let own = h.keyed i lt in
    let count = h.count in
    let inside : i < length keys = omega arith in
    let text : get_or (texts ++ t ∷ []) i [] ≡ get_or texts i [] = get_or_append_left texts (t ∷ []) [] i lt in
    record {
      attempt = own.attempt;
      key = get_or_append_left keys (k ∷ []) 0 i inside ∙ own.key ∙ ap (λ u. key_at u own.attempt) (sym text);
      taken = λ n below.
          let before = own.taken n below in
          let place : key_place (keys ++ k ∷ []) (key_at (get_or texts i []) n) ≡ key_place keys (key_at (get_or texts i []) n) = place_more keys (k ∷ []) (key_at (get_or texts i []) n) (omega arith) in
          let moved : key_place (keys ++ k ∷ []) (key_at (get_or (texts ++ t ∷ []) i []) n) ≡ key_place keys (key_at (get_or texts i []) n) = ap (λ u. key_place (keys ++ k ∷ []) (key_at u n)) text ∙ place in
          omega (arith, moved);
    }

own_last : (texts : List (List ℕ)) (keys t : List ℕ) (k : ℕ) → length keys ≡ length texts → IsFree texts keys t k → IsKeyed (texts ++ t ∷ []) (keys ++ k ∷ []) (length texts)
own_last texts keys t k count free =
    let last : get_or (keys ++ k ∷ []) (length texts) 0 ≡ k = ap (λ n. get_or (keys ++ k ∷ []) n 0) (sym count) ∙ get_or-append_seam keys k [] 0 in
    let text = at_end texts t in
    record {
      attempt = free.attempt;
      key = last ∙ free.at_attempt ∙ ap (λ u. key_at u free.attempt) (sym text);
      taken = λ n below.
          let before = free.taken n below in
          let moved : key_place (keys ++ k ∷ []) (key_at (get_or (texts ++ t ∷ []) (length texts) []) n) ≡ key_place keys (key_at t n) = ap (λ u. key_place (keys ++ k ∷ []) (key_at u n)) text ∙ place_more keys (k ∷ []) (key_at t n) before in
          omega (arith, moved);
    }

pub keyed_more : (texts : List (List ℕ)) (keys t : List ℕ) (k : ℕ) → AreKeyed texts keys → IsFree texts keys t k → IsDistinct nat_eq (keys ++ k ∷ []) → AreKeyed (texts ++ t ∷ []) (keys ++ k ∷ [])
keyed_more texts keys t k h free unique =
    let count = h.count in
    let long = length-append texts (t ∷ []) in
    record {
      count = omega (arith, length-append keys (k ∷ []));
      unique = unique;
      distinct = distinct_more texts t h.distinct free.absent;
      keyed = λ i lt. elim (split i (length texts) (omega arith)) [
        | inl before ↦ own_more texts keys t k i h before
        | inr last ↦ subst (IsKeyed (texts ++ t ∷ []) (keys ++ k ∷ [])) (sym last) (own_last texts keys t k count free)
      ];
    }

-- the first texts
own_first : (texts : List (List ℕ)) (keys : List ℕ) (n i : ℕ) → AreKeyed texts keys → i < n → i < length texts → IsKeyed (take n texts) (take n keys) i
own_first texts keys n i h below lt =
    let own = h.keyed i lt in
    let count = h.count in
    let text : get_or (take n texts) i [] ≡ get_or texts i [] = get_or-take n texts i [] below in
    record {
      attempt = own.attempt;
      key = get_or-take n keys i 0 below ∙ own.key ∙ ap (λ u. key_at u own.attempt) (sym text);
      taken = λ m less.
          let before = own.taken m less in
          let moved : key_place (take n keys) (key_at (get_or (take n texts) i []) m) ≡ key_place keys (key_at (get_or texts i []) m) = ap (λ u. key_place (take n keys) (key_at u m)) text ∙ place_first keys n (key_at (get_or texts i []) m) (omega arith) (omega arith) in
          omega (arith, moved);
    }

pub keyed_first : (texts : List (List ℕ)) (keys : List ℕ) (n : ℕ) → AreKeyed texts keys → IsDistinct nat_eq (take n keys) → AreKeyed (take n texts) (take n keys)
keyed_first texts keys n h unique =
    let count = h.count in
    let fewer = length-take n texts in
    record {
      count = omega (arith, length-take n keys);
      unique = unique;
      distinct = λ i j hi hj same. h.distinct i j (omega arith) (omega arith) (sym (get_or-take n texts i [] (omega arith)) ∙ same ∙ get_or-take n texts j [] (omega arith));
      keyed = λ i lt. own_first texts keys n i h (omega arith) (omega arith);
    }

-- a text that is there
pub number_there : (texts : List (List ℕ)) (t : List ℕ) (i : ℕ) → AreDistinct texts → i < length texts → get_or texts i [] ≡ t → (with_text texts t ≡ texts) × (number_of texts t ≡ i)
number_there texts t i distinct lt e =
    let here : bytes_eq t (get_or texts i []) ≡ true = (bytes_eq-Decides _ _).1 (sym e) in (
      ap (λ b. cond b texts (texts ++ t ∷ [])) (list_any_at (bytes_eq t) texts i [] lt here),
      position_or_len_is (bytes_eq t) texts i [] (omega arith)
          (λ j below. false_unless _ (λ same. absurd (omega (arith, below, distinct j i (omega arith) lt (sym ((bytes_eq-Decides _ _).0 same) ∙ sym e)))))
          (λ _. here),
    )

none_any : {X : Type 0} (p : X → Bool) (d : X) (xs : List X) → ((i : ℕ) → i < length xs → p (get_or xs i d) ≡ false) → list_any p xs ≡ false
none_any p d [] h = refl
none_any p d (x ∷ xs) h =
    let here : p x ≡ false = h 0 (omega arith) in
    rw (here, none_any p d xs (λ i lt. h (suc i) (omega arith))) refl

-- a text that isn't there
pub number_new : (texts : List (List ℕ)) (t : List ℕ) → ((i : ℕ) → i < length texts → get_or texts i [] ≡ t → ⊥) → (with_text texts t ≡ texts ++ t ∷ []) × (number_of texts t ≡ length texts)
number_new texts t absent =
    let none : (i : ℕ) → i < length texts → bytes_eq t (get_or texts i []) ≡ false = λ i lt. false_unless _ (λ same. absent i lt (sym ((bytes_eq-Decides _ _).0 same))) in (
      ap (λ b. cond b texts (texts ++ t ∷ [])) (none_any (bytes_eq t) [] texts none),
      position_or_len_is (bytes_eq t) texts (length texts) [] (omega arith) none (λ lt. absurd (omega arith)),
    )
