-- The labels of a header all differ.
use Rattle.{
  meaning_tables.proofs.cells.Common.{rules, ◌≡◌, ℕ, zero, suc, ◌+◌, ◌-◌, ◌<◌, ◌≤◌, ◌^◌, Bool, true, false, not, ◌||◌, if◌then◌else◌, List, [], ◌∷◌, ◌++◌, length, map, refl, sym, ap, ◌∙◌, arith, inl, inr, length-append, cases_eq, decimal_injective, length-map, get_or-range_with_len, length-range_with_len, prefix_len_passes, prefix_len-le-length, bytes_eq-Decides, drop-append_seam, ◌⊎◌, decimal, codes, slice_index_or, list_any, position_or_len, range_with_len, AllByRecursion, with_text, Text, same_text},
  std.{specs.{List.{IsDistinct}, Cmp.Lexicographic.{nat_list_eq_equiv}}, proofs.lemmas.{Bool.{false_from_ne_true}, List.Sums.{prefix_len_stops}, Map.Made.{length-le_from_is_member}}},
  meaning_csv.specs.CsvRead.{with_number, is_free, free_label, next_label, labels_after, with_texts, different_labels},
}

abbrev pub has : List Text → Text → Bool
has texts t = list_any (same_text t) texts

pub same : (a b : Text) → same_text a b ≡ true → a ≡ b
same a b e = (bytes_eq-Decides a b).0 e

alike : (a : Text) → same_text a a ≡ true
alike a = (bytes_eq-Decides a a).1 refl

apart : (a b : Text) → (a ≡ b → ⊥) → same_text a b ≡ false
apart = search (false_from_ne_true, same)

both : {P : Type 0} (b : Bool) → b ≡ true → b ≡ false → P
both = grind arith

pub true-not : (b : Bool) → not b ≡ false → b ≡ true
true-not = grind arith

-- labels with numbers

label-apart : (label : Text) (k : ℕ) → same_text label (with_number label k) ≡ false
label-apart label k = apart label (with_number label k) (λ e. absurd (omega (arith, (ap length e ∙ length-append label (codes "." ++ decimal k)), length-append (codes ".") (decimal k))))

abbrev others : Text → Text
others [] = []
others (b ∷ bs) = bs

numbers-apart : (label : Text) (k n : ℕ) → k < n → n < 2 ^ 64 → same_text (with_number label k) (with_number label n) ≡ false
numbers-apart label k n lt small = apart (with_number label k) (with_number label n) (λ e.
    let ends : codes "." ++ decimal k ≡ codes "." ++ decimal n = cc (drop-append_seam label (codes "." ++ decimal k), e, drop-append_seam label (codes "." ++ decimal n)) in
    let one : k ≡ n = grind (arith, decimal_injective) in
    absurd (omega arith))

abbrev candidates : Text → ℕ → ℕ → List Text
candidates label a m = map (with_number label) (range_with_len a m)

apart-after : (label : Text) (k a m : ℕ) → k < a → a + m ≤ 2 ^ 64 → AllByRecursion (λ t. same_text (with_number label k) t ≡ false) (candidates label a m)
apart-after _ k a zero _ _ = tt
apart-after label k a (suc m) lt small = grind (arith, numbers-apart, apart-after label k (a + 1) m (omega arith) (omega arith))

distinct-candidates : (label : Text) (a m : ℕ) → a + m ≤ 2 ^ 64 → IsDistinct same_text (candidates label a m)
unfolding IsDistinct
distinct-candidates _ a zero _ = tt
distinct-candidates label a (suc m) small = (apart-after label a (a + 1) m (omega arith) (omega arith), distinct-candidates label (a + 1) m (omega arith))

label-apart-all : (label : Text) (a m : ℕ) → AllByRecursion (λ t. same_text label t ≡ false) (candidates label a m)
label-apart-all _ a zero = tt
label-apart-all label a (suc m) = (label-apart label a, label-apart-all label (a + 1) m)

distinct-all : (label : Text) (m : ℕ) → 1 + m ≤ 2 ^ 64 → IsDistinct same_text (label ∷ candidates label 1 m)
unfolding IsDistinct
distinct-all = search (label-apart-all, distinct-candidates)

-- where none is free, all are taken
taken-by : (taken : List Text) (label q : Text) (b : Bool) (rest : Bool) → same_text q label ≡ b → has taken label ≡ true → (rest ≡ true → has taken q ≡ true) → (b || rest) ≡ true → has taken q ≡ true
taken-by = search (rules, same)

all-taken : (taken : List Text) (label : Text) (a m : ℕ) → ((k : ℕ) → a ≤ k → k < a + m → is_free taken label k ≡ false) → (q : Text) → has (candidates label a m) q ≡ true → has taken q ≡ true
all-taken taken label a zero none q any = Prim.cc
all-taken taken label a (suc m) none q any = search (rules, taken-by, true-not, all-taken taken label (a + 1) m (λ k le lt. none k (omega arith) (omega arith)) q)

pub not-true : (b : Bool) → not b ≡ true → b ≡ false
not-true = grind arith

-- among labels that are too few a number is free
pub number_free : (taken : List Text) (label : Text) (m : ℕ) → has taken label ≡ true → length taken ≤ m → 1 + m ≤ 2 ^ 64 → is_free taken label (1 + position_or_len (is_free taken label) (range_with_len 1 m)) ≡ true
number_free taken label m here few small =
    let p = is_free taken label in
    let xs = range_with_len 1 m in
    let k = position_or_len p xs in
    let size = length-range_with_len 1 m in
    let most : k ≤ length xs = search prefix_len-le-length in
    elim (cases_eq k m) [
      | inl all ↦
          let none : (n : ℕ) → 1 ≤ n → n < 1 + m → p n ≡ false = λ n le lt.
          let at = get_or-range_with_len 1 m (n - 1) 0 (omega arith) in
          let is : 1 + (n - 1) ≡ n = omega arith in
          not-true (p n) (grind (arith, prefix_len_passes)) in
          let members : (q : Text) → has (label ∷ candidates label 1 m) q ≡ true → has taken q ≡ true = search (taken-by, all-taken) in
          let le = length-le_from_is_member nat_list_eq_equiv (label ∷ candidates label 1 m) taken (distinct-all label m small) members in
          absurd (omega (arith, le, length-map xs (with_number label), size, few))
      | inr less ↦
          let lt : k < m = omega (arith, most, size, less) in
          let stops = prefix_len_stops (λ n. not (p n)) xs 0 (omega (arith, lt, size)) in
          ap p (sym (get_or-range_with_len 1 m k 0 lt)) ∙ true-not (p (slice_index_or xs k 0)) stops
    ]

-- the labels of the rest that get a number
abbrev pub repeats : List Text → List Text → ℕ
repeats before [] = 0
repeats before (l ∷ ls) = (if has before l then 1 else 0) + repeats (with_text before l) ls

-- what is had stays so
more-had : (texts : List Text) (t q : Text) → has texts q ≡ true → has (texts ++ t ∷ []) q ≡ true
more-had [] t q any = Prim.cc
more-had (u ∷ us) t q any = grind (arith, more-had us t q)

still-had : (texts : List Text) (t q : Text) → has texts q ≡ true → has (with_text texts t) q ≡ true
still-had = grind (arith, more-had)

last-had : (texts : List Text) (t : Text) → has (texts ++ t ∷ []) t ≡ true
last-had [] t = search alike
last-had (u ∷ us) t = grind (arith, last-had us t)

-- the labels so far, and those to come
pub record IsFair (columns : ℕ) (before taken labels : List Text) : Type 0 where
  pub count : length taken + repeats before labels ≤ columns
  pub header : AllByRecursion (λ l. has taken l ≡ true) labels

-- a label that gets a number, and one that gets none
record IsNumbered (taken : List Text) (label next : Text) : Type 0 where
  free : has taken next ≡ false
  size : length (with_text taken next) ≡ length taken + 1

all-still : (taken labels : List Text) (t : Text) → AllByRecursion (λ l. has taken l ≡ true) labels → AllByRecursion (λ l. has (with_text taken t) l ≡ true) labels
all-still _ [] t h = tt
all-still taken (l ∷ ls) t h = (still-had taken t l h.0, all-still taken ls t h.1)

-- the next label, by whether it stood before
abbrev chosen : ℕ → List Text → Text → Bool → Text
chosen columns taken label b = if b then free_label columns taken label else label

module _ (columns : ℕ) (small : columns < 2 ^ 64) where
  pub numbered-free : (before taken : List Text) (label : Text) (labels : List Text) → IsFair columns before taken (label ∷ labels) → has before label ≡ true → has taken (free_label columns taken label) ≡ false
  numbered-free before taken label labels fair old =
      let one : repeats before (label ∷ labels) ≡ 1 + repeats (with_text before label) labels = cc in
      let few : length taken ≤ columns - 1 = omega (arith, fair.count, one) in
      let free = number_free taken label (columns - 1) fair.header.0 few (omega (arith, small, fair.count, one)) in
      search not-true

  -- after the next label all is as it should be
  pub fair-after : (before taken : List Text) (label : Text) (labels : List Text) → IsFair columns before taken (label ∷ labels) → IsFair columns (with_text before label) (with_text taken (next_label columns before taken label)) labels
  fair-after = grind (arith, length-append, numbered-free, all-still)

  -- a label that is taken isn't given again
  not-again : (x : Text) (before taken labels : List Text) → IsFair columns before taken labels → has taken x ≡ true → (has before x ≡ true) ⊎ AllByRecursion (λ l. same_text x l ≡ false) labels
      → AllByRecursion (λ y. same_text x y ≡ false) (labels_after columns before taken labels)
  not-again x _ _ [] _ _ _ = tt
  not-again x before taken (label ∷ labels) fair here old = grind (arith, fair-after, still-had, apart, both, numbered-free, not-again x (with_text before label) (with_text taken (next_label columns before taken label)) labels (fair-after before taken label labels fair) (still-had taken (next_label columns before taken label) x here))

  given-apart : (y : Text) (taken labels : List Text) → has taken y ≡ false → AllByRecursion (λ l. has taken l ≡ true) labels → AllByRecursion (λ l. same_text y l ≡ false) labels
  given-apart y _ [] _ h = tt
  given-apart y taken (l ∷ ls) free h = grind (arith, apart, both, given-apart y taken ls free h.1)

  distinct-after : (before taken labels : List Text) → IsFair columns before taken labels → IsDistinct same_text (labels_after columns before taken labels)
  unfolding IsDistinct
  distinct-after _ _ [] _ = tt
  distinct-after before taken (label ∷ labels) fair =
      (grind (arith, not-again, fair-after, last-had, by, distinct-after (with_text before label) (with_text taken (next_label columns before taken label)) labels (fair-after before taken label labels fair)))
    where
      by : (b : Bool) → has before label ≡ b → (has (with_text before label) (chosen columns taken label b) ≡ true) ⊎ AllByRecursion (λ l. same_text (chosen columns taken label b) l ≡ false) labels
      by true old = inr (given-apart (free_label columns taken label) taken labels (numbered-free before taken label labels fair old) fair.header.1)
      by false new = inl (grind (arith, last-had))

-- the labels of the header are taken, and no more than there are columns
pub count-texts : (texts labels : List Text) → length (with_texts texts labels) + repeats texts labels ≡ length texts + length labels
count-texts _ [] = refl
count-texts texts (l ∷ ls) = grind (arith, length-append, count-texts (with_text texts l) ls)

texts-had : (texts labels : List Text) (q : Text) → has texts q ≡ true → has (with_texts texts labels) q ≡ true
texts-had _ [] q h = h
texts-had texts (l ∷ ls) q h = texts-had (with_text texts l) ls q (still-had texts l q h)

pub header-had : (texts labels : List Text) → AllByRecursion (λ l. has (with_texts texts labels) l ≡ true) labels
header-had _ [] = tt
header-had texts (l ∷ ls) = grind (arith, texts-had, last-had, header-had (with_text texts l) ls)

pub labels_differ : (labels : List Text) → length labels < 2 ^ 64 → IsDistinct same_text (different_labels labels)
labels_differ labels small = distinct-after (length labels) small [] (with_texts [] labels) labels record { count = omega (arith, count-texts [] labels); header = header-had [] labels }
