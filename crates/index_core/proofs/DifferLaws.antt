-- Labels of which none stands twice.
use Rattle.{
  meaning_pick.{proofs.cells.Common.{rules, ◌≡◌, refl, arith, ℕ, zero, suc, ◌+◌, ◌<◌, Bool, true, false, not, ◌||◌, List, [], ◌∷◌, length, drop, slice_index_or, map, drop_more, list_any-append, list_any, range_with_len, Label}, specs.Labels.{all_differ}},
  indexmap.specs.IndexSet.{insert_key},
  index_core.{specs.{Labels.{same_number}, Ranges.{number_label, range_labels}}, proofs.NumberLaws.{label_decides, not_same}},
}

-- one label more among the keys of a set
among : (q h : Label) (keys : List Label) → list_any (same_number h) keys ≡ true → same_number q h ≡ true → list_any (same_number q) keys ≡ true
among = grind (arith, label_decides)

key_more : (q h : Label) (keys : List Label) → list_any (same_number q) (insert_key same_number keys h) ≡ (same_number q h || list_any (same_number q) keys)
key_more = grind (arith, among, list_any-append)

-- the labels from a place on are the keys so far
abbrev pub AreKeys : List Label → List Label → Type 0
AreKeys keys labels = (q : Label) → list_any (same_number q) keys ≡ list_any (same_number q) labels

pub keys_more : (labels keys keys' : List Label) (p : ℕ) (d : Label) → p < length labels → AreKeys keys (drop (p + 1) labels) → keys' ≡ insert_key same_number keys (slice_index_or labels p d) → AreKeys keys' (drop p labels)
keys_more = grind (arith, key_more, drop_more)

-- labels of which the later ones don't differ don't differ
later_twice : {X : Type 0} (same : X → X → Bool) (p : ℕ) (xs : List X) → all_differ same (drop p xs) ≡ false → all_differ same xs ≡ false
later_twice _ zero _ e = e
later_twice _ (suc p) [] e = e
later_twice same (suc p) (x ∷ xs) e = grind (arith, later_twice same p xs e)

pub stands_twice : (labels keys : List Label) (p : ℕ) (d : Label) → p < length labels → AreKeys keys (drop (p + 1) labels) → not (list_any (same_number (slice_index_or labels p d)) keys) ≡ false
    → all_differ same_number labels ≡ false
stands_twice labels _ p d lt so_far again = later_twice _ p labels (grind (arith, drop_more))

-- the numbers of a range differ
later_numbers : (k a n : ℕ) → k < a → list_any (same_number (number_label k)) (map number_label (range_with_len a n)) ≡ false
later_numbers k a zero _ = refl
later_numbers k a (suc n) lt = grind (arith, not_same, label_decides, later_numbers k (a + 1) n (omega arith))

numbers_differ : (a n : ℕ) → all_differ same_number (map number_label (range_with_len a n)) ≡ true
numbers_differ a zero = refl
numbers_differ a (suc n) = grind (arith, later_numbers, numbers_differ (a + 1) n)

pub range_differs : (n : ℕ) → all_differ same_number (range_labels n) ≡ true
range_differs n = numbers_differ 0 n
