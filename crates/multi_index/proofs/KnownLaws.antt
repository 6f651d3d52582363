-- The labels of a level, and those that it has.
use Rattle.{
  index_core.{proofs.{cells.Common.{◌≡◌, ◌∙◌, sym, ◌+◌, ◌<◌, ◌++◌, ◌∷◌, [], ℕ, zero, suc, ℤ, pos, false≢true, nat_tests, append-nil, list_any_none, range_with_len, All-head, All-tail, TextId, Bool, true, false, List, refl, arith, ap, length, map, take, filter, filter_more, slice_get, slice_index_or, slice_get-get_or, slice_get_within, get_or_from_slice_get, Option, Some, None, All, All-map, list_any, list_any_at, position, position_or_len, passes_at_first, filter_passes, unsigned_abs, ranks_by, label_total, Label, Text, IsStrictWeakOrder, distinct}, NumberLaws.{label_decides, number_at}, RangeLaws.{length-range_labels}}, specs.{Labels.{same_number, labels_at}, Ranges.{number_label, range_labels}}},
  indexmap.specs.IndexSet.{insert_key},
  cell_core.specs.{Values.{label_datum}, declared.cell.Label.TheVariants.{Na, Int, Bool as Truth, Text as Named}, contracts.cell.LabelEq.TheImpl.Laws.{laws-law}},
  std.proofs.lemmas.{List.{Quantifiers.{position-Some}, Sorted.{All-permutation}}},
  sorting.proofs.SortLaws.{in_order_permutes},
  multi_index.{specs.Levels.{IsPresent, IsKnown, IsCodeOf, IsCodeBelow, is_present, label_less, label_of, level_labels, seen_labels}, proofs.{SeenLaws.{seen_has}, DistinctLaws.{position_in, distinct_push, distinct_has, all_distinct, in_order_has}}},
}

-- the order of labels
pub label_weak : (texts : List Text) → IsStrictWeakOrder (label_less texts)
label_weak texts = ranks_by label_total (label_datum texts)

-- one more row
inserted : (seen : List Label) (l : Label) → insert_key same_number (distinct same_number seen) l ≡ distinct same_number (seen ++ l ∷ [])
inserted seen l = grind (arith, distinct_push same_number seen l, distinct_has same_number laws-law l seen, append-nil)

pub more_present : (seen seen' rows : List Label) (k : ℕ) (l d : Label) → k < length rows → slice_index_or rows k d ≡ l → is_present l ≡ true → seen ≡ seen_labels (take k rows)
    → seen' ≡ insert_key same_number seen l → seen' ≡ seen_labels (take (k + 1) rows)
more_present seen seen' rows k l d lt here present was grown =
    rw (filter_more is_present rows k d lt, here, present) (grown ∙ ap (λ s. insert_key same_number s l) was ∙ inserted (filter is_present (take k rows)) l)

pub more_missing : (seen seen' rows : List Label) (k : ℕ) (l d : Label) → k < length rows → slice_index_or rows k d ≡ l → is_present l ≡ false → seen ≡ seen_labels (take k rows)
    → seen' ≡ seen → seen' ≡ seen_labels (take (k + 1) rows)
more_missing seen seen' rows k l d lt here missing was kept =
    rw (filter_more is_present rows k d lt, here, missing) (kept ∙ was ∙ ap (distinct same_number) (sym (append-nil (filter is_present (take k rows)))))

-- none of the labels of a level is missing
pub all_present : (texts : List Text) (rows : List Label) → All IsPresent (level_labels texts rows)
all_present texts rows = All-permutation IsPresent _ _ (in_order_permutes _ _) (all_distinct IsPresent same_number _ (filter_passes is_present rows))

-- each row's label is one of the level's
found : (texts : List Text) (rows : List Label) (l : Label) → is_present l ≡ true → list_any (same_number l) (level_labels texts rows) ≡ list_any (same_number l) rows
found texts rows l present = in_order_has (label_less texts) (same_number l) (seen_labels rows) ∙ seen_has rows l present

known_of : (labels : List Label) (l : Label) → (is_present l ≡ true → list_any (same_number l) labels ≡ true) → IsKnown labels l
known_of labels Na _ = refl
known_of labels (Int z) h = h refl
known_of labels (Truth b) h = h refl
known_of labels (Named t) h = h refl

pub all_known : (texts : List Text) (rows : List Label) → All (IsKnown (level_labels texts rows)) rows
all_known texts rows k d lt =
    known_of (level_labels texts rows) (slice_index_or rows k d) (λ present. grind (arith, found texts rows (slice_index_or rows k d) present, list_any_at (same_number (slice_index_or rows k d)) rows k d lt, label_decides))

pub all_seen : (rows : List Label) → All (IsKnown (seen_labels rows)) rows
all_seen rows k d lt =
    known_of (seen_labels rows) (slice_index_or rows k d) (λ present. grind (arith, seen_has rows (slice_index_or rows k d) present, list_any_at (same_number (slice_index_or rows k d)) rows k d lt, label_decides))

-- what is taken of labels that are known is known
known_kept : (labels rows : List Label) (place : ℕ) → All (IsKnown labels) rows → IsKnown labels (slice_index_or rows place Na)
known_kept labels [] place all = refl
known_kept labels (l ∷ rows) zero all = All-head (IsKnown labels) l rows all
known_kept labels (l ∷ rows) (suc place) all = known_kept labels rows place (All-tail (IsKnown labels) l rows all)

pub known_taken : (labels rows : List Label) (places : List ℕ) → All (IsKnown labels) rows → All (IsKnown labels) (labels_at rows places)
known_taken labels rows places all = All-map (IsKnown labels) (λ place. slice_index_or rows place Na) places (λ k d lt. known_kept labels rows _ all)

-- the label of a code is one of the level's
pub known_at : (labels : List Label) (code : ℕ) (l : Label) → slice_get labels code ≡ Some l → IsKnown labels l
known_at labels code l at = known_of labels l (λ present. grind (arith, label_decides, list_any_at (same_number l) labels code l, slice_get_within, get_or_from_slice_get))

pub known_by_code : (labels : List Label) (code : Option ℕ) → IsCodeBelow (length labels) code → IsKnown labels (label_of labels code)
known_by_code labels None _ = refl
known_by_code labels (Some code) below = known_at labels code _ (slice_get-get_or labels code Na below)

pub code_tells : (labels : List Label) (code : Option ℕ) → IsCodeBelow (length labels) code → IsCodeOf labels (label_of labels code) code
code_tells labels None _ = refl
code_tells labels (Some code) below = slice_get-get_or labels code Na below

pub all_known_by_code : (labels : List Label) (codes : List (Option ℕ)) → All (IsCodeBelow (length labels)) codes → All (IsKnown labels) (map (label_of labels) codes)
all_known_by_code labels codes below = All-map (IsKnown labels) (label_of labels) codes (λ k d lt. known_by_code labels _ (below k d lt))

-- the place of a label in a list
not_none : (p : Label → Bool) (labels : List Label) → list_any p labels ≡ true → None ≡ position p labels → ⊥
not_none = grind (arith, position_in, nat_tests)

absent : (labels : List Label) (l : Label) → None ≡ position (same_number l) labels → IsKnown labels l → l ≡ Na
absent labels Na is known = refl
absent labels (Int z) is known = absurd (not_none (same_number (Int z)) labels known is)
absent labels (Truth b) is known = absurd (not_none (same_number (Truth b)) labels known is)
absent labels (Named t) is known = absurd (not_none (same_number (Named t)) labels known is)

place_is_code : (labels : List Label) (l : Label) (code : ℕ) → position (same_number l) labels ≡ Some code → slice_get labels code ≡ Some l
place_is_code labels l code at =
    let there = position-Some (same_number l) labels code Na at in
    let same : l ≡ slice_index_or labels code Na = (label_decides l (slice_index_or labels code Na)).0 there.1 in
    slice_get-get_or labels code Na there.0 ∙ ap Some (sym same)

pub place_tells : (labels : List Label) (l : Label) (code : Option ℕ) → code ≡ position (same_number l) labels → IsKnown labels l → IsCodeOf labels l code
place_tells labels l None is known = absent labels l is known
place_tells labels l (Some code) is known = place_is_code labels l code (sym is)

-- the code of a number of a range
none_known : (n : ℕ) (p : Label → Bool) → ((k : ℕ) → p (number_label k) ≡ false) → list_any p (range_labels n) ≡ true → ⊥
none_known n p none any = false≢true (sym (list_any_none p (range_labels n) (All-map (λ l. p l ≡ false) number_label (range_with_len 0 n) (λ k d lt. none _))) ∙ any)

number_known : (n : ℕ) (z : ℤ) → list_any (same_number (Int z)) (range_labels n) ≡ true → slice_get (range_labels n) (unsigned_abs z) ≡ Some (Int z)
number_known n z known =
    let p : Label → Bool = same_number (Int z) in
    let place = position_or_len p (range_labels n) in
    let inside : place < length (range_labels n) = position_in p (range_labels n) known in
    let there : slice_index_or (range_labels n) place Na ≡ number_label place = number_at n place Na (omega (arith, length-range_labels n)) in
    let same : Int z ≡ number_label place = (label_decides (Int z) (slice_index_or (range_labels n) place Na)).0 (passes_at_first p (range_labels n) Na inside) ∙ there in
    let is : z ≡ pos place = cc in
    rw is (slice_get-get_or (range_labels n) place Na inside ∙ ap Some there)

pub number_tells : (n : ℕ) (l : Label) (z : ℤ) → l ≡ Int z → IsKnown (range_labels n) l → slice_get (range_labels n) (unsigned_abs z) ≡ Some l
number_tells n l z is known = rw is (number_known n z (rw is at known))

pub no_truth : (n : ℕ) (l : Label) (b : Bool) → l ≡ Truth b → IsKnown (range_labels n) l → l ≡ Na
no_truth n l b is known = absurd (none_known n (same_number (Truth b)) (λ k. refl) (rw is at known))

pub no_text : (n : ℕ) (l : Label) (t : TextId) → l ≡ Named t → IsKnown (range_labels n) l → l ≡ Na
no_text n l t is known = absurd (none_known n (same_number (Named t)) (λ k. refl) (rw is at known))
