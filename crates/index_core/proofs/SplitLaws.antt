-- Lists in order that are split at a bound.
use Rattle.{
  meaning_pick.{proofs.{cells.Common.{◌≡◌, ap, sym, subst, refl, arith, ℕ, zero, suc, ◌+◌, ◌-◌, ◌<◌, ◌≤◌, Bool, true, false, not, ◌&&◌, List, length, slice_index_or, Option, Ok, if◌then◌else◌, ranks_by, IsTotalOrder, is_lt, is_gt, Ordering, label_datum, Label, Rows, label_total, Text}, OrderLaws.{sorted_in_order, below_too, within_too, not_so}, RowLaws.{rows_in_interval}}, specs.{Rows.{rows_of, rows_between}, Slices.{is_in_order, reaches, stays_within, sorted_slice, unsorted_slice, label_slice}}},
  std.{proofs.lemmas.{Cmp.{on_total}, List.Sorted.{sorted_far}}, specs.List.Sorted.{IsPartitionedBy}},
  index_core.{specs.{Labels.{order_in}, Ranges.{range_labels}, Splits.{IsSplitAt, BeginsAt, EndsAt}}, proofs.NumberLaws.{range_in_order}},
}

pub order_total : (texts : List Text) → IsTotalOrder (order_in texts)
order_total texts = on_total (label_datum texts) label_total

-- labels in order: no later one is less
no_later_less : (texts : List Text) (labels : List Label) → is_in_order (order_in texts) labels ≡ true → (i j : ℕ) (d : Label) → i ≤ j → j < length labels → is_lt (order_in texts (slice_index_or labels j d) (slice_index_or labels i d)) ≡ false
no_later_less texts labels e = sorted_far (λ x y. is_lt (order_in texts x y)) (ranks_by label_total (label_datum texts)) labels (search sorted_in_order)

-- what a search by halving asks for
pub below_first : (texts : List Text) (labels : List Label) (bound : Label) → is_in_order (order_in texts) labels ≡ true → IsPartitionedBy (λ label. is_lt (order_in texts label bound)) labels
below_first _ labels _ e = λ i j d le lt below.
    below_too (order_total _) (slice_index_or labels i d) _ _ (search no_later_less) below

pub within_first : (texts : List Text) (labels : List Label) (bound : Label) → is_in_order (order_in texts) labels ≡ true → IsPartitionedBy (λ label. not (is_gt (order_in texts label bound))) labels
within_first _ labels _ e = λ i j d le lt within.
    ap not (within_too (order_total _) (slice_index_or labels i d) (slice_index_or labels j d) _ (search no_later_less) (search not_so))

-- the rows of a slice
pub rows_of_splits : {X : Type 0} (cmp : X → X → Ordering) (d : X) (lower upper : Option X) (xs : List X) (first end : ℕ)
    → IsSplitAt (reaches cmp lower) xs first → IsSplitAt (λ x. not (stays_within cmp upper x)) xs end
    → rows_between first end ≡ sorted_slice cmp lower upper xs
rows_of_splits {X} cmp d lower upper xs first end from to =
    let p : X → Bool = λ x. reaches cmp lower x && stays_within cmp upper x in
    let start : 0 + first ≡ first = omega arith in
    sym (cc (rows_in_interval p d 0 first end xs to.within (λ k lt inside. grind arith) (λ k le lt. grind (arith, from.behind k d, to.before k d)) (λ k le lt. grind (arith, to.behind k d le lt))))

-- a test that goes on from each element to the next goes on to all behind
goes_on : {X : Type 0} (p : X → Bool) (xs : List X) → ((k : ℕ) (d : X) → k + 1 < length xs → p (slice_index_or xs k d) ≡ true → p (slice_index_or xs (k + 1) d) ≡ true)
    → (i n : ℕ) (d : X) → i + n < length xs → p (slice_index_or xs i d) ≡ true → p (slice_index_or xs (i + n) d) ≡ true
goes_on p xs next i zero d lt here = grind arith
goes_on p xs next i (suc n) d lt here =
    let same : i + n + 1 ≡ i + suc n = omega arith in
    cc (next (i + n) d (omega arith) (goes_on p xs next i n d (omega arith) here))

-- so the first that passes splits the list
pub split_at_first : {X : Type 0} (p : X → Bool) (xs : List X) (place : ℕ) → ((k : ℕ) (d : X) → k + 1 < length xs → p (slice_index_or xs k d) ≡ true → p (slice_index_or xs (k + 1) d) ≡ true)
    → place ≤ length xs → ((k : ℕ) → k < place → (d : X) → p (slice_index_or xs k d) ≡ false) → ((d : X) → place < length xs → p (slice_index_or xs place d) ≡ true) → IsSplitAt p xs place
split_at_first p xs place next few before here = record {
  within = few;
  before = search;
  behind = λ k d le lt.
      let far : place + (k - place) ≡ k = omega arith in
      let inside : place + (k - place) < length xs = omega arith in
      subst (λ m. p (slice_index_or xs m d) ≡ true) far (goes_on p xs next place _ d inside (here d (omega arith)));
}

-- a slice of labels in order, and of a range
pub slice_in_order : (texts : List Text) (lower upper : Option Label) (labels : List Label) (first end : ℕ) (rows : Rows) → is_in_order (order_in texts) labels ≡ true → rows_of rows ≡ rows_between first end
    → BeginsAt texts lower labels first → EndsAt texts upper labels end → label_slice (order_in texts) lower upper labels ≡ Ok (rows_of rows)
slice_in_order = grind (arith, rows_of_splits)

pub slice_of_range : (texts : List Text) (lower upper : Option Label) (n : ℕ) (labels : List Label) (rows : Rows) → range_labels n ≡ labels → rows_of rows ≡ sorted_slice (order_in texts) lower upper (range_labels n)
    → label_slice (order_in texts) lower upper labels ≡ Ok (rows_of rows)
slice_of_range texts lower upper n _ _ view is = grind (arith, range_in_order texts n)
