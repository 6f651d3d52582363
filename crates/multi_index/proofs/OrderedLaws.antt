-- Labels that stand in order: those that are seen are in order as well.
use Rattle.{
  index_core.{proofs.{cells.Common.{◌≡◌, ◌∙◌, ap, sym, refl, Bool, true, false, cond, List, [], ◌∷◌, filter, All, All-head, All-filter, IsStrictWeakOrder, Label, Text, distinct}, pick.OrderLaws.{sorted_in_order}}, specs.{Labels.{same_number, order_in}, pick.Slices.{is_in_order}}},
  sorting.{specs.Sorting.{put_in, in_order}, proofs.SortLaws.{Ascends, ascends}},
  multi_index.{specs.Levels.{is_present, label_less, level_labels, seen_labels}, proofs.{DistinctLaws.{all_distinct}, KnownLaws.{label_weak}}},
}

module _ {K : Type 0} (less : K → K → Bool) (weak : IsStrictWeakOrder less) where
  -- some of a list
  ascends_left : (p : K → Bool) (xs : List K) → Ascends less weak xs → Ascends less weak (filter p xs)
  ascends_left p [] up = tt
  ascends_left p (x ∷ xs) up = left (p x) (ascends_left p xs up.1)
    where
      left : (b : Bool) → Ascends less weak (filter p xs) → Ascends less weak (cond b (x ∷ filter p xs) (filter p xs))
      left true rest = (All-filter p (λ y. less y x ≡ false) xs up.0, rest)
      left false rest = rest

  ascends_distinct : (same : K → K → Bool) (xs : List K) → Ascends less weak xs → Ascends less weak (distinct same xs)
  ascends_distinct same [] up = tt
  ascends_distinct same (x ∷ xs) up =
      (All-filter _ (λ y. less y x ≡ false) (distinct same xs) (all_distinct (λ y. less y x ≡ false) same xs up.0), ascends_left _ (distinct same xs) (ascends_distinct same xs up.1))

  -- a list in order stays as it is
  first_stays : (x : K) (xs : List K) → All (λ y. less y x ≡ false) xs → put_in less x xs ≡ x ∷ xs
  first_stays x [] least = refl
  first_stays x (y ∷ ys) least = rw (All-head (λ y. less y x ≡ false) y ys least) refl

  pub order_stays : (xs : List K) → Ascends less weak xs → in_order less xs ≡ xs
  order_stays [] up = refl
  order_stays (x ∷ xs) up = ap (put_in less x) (order_stays xs up.1) ∙ first_stays x xs up.0

pub seen_in_order : (texts : List Text) (rows : List Label) → is_in_order (order_in texts) rows ≡ true → seen_labels rows ≡ level_labels texts rows
seen_in_order texts rows sorted =
    let less : Label → Label → Bool = label_less texts in
    let weak = label_weak texts in
    let up : Ascends less weak rows = ascends less weak rows (sorted_in_order (order_in texts) rows sorted) in
    sym (order_stays less weak (seen_labels rows) (ascends_distinct less weak same_number (filter is_present rows) (ascends_left less weak is_present rows up)))
