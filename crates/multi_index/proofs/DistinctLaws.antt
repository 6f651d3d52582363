-- The distinct ones of a list, in order.
use Rattle.{index_core.{proofs.{NumberLaws.{label_decides}, cells.Common.{◌≡◌, ◌<◌, Bool, true, false, false≢true, length, position_or_len, not, cond, ◌||◌, List, [], ◌∷◌, ◌++◌, refl, arith, filter, filter-append, list_any, All, All-cons, All-head, All-tail, All-filter, All-nil, IsEquivalence, Label, distinct}}, specs.{pick.Labels.{all_differ}, Labels.{same_number}}}, std.{proofs.lemmas.Map.Views.{any-filter_same}, specs.List.{IsDistinct, AllByRecursion}}, sorting.{specs.Sorting.{put_in, in_order}}}

-- the place of the first that passes
pub position_in : {K : Type 0} (p : K → Bool) (xs : List K) → list_any p xs ≡ true → position_or_len p xs < length xs
position_in p [] h = absurd (false≢true h)
position_in p (x ∷ xs) h = grind (arith, position_in p xs)

-- one more at the end
pub distinct_push : {K : Type 0} (eq : K → K → Bool) (xs : List K) (x : K) → distinct eq (xs ++ x ∷ []) ≡ distinct eq xs ++ cond (list_any (eq x) xs) [] (x ∷ [])
distinct_push _ [] x = refl
distinct_push eq (k ∷ ks) x = grind (arith, filter-append, distinct_push eq ks x)

-- the distinct ones are those of the list
pub distinct_has : {K : Type 0} (eq : K → K → Bool) (laws : IsEquivalence eq) (x : K) (xs : List K) → list_any (eq x) (distinct eq xs) ≡ list_any (eq x) xs
distinct_has eq laws x [] = refl
distinct_has eq laws x (k ∷ ks) = grind (arith, any-filter_same (eq x) (λ q. not (eq q k)) true, distinct_has eq laws x ks)

pub all_distinct : {K : Type 0} (P : K → Type 0) (eq : K → K → Bool) (xs : List K) → All P xs → All P (distinct eq xs)
all_distinct P eq [] all = All-nil P
all_distinct P eq (x ∷ xs) all = All-cons P x _ (All-head P x xs all) (All-filter _ P _ (all_distinct P eq xs (All-tail P x xs all)))

-- those in order are those of the list
module _ {K : Type 0} (less : K → K → Bool) (p : K → Bool) where
  put_in_has : (x : K) (xs : List K) → list_any p (put_in less x xs) ≡ (p x || list_any p xs)
  put_in_has x [] = refl
  put_in_has x (y ∷ ys) = grind (arith, put_in_has x ys)

  pub in_order_has : (xs : List K) → list_any p (in_order less xs) ≡ list_any p xs
  in_order_has [] = refl
  in_order_has (x ∷ xs) = grind (arith, put_in_has x, in_order_has xs)

-- labels that are distinct differ
any_left : (p q : Label → Bool) (xs : List Label) → list_any p xs ≡ false → list_any p (filter q xs) ≡ false
any_left p q [] none = refl
any_left p q (x ∷ xs) none = grind (arith, any_left p q xs)

differ_left : (q : Label → Bool) (xs : List Label) → all_differ same_number xs ≡ true → all_differ same_number (filter q xs) ≡ true
differ_left q [] all = refl
differ_left q (x ∷ xs) all = grind (arith, differ_left q xs, any_left (same_number x) q xs)

none_left : (l : Label) (xs : List Label) → list_any (same_number l) (filter (λ d. not (same_number d l)) xs) ≡ false
none_left l [] = refl
none_left l (x ∷ xs) = grind (arith, none_left l xs, label_decides)

pub distinct_differ : (xs : List Label) → all_differ same_number (distinct same_number xs) ≡ true
distinct_differ [] = refl
distinct_differ (x ∷ xs) = grind (arith, distinct_differ xs, none_left x (distinct same_number xs), differ_left (λ d. not (same_number d x)) (distinct same_number xs))

pub differ_if_distinct : (xs : List Label) → IsDistinct same_number xs → all_differ same_number xs ≡ true
unfolding IsDistinct
differ_if_distinct [] apart = refl
differ_if_distinct (x ∷ xs) apart = rw (none xs apart.0, differ_if_distinct xs apart.1) refl
  where
    none : (ys : List Label) → AllByRecursion (λ y. same_number x y ≡ false) ys → list_any (same_number x) ys ≡ false
    none [] all = refl
    none (y ∷ ys) all = rw (all.0, none ys all.1) refl
