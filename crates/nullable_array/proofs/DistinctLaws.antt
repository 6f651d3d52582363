-- The different values, seen one after another, are the different cells.
use Rattle.{
  column_core.{proofs.cells.Common.{◌≡◌, ℕ, ◌<◌, Bool, true, false, not, List, [], ◌∷◌, ◌++◌, length, map, refl, ap, sym, ◌∙◌, append_assoc, arith, Option, Some, None, Result, IfOk, fold, length-map, filter-append, same_from_decides, bytes_eq-Decides, beq, AllByRecursion, list_any, IsEquivalence, slice_cmp, is_eq, int_cmp, int_eq, bool_cmp, nat_cmp, ℤ, nat_eq, Cell, Int64, TextId, na_cell, datum, text_of, AreDistinct, AreGiven, tabulate, is_present, same_cell, distinct, distinct_count}, specs.Columns.{CellColumn, column_value, column_with, number_cell, text_cell}},
  std.{proofs.{Common.{append-nil}, lemmas.Map.Text.{is_eq-slice_cmp}}, specs.List.{filter}},
  indexmap.specs.IndexSet.{insert_key},
  cell_core.specs.declared.cell.Kind.TheVariants.{Text as string},
  nullable_array.{specs.{Folds.{folded}, Distincts.{present_values}}, proofs.FoldLaws.{values_folded, values_given, cells_present}},
}

module _ {K : Type 0} (eq : K → K → Bool) (laws : IsEquivalence eq) where
  -- a value that is unlike another is found as often without those like that
  pub found-filter : (q k : K) → eq q k ≡ false → (ks : List K) → list_any (eq q) (filter (λ d. not (eq d k)) ks) ≡ list_any (eq q) ks
  found-filter q k _ [] = refl
  found-filter q k unlike (d ∷ ks) = grind (arith, found-filter q k unlike ks)

  distinct_more : (ks : List K) (k : K) → distinct eq (ks ++ k ∷ []) ≡ insert_key eq (distinct eq ks) k
  distinct_more [] k = refl
  distinct_more (x ∷ ks) k = grind (arith, filter-append, append-nil, found-filter, distinct_more ks k)

  -- values that are inserted one after another are each value once
  pub all_seen : (seen keys : List K) → fold (insert_key eq) (distinct eq seen) keys ≡ distinct eq (seen ++ keys)
  all_seen seen [] = ap (distinct eq) (sym (append-nil seen))
  all_seen seen (k ∷ keys) = grind (arith, distinct_more, append_assoc, all_seen (seen ++ k ∷ []) keys)

  -- and so are those of rows
  pub each_value_once : (n : ℕ) (row : ℕ → Option K) → folded (insert_key eq) [] n row ≡ distinct eq (present_values (tabulate n row))
  each_value_once n row = values_folded _ [] n row ∙ all_seen [] _

pub each-filter : {T : Type 0} (P : T → Type 0) (p : T → Bool) (xs : List T) → AllByRecursion P xs → AllByRecursion P (filter p xs)
each-filter P p [] h = h
each-filter P p (x ∷ xs) (h, hs) = grind (arith, each-filter P p xs hs)

each-distinct : {T : Type 0} (P : T → Type 0) (eq : T → T → Bool) (xs : List T) → AllByRecursion P xs → AllByRecursion P (distinct eq xs)
each-distinct P _ [] h = h
each-distinct P eq (x ∷ xs) (h, hs) = (h, each-filter P _ _ (each-distinct P eq xs hs))

filter-map : {X Y : Type 0} (P : X → Type 0) (p : Y → Bool) (f : X → Y) (q : X → Bool) → ((x : X) → P x → p (f x) ≡ q x) → (xs : List X) → AllByRecursion P xs → filter p (map f xs) ≡ map f (filter q xs)
filter-map P p f q law [] h = refl
filter-map P p f q law (x ∷ xs) (h, hs) = grind (arith, filter-map P p f q law xs hs)

-- values that are told apart as their images are
distinct-map : {X Y : Type 0} (f : X → Y) (same : Y → Y → Bool) (eq : X → X → Bool) (P : X → Type 0) → ((x y : X) → P x → P y → same (f x) (f y) ≡ eq x y) → (xs : List X) → AllByRecursion P xs → distinct same (map f xs) ≡ map f (distinct eq xs)
distinct-map f _ _ P _ [] h = refl
distinct-map f same eq P law (x ∷ xs) (h, hs) = cc (distinct-map f same eq P law xs hs, filter-map P (λ d. not (same d (f x))) f (λ y. not (eq y x)) (λ y p. ap not (law y x p h)) (distinct eq xs) (each-distinct P eq xs hs))

-- an answer that is the one that is to be answered
pub if_ok_same : {E : Type 0} (r : Result ℕ E) (x y : ℕ) → IfOk r (λ n. n ≡ x) → x ≡ y → IfOk r (λ n. n ≡ y)
if_ok_same = grind arith

-- numbers and truth values are told apart as their cells are
pub numbers_apart : (x y : ℤ) → is_eq (int_cmp x y) ≡ int_eq x y
numbers_apart x y = refl

pub truths_apart : (x y : Bool) → is_eq (bool_cmp x y) ≡ beq x y
truths_apart = grind arith

-- and given texts by their numbers
pub texts_apart : (texts : List (List ℕ)) (x y : TextId) → AreDistinct texts → x.0 < length texts → y.0 < length texts → is_eq (slice_cmp nat_cmp (text_of texts x) (text_of texts y)) ≡ nat_eq x.0 y.0
texts_apart = grind (arith, is_eq-slice_cmp, same_from_decides, bytes_eq-Decides)

-- nothing is asked of any value
pub anything : {T : Type 0} (xs : List T) → AllByRecursion (λ x. Unit {0}) xs
anything [] = tt
anything (x ∷ xs) = (tt, anything xs)

-- as many different cells are present as different values
pub distinct_seen : {T : Type 0} (texts : List (List ℕ)) (cell : Option T → Cell) (missing : datum texts (cell None) ≡ na_cell) (there : (x : T) → is_present (datum texts (cell (Some x))) ≡ true) (eq : T → T → Bool) (P : T → Type 0)
    → ((x y : T) → P x → P y → same_cell (datum texts (cell (Some x))) (datum texts (cell (Some y))) ≡ eq x y) → (n : ℕ) (row : ℕ → Option T) → AllByRecursion P (present_values (tabulate n row))
    → length (distinct eq (present_values (tabulate n row))) ≡ distinct_count (map (datum texts) (tabulate n (λ k. cell (row k))))
distinct_seen texts cell missing there eq P law n row h =
    let f = λ (x : _). datum texts (cell (Some x)) in
    let xs = present_values (tabulate n row) in
    cc (cells_present texts cell missing there n row, distinct-map f same_cell eq P law xs h, length-map (distinct eq xs) f)

pub numbers_distinct : (texts : List (List ℕ)) (n : ℕ) (row : ℕ → Option ℤ) (col : CellColumn) → column_with Int64 number_cell n row ≡ col → length (distinct int_eq (present_values (tabulate n row))) ≡ distinct_count (column_value texts col).cells
numbers_distinct texts n row col is = rw (← is) (distinct_seen _ number_cell refl (λ x. refl) _ _ (λ x y p q. refl) n row (anything _))

pub texts_distinct : (texts : List (List ℕ)) (n : ℕ) (row : ℕ → Option TextId) (col : CellColumn) → column_with string text_cell n row ≡ col → AreDistinct texts → AreGiven texts col.cells → length (distinct (λ x y. nat_eq x.0 y.0) (present_values (tabulate n row))) ≡ distinct_count (column_value texts col).cells
texts_distinct texts n row col is apart given = rw (← is) (distinct_seen _ text_cell refl (λ x. refl) _ (λ x. x.0 < length texts) (λ x y p q. texts_apart texts x y apart p q) n row (values_given texts n row (rw (← is) at given)))
