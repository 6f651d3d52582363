-- What is gathered from rows is what is gathered from their cells.
use Rattle.{
  column_core.{proofs.{cells.Common.{◌≡◌, ℕ, zero, suc, ◌+◌, ◌<◌, Bool, true, false, not, ◌||◌, ◌&&◌, List, [], ◌∷◌, length, map, refl, ap, arith, ℤ, pos, ◌+ℤ◌, Option, Some, None, Ok, fold, beq, recursion_from_All, fold-map, map-range_with_len_more, int_wrap, AllByRecursion, range_with_len, Ordering, int_cmp, bool_cmp, nat_cmp, slice_cmp, Cell, Int, TextId, CellValue, na_cell, int_cell, truth_cell as truth_value_cell, datum, text_of, IsGiven, AreGiven, tabulate, is_present, present, number_in, reduction_cell}, CellRows.{map-map}}, specs.{cells.{Reduce.{lesser, greater, is_true, reduction_takes, reduce_column}, Operator.{cell_cmp}}, Columns.{column_value, column_with, number_cell, truth_cell, text_cell}}},
  std.{proofs.lemmas.List.Sums.{fold_push}, specs.Int.{w64}},
  cell_core.specs.declared.cell.{Cell.TheVariants.{Bool as truth}, Kind.TheVariants.{Text as string}},
  nullable_array.specs.{declared.ops.Reduction.{Reduction, TheVariants.{Sum, Min, Max, Any, All, Count}}, Distincts.{present_values}, Folds.{step_row, folded, sum_step, one_of_truth, is_not_zero, least_step, greatest_step, reduction_of}},
}

-- one row more
pub folded_more : {S T : Type 0} (step : S → T → S) (s : S) (n : ℕ) (row : ℕ → Option T) → folded step s (n + 1) row ≡ step_row step (folded step s n row) (row n)
folded_more step s n row = cc (fold-map (step_row step) row s (range_with_len 0 (n + 1)), fold-map (step_row step) row s (range_with_len 0 n), map-range_with_len_more row 0 n n (omega arith), fold_push (step_row step) s (map row (range_with_len 0 n)) (row n))

-- what no value changes stays
pub folded_stays : {S T : Type 0} (step : S → T → S) (s t : S) (row : ℕ → Option T) (m d : ℕ) → ((x : T) → step t x ≡ t) → folded step s m row ≡ t → folded step s (m + d) row ≡ t
folded_stays _ s t _ m zero law e = grind arith
folded_stays step s t row m (suc d) law e =
    let next : m + suc d ≡ m + d + 1 = omega arith in
    grind (arith, folded_more, folded_stays step s t row m d law e)

-- what a test of two truth values says
pub changed : (a b : Bool) → not (beq a b) ≡ true → a ≡ not b
changed = grind arith

rows_folded : {S T : Type 0} (step : S → T → S) (s : S) (rows : List (Option T)) → fold (step_row step) s rows ≡ fold step s (present_values rows)
rows_folded step s [] = refl
rows_folded step s (None ∷ rows) = rows_folded step s rows
rows_folded step s (Some x ∷ rows) = rows_folded step (step s x) rows

-- a fold of rows is one of the values that are present
pub values_folded : {S T : Type 0} (step : S → T → S) (s : S) (n : ℕ) (row : ℕ → Option T) → folded step s n row ≡ fold step s (present_values (tabulate n row))
values_folded step s n row = cc (fold-map (step_row step) row s (range_with_len 0 n), rows_folded step s (tabulate n row))

-- what reductions make of rows
abbrev pub came : {T : Type 0} → (Option T → Cell) → (T → T → Ordering) → (T → ℤ) → (T → Bool) → Reduction → ℕ → (ℕ → Option T) → Cell
came cell cmp number is Sum n row = Int (folded (λ s x. sum_step s (number x)) (pos 0) n row)
came cell cmp number is Min n row = cell (folded (least_step cmp) None n row)
came cell cmp number is Max n row = cell (folded (greatest_step cmp) None n row)
came cell cmp number is Any n row = truth (folded (λ s x. s || is x) false n row)
came cell cmp number is All n row = truth (folded (λ s x. s && is x) true n row)
came cell cmp number is Count n row = Int (folded (λ s x. sum_step s (pos 1)) (pos 0) n row)

module _ {T : Type 0} (texts : List (List ℕ)) (cell : Option T → Cell) (missing : datum texts (cell None) ≡ na_cell) (there : (x : T) → is_present (datum texts (cell (Some x))) ≡ true) where
  rows_present : (rows : List (Option T)) → present (map (λ o. datum texts (cell o)) rows) ≡ map (λ x. datum texts (cell (Some x))) (present_values rows)
  rows_present [] = refl
  rows_present (None ∷ rows) = grind (arith, rows_present rows)
  rows_present (Some x ∷ rows) = grind (arith, rows_present rows)

  -- the present cells
  pub cells_present : (n : ℕ) (row : ℕ → Option T) → present (map (datum texts) (tabulate n (λ k. cell (row k)))) ≡ map (λ x. datum texts (cell (Some x))) (present_values (tabulate n row))
  cells_present n row = cc (rows_present (tabulate n row), map-map (λ k. cell (row k)) (datum texts) (range_with_len 0 n), map-map row (λ o. datum texts (cell o)) (range_with_len 0 n))

  module _ {S R : Type 0} (g : R → CellValue → R) (step : S → T → S) (view : S → R) (law : (s : S) (x : T) → g (view s) (datum texts (cell (Some x))) ≡ view (step s x)) where
    values_seen : (s : S) (xs : List T) → fold g (view s) (map (λ x. datum texts (cell (Some x))) xs) ≡ view (fold step s xs)
    values_seen s [] = refl
    values_seen s (x ∷ xs) = cc (law s x, values_seen (step s x) xs)

    -- a fold of the present cells
    pub folded_seen : (s : S) (n : ℕ) (row : ℕ → Option T) → fold g (view s) (present (map (datum texts) (tabulate n (λ k. cell (row k))))) ≡ view (folded step s n row)
    folded_seen s n row = cc (cells_present n row, values_seen s (present_values (tabulate n row)), values_folded step s n row)

  -- the reductions of the cells
  module _ (cmp : T → T → Ordering) (number : T → ℤ) (is : T → Bool) (same : (x y : T) → cell_cmp (datum texts (cell (Some x))) (datum texts (cell (Some y))) ≡ cmp x y) (numbers : (x : T) → number_in (datum texts (cell (Some x))) ≡ number x)
      (truths : (x : T) → is_true (datum texts (cell (Some x))) ≡ is x) (n : ℕ) (row : ℕ → Option T) where
    pub reduced_seen : (op : Reduction) → reduction_cell (reduction_of op) (map (datum texts) (tabulate n (λ k. cell (row k)))) ≡ datum texts (came cell cmp number is op n row)
    reduced_seen Sum = ap int_cell (folded_seen (λ t c. int_wrap w64 (t +ℤ number_in c)) _ (λ s. s) (grind arith) _ n row)
    reduced_seen Min = cc (folded_seen lesser (least_step cmp) (λ o. datum texts (cell o)) (grind arith) None n row)
    reduced_seen Max = cc (folded_seen greater (greatest_step cmp) (λ o. datum texts (cell o)) (grind arith) None n row)
    reduced_seen Any = ap truth_value_cell (folded_seen _ _ (λ s. s) (λ s x. ap (λ b. s || b) (truths x)) false n row)
    reduced_seen All = ap truth_value_cell (folded_seen _ _ (λ s. s) (λ s x. ap (λ b. s && b) (truths x)) true n row)
    reduced_seen Count = ap int_cell (folded_seen _ _ (λ s. s) (λ s x. refl) _ n row)

module _ (texts : List (List ℕ)) (op want : Reduction) (n : ℕ) where
  pub numbers_reduced : (row : ℕ → Option ℤ) (v : CellValue) → op ≡ want → v ≡ datum texts (came number_cell int_cmp (λ x. x) is_not_zero want n row) → v ≡ reduction_cell (reduction_of op) (map (datum texts) (tabulate n (λ k. number_cell (row k))))
  numbers_reduced row v is e = cc (reduced_seen texts number_cell refl (λ x. refl) int_cmp (λ x. x) is_not_zero (λ x y. refl) (λ x. refl) (λ x. refl) n row op)

  pub truths_reduced : (row : ℕ → Option Bool) (v : CellValue) → op ≡ want → v ≡ datum texts (came truth_cell bool_cmp one_of_truth (λ x. x) want n row) → v ≡ reduction_cell (reduction_of op) (map (datum texts) (tabulate n (λ k. truth_cell (row k))))
  truths_reduced row v is e = cc (reduced_seen texts truth_cell refl (λ x. refl) bool_cmp one_of_truth (λ x. x) (λ x y. refl) (grind arith) (λ x. refl) n row op)

  pub texts_reduced : (row : ℕ → Option TextId) (r : Cell) → op ≡ want → r ≡ came text_cell (λ x y. slice_cmp nat_cmp (text_of texts x) (text_of texts y)) (λ x. pos 0) (λ x. false) want n row → reduction_takes (reduction_of want) string ≡ true
      → reduce_column (reduction_of op) (column_value texts (column_with string text_cell n row)) ≡ Ok (datum texts r)
  texts_reduced row r is e takes = cc (reduced_seen texts text_cell refl (λ x. refl) _ _ _ (λ x y. refl) (λ x. refl) (λ x. refl) n row op)

-- texts that are given
module _ (texts : List (List ℕ)) where
  abbrev pub AreKnown : List TextId → Type 0
  AreKnown ids = AllByRecursion (λ id. id.0 < length texts) ids

  value_given : (row : ℕ → Option TextId) (ks : List ℕ) → AllByRecursion (IsGiven texts) (map (λ k. text_cell (row k)) ks) → AreKnown (present_values (map row ks))
  value_given row [] h = tt
  value_given row (k ∷ ks) (h, hs) = grind (arith, value_given row ks hs)

  pub values_given : (n : ℕ) (row : ℕ → Option TextId) → AreGiven texts (tabulate n (λ k. text_cell (row k))) → AreKnown (present_values (tabulate n row))
  values_given n row g = value_given row _ (recursion_from_All _ _ g)

  -- and stay so, where a step chooses one of them
  abbrev Keeps : (Option TextId → TextId → Option TextId) → Type 0
  Keeps step = (s : Option TextId) (x : TextId) → IsGiven texts (text_cell s) → x.0 < length texts → IsGiven texts (text_cell (step s x))

  values_keep : (step : Option TextId → TextId → Option TextId) → Keeps step → (s : Option TextId) (xs : List TextId) → IsGiven texts (text_cell s) → AreKnown xs → IsGiven texts (text_cell (fold step s xs))
  values_keep _ _ s [] g h = g
  values_keep step keeps s (x ∷ xs) g (h, hs) = values_keep step keeps _ xs (keeps s x g h) hs

  pub rows_keep : (step : Option TextId → TextId → Option TextId) (n : ℕ) (row : ℕ → Option TextId) (o : Option TextId) (r : Cell) → AreGiven texts (tabulate n (λ k. text_cell (row k))) → r ≡ text_cell o → o ≡ folded step None n row → Keeps step → IsGiven texts r
  rows_keep step n row _ _ g is e keeps = rw (is, e, values_folded step None n row) (values_keep step keeps None _ tt (values_given n row g))
