-- What is gathered at each row is the cumulation of the cells.
use Rattle.{
  column_core.{proofs.{cells.Common.{◌≡◌, ℕ, zero, suc, ◌+◌, Bool, true, List, map, refl, sym, ap, arith, ℤ, pos, ◌+ℤ◌, Option, Some, None, unwrap_or, Ok, map-range_with_len_more, int_wrap, int_cmp, range_with_len, Cell, Kind, Int64, Boolean, CellValue, na_cell, datum, tabulate, reduction_cell, is_present, number_in, running, unless_missing, cumulation_cell, cumulation_takes, cumulate_column}, CellRows.{map-map}}, specs.Columns.{CellColumn, column_value, column_with, number_cell, truth_cell}},
  std.specs.Int.{w64},
  nullable_array.{specs.{declared.ops.{Cumulation.{Cumulation}, Reduction.TheVariants.{Min, Max}}, Folds.{folded, sum_step, running_step, running_row, one_of_truth, least_step, greatest_step, cumulation_of}}, proofs.FoldLaws.{folded_more, folded_seen, numbers_reduced}},
}
use Rattle.column_core.specs.cells.Reduce as reduction
use Rattle.nullable_array.specs.declared.ops.Cumulation.TheVariants as cumulations

-- a sum that has begun
sum_up_to : {T : Type 0} (texts : List (List ℕ)) (cell : Option T → Cell) (value : T → ℤ) (row : ℕ → Option T) → datum texts (cell None) ≡ na_cell → ((x : T) → is_present (datum texts (cell (Some x))) ≡ true)
    → ((s : ℤ) (x : T) → int_wrap w64 (s +ℤ number_in (datum texts (cell (Some x)))) ≡ sum_step s (value x)) → (k : ℕ) (x : T) → row k ≡ Some x
    → reduction_cell reduction.sum (map (datum texts) (tabulate (k + 1) (λ j. cell (row j)))) ≡ datum texts (number_cell (folded (λ s y. running_step s (value y)) None (k + 1) row))
sum_up_to {T} texts cell value row missing there law k x e = grind (arith, folded_more, folded_seen texts cell missing there (λ total c. int_wrap w64 (total +ℤ number_in c)) (λ (s : Option ℤ) (y : T). running_step s (value y)) (λ s. unwrap_or s (pos 0)) (λ s y. law (unwrap_or s (pos 0)) y) None (k + 1) row)

-- a cumulation of rows is the cumulation of their cells
module _ {T : Type 0} (op want : Cumulation) (is : op ≡ want) (kind : Kind) (takes : cumulation_takes (cumulation_of want) kind ≡ true) (texts : List (List ℕ)) (cell : Option T → Cell) (step : Option ℤ → T → Option ℤ) (row : ℕ → Option T)
    (missing : datum texts (cell None) ≡ na_cell) (there : (x : T) (y : CellValue) → unless_missing (datum texts (cell (Some x))) y ≡ y)
    (up_to : (k : ℕ) (x : T) → row k ≡ Some x → cumulation_cell (cumulation_of want) (map (datum texts) (tabulate (k + 1) (λ j. cell (row j)))) ≡ datum texts (number_cell (folded step None (k + 1) row))) where
  abbrev cells : ℕ → ℕ → List CellValue
  cells a n = map (λ k. datum texts (cell (row k))) (range_with_len a n)

  runs : (a n : ℕ) → running (cumulation_cell (cumulation_of want)) (cells 0 a) (cells a n) ≡ map (λ k. datum texts (number_cell (running_row step row k))) (range_with_len a n)
  runs a zero = refl
  runs a (suc n) = grind (arith, map-range_with_len_more (λ k. datum texts (cell (row k))) 0 a a (omega arith), map-map, runs (a + 1) n)

  running_answer : (n : ℕ) (col : CellColumn) → col ≡ column_with Int64 number_cell n (running_row step row) → cumulate_column (cumulation_of op) (column_value texts (column_with kind cell n row)) ≡ Ok (column_value texts col)
  running_answer n col made = rw (is, made, takes, map-map, map-map) (ap (λ l. Ok record { kind = Int64; cells = l }) (runs 0 n))

abbrev pub number_step : Cumulation → Option ℤ → ℤ → Option ℤ
number_step cumulations.Sum = running_step
number_step cumulations.Min = least_step int_cmp
number_step cumulations.Max = greatest_step int_cmp

module _ (op want : Cumulation) (n : ℕ) (col : CellColumn) (is : op ≡ want) where
  pub numbers_run : (row : ℕ → Option ℤ) → col ≡ column_with Int64 number_cell n (running_row (number_step want) row) → (texts : List (List ℕ)) → cumulate_column (cumulation_of op) (column_value texts (column_with Int64 number_cell n row)) ≡ Ok (column_value texts col)
  numbers_run row made texts = running_answer _ want is Int64 refl _ number_cell _ row refl (λ x y. refl) (up_to want) _ _ made
    where
      up_to : (c : Cumulation) (k : ℕ) (x : ℤ) → row k ≡ Some x → cumulation_cell (cumulation_of c) (map (datum texts) (tabulate (k + 1) (λ j. number_cell (row j)))) ≡ datum texts (number_cell (folded (number_step c) None (k + 1) row))
      up_to cumulations.Sum k x e = sum_up_to _ number_cell _ row refl (λ x. refl) (λ s x. refl) k x e
      up_to cumulations.Min k x e = sym (numbers_reduced _ _ Min _ row _ refl refl)
      up_to cumulations.Max k x e = sym (numbers_reduced _ _ Max _ row _ refl refl)

pub truth_sums : (op : Cumulation) (n : ℕ) (col : CellColumn) (row : ℕ → Option Bool) → op ≡ cumulations.Sum → col ≡ column_with Int64 number_cell n (running_row (λ s x. running_step s (one_of_truth x)) row) → (texts : List (List ℕ)) → cumulate_column (cumulation_of op) (column_value texts (column_with Boolean truth_cell n row)) ≡ Ok (column_value texts col)
truth_sums op n col row is made texts = running_answer _ _ is Boolean refl _ truth_cell _ row refl (λ x y. refl) (sum_up_to _ truth_cell _ row refl (λ x. refl) search) _ _ made
