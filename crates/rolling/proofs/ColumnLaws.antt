-- Columns of the answers of windows.
use Rattle.{
  column_core.{proofs.{cells.Common.{◌≡◌, ℕ, ◌+◌, ◌<◌, ◌≤◌, min, max, arith, ℤ, List, [], ◌∷◌, ◌++◌, length, map, take, sym, ap, ◌∙◌, inl, inr, cases_lt, Option, Ok, Err, length-map, if◌then◌else◌, range_with_len, length-map-range_with_len, map-range_with_len_more, datum, CellValue, Int64, tabulate}, CellRows.{map-map, range-same}}, specs.{cells.Column.{kind_mismatch}, Columns.{CellColumn, column_value, column_with, number_cell}}},
  std.proofs.lemmas.List.FromFn.{take-map-range_with_len},
  meaning_window.{specs.Window.{window_cells, window_answer, last, rolled, expanded, rolled_column, expanded_column, windows_take}, proofs.WindowLaws.{window_is_last, rolled_all, rolled_longer}},
  nullable_array.specs.{declared.ops.Cumulation.{Cumulation}, Folds.{cumulation_of}, Distincts.{present_values}},
  rolling.{specs.{Answers.{answer_of}, Windows.{WindowValue, HasSettings, answer_of_rows}, Expandings.{ExpandingValue}}, proofs.SlideLaws.{answer_seen, map-last}},
}
use Rattle.rolling.specs.Expandings as expanding

-- a row more
pub tabulate_more : {C : Type 0} (f : ℕ → C) (n : ℕ) → tabulate (n + 1) f ≡ tabulate n f ++ f n ∷ []
tabulate_more f n = map-range_with_len_more f 0 n n (omega arith)

module _ (count : ℕ) (row : ℕ → Option ℤ) (texts : List (List ℕ)) where
  abbrev cells : List CellValue
  cells = map (datum texts) (tabulate count (λ k. number_cell (row k)))

  count_cells : length cells ≡ count
  count_cells = rw map-map (length-map-range_with_len _ 0 count)

  -- the cells up to a row
  cells_up_to : (k : ℕ) → k < count → take (k + 1) cells ≡ map (datum texts) (map number_cell (tabulate (k + 1) row))
  cells_up_to k h =
      ap (take (k + 1)) (map-map (λ j. number_cell (row j)) (datum texts) (range_with_len 0 count))
      ∙ take-map-range_with_len (λ j. datum texts (number_cell (row j))) 0 count (k + 1) (omega arith)
      ∙ sym (ap (map (datum texts)) (map-map row number_cell (range_with_len 0 (k + 1))) ∙ map-map (λ j. number_cell (row j)) (datum texts) (range_with_len 0 (k + 1)))

  module _ (min_periods : ℕ) (op : Cumulation) where
    -- answers of lists of rows are those of lists of cells
    answers_seen : (rows : ℕ → List (Option ℤ)) (seen : ℕ → List CellValue) → ((k : ℕ) → k < count → seen k ≡ map (datum texts) (map number_cell (rows k)))
        → tabulate (length cells) (λ k. window_answer min_periods (cumulation_of op) (seen k)) ≡ map (datum texts) (tabulate count (λ k. number_cell (answer_of min_periods op (present_values (rows k)))))
    answers_seen rows seen same =
        ap (λ n. tabulate n (λ k. window_answer min_periods (cumulation_of op) (seen k))) count_cells
        ∙ range-same _ _ 0 count (λ k above below. ap (window_answer min_periods (cumulation_of op)) (same k (omega arith)) ∙ sym (answer_seen texts min_periods op (rows k)))
        ∙ sym (map-map _ (datum texts) (range_with_len 0 count))

    expanded_seen : expanded min_periods (cumulation_of op) cells ≡ map (datum texts) (tabulate count (λ k. number_cell (answer_of min_periods op (present_values (tabulate (k + 1) row)))))
    expanded_seen = answers_seen (λ k. tabulate (k + 1) row) (λ k. take (k + 1) cells) cells_up_to

    rolled_seen : (n : ℕ) → rolled n min_periods (cumulation_of op) cells ≡ map (datum texts) (tabulate count (λ k. number_cell (answer_of min_periods op (present_values (last n (tabulate (k + 1) row))))))
    rolled_seen n = answers_seen (λ k. last n (tabulate (k + 1) row)) (λ k. window_cells n cells k) (λ k below. window_is_last n cells k (omega (arith, count_cells)) ∙ ap (last n) (cells_up_to k below) ∙ sym (ap (map (datum texts)) (map-last number_cell n _) ∙ map-last (datum texts) n _))

    -- no window is longer than the column
    rolled_within : (n : ℕ) → 0 < n → rolled n min_periods (cumulation_of op) cells ≡ rolled (min n (max count 1)) min_periods (cumulation_of op) cells
    rolled_within n some =
        elim (cases_lt n count) [
          | inl shorter ↦ let same : n ≡ min n (max count 1) = omega arith in ap (λ m. rolled m min_periods (cumulation_of op) cells) same
          | inr longer ↦ rolled_longer n (min n (max count 1)) min_periods (cumulation_of op) cells (omega (arith, count_cells)) (omega (arith, count_cells))
        ]

-- What is made of a column.
module _ (count min_periods : ℕ) (op : Cumulation) (row : ℕ → Option ℤ) (c : CellColumn) where
  pub rolled_answer : (n : ℕ) (w : WindowValue) → 0 < n → HasSettings (min n (max count 1)) min_periods op w → c ≡ column_with Int64 number_cell count (λ k. answer_of_rows w (tabulate (k + 1) row))
      → (texts : List (List ℕ)) → rolled_column n min_periods (cumulation_of op) (column_value texts (column_with Int64 number_cell count row)) ≡ Ok (column_value texts c)
  rolled_answer n w some settings made texts =
      rw (made, settings.size_is, settings.min_periods_is, settings.op_is) (ap (λ l. Ok record { kind = Int64; cells = l }) (rolled_within count row texts min_periods op n some ∙ rolled_seen count row texts min_periods op (min n (max count 1))))

  pub expanded_answer : (e : ExpandingValue) → expanding.HasSettings min_periods op e → c ≡ column_with Int64 number_cell count (λ k. expanding.answer_of_rows e (tabulate (k + 1) row))
      → (texts : List (List ℕ)) → expanded_column min_periods (cumulation_of op) (column_value texts (column_with Int64 number_cell count row)) ≡ Ok (column_value texts c)
  expanded_answer e settings made texts =
      rw (made, settings.min_periods_is, settings.op_is) (ap (λ l. Ok record { kind = Int64; cells = l }) (expanded_seen count row texts min_periods op))

-- a window of all rows
pub longer_answer : (n min_periods : ℕ) (op : Cumulation) (c : CellColumn) (texts : List (List ℕ)) → length c.cells ≤ n → rolled_column n min_periods (cumulation_of op) (column_value texts c) ≡ expanded_column min_periods (cumulation_of op) (column_value texts c)
longer_answer n min_periods op c texts h = ap (λ l. if windows_take c.kind then Ok record { kind = Int64; cells = l } else Err kind_mismatch) (rolled_all n min_periods (cumulation_of op) (column_value texts c).cells (omega (arith, length-map c.cells (datum texts))))
