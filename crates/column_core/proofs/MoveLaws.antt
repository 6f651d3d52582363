-- Rows that are taken from others, as cells.
use Rattle.{
  meaning_cells.proofs.Common.{◌≡◌, ℕ, ◌-◌, ◌<◌, ℤ, Bool, cond, List, length, map, nat_lt, slice_index_or, sym, ◌∙◌, arith, Option, None, Result, IfOk, All, ltb-true, ltb-false, get_or_past, get_or-map, length-map, get_or-map-range_with_len, fill_by_all, Cell, Na, tabulate, shifted_row, shifted, gap_cell, taken},
  column_core.{specs.{Columns.{CellColumn}, Moves.{moved_row, is_ahead, distance_of, gap_at, picked_row, IsPlaceOf}}, proofs.{ColumnLaws.{length-tabulate}, CellRows.{range-same}}},
}

pub get_or-tabulate : {C : Type 0} (n : ℕ) (f : ℕ → C) (k : ℕ) (d : C) → k < n → slice_index_or (tabulate n f) k d ≡ f k
get_or-tabulate = grind (arith, get_or-map-range_with_len)

module _ {T : Type 0} (cell : Option T → Cell) (missing : cell None ≡ Na) (n : ℕ) (row : ℕ → Option T) where
  behind : (b : Bool) (k i : ℕ) → k < n → cell (cond b None (row (k - i))) ≡ cond b Na (slice_index_or (tabulate n (λ j. cell (row j))) (k - i) Na)
  behind = grind (arith, get_or-tabulate)

  ahead : (k : ℕ) (b : Bool) → nat_lt k n ≡ b → cell (cond b (row k) None) ≡ slice_index_or (tabulate n (λ j. cell (row j))) k Na
  ahead = grind (arith, get_or-tabulate, ltb-true, get_or_past, length-tabulate, ltb-false)

  row_moved : (p : ℤ) (k : ℕ) → k < n → cell (moved_row n row (distance_of p) (is_ahead p) k) ≡ shifted_row Na (tabulate n (λ j. cell (row j))) p k
  row_moved = grind (arith, behind, ahead)

  -- moved rows are the shifted cells
  pub shifted_seen : (p : ℤ) (distance : ℕ) (is_before : Bool) → distance ≡ distance_of p → is_before ≡ is_ahead p
      → tabulate n (λ k. cell (moved_row n row distance is_before k)) ≡ shifted Na (tabulate n (λ k. cell (row k))) p
  shifted_seen p _ _ e f = grind (arith, range-same (λ k. cell (moved_row n row (distance_of p) (is_ahead p) k)) (shifted_row Na (tabulate n (λ k. cell (row k))) p) 0 n (λ k le lt. row_moved p k (omega arith)), length-tabulate n (λ k. cell (row k)))

  row_picked : (gap : Option ℕ) → IsPlaceOf n gap → cell (picked_row row gap) ≡ gap_cell Na (tabulate n (λ k. cell (row k))) gap
  row_picked = grind (arith, get_or-tabulate)

  -- picked rows are the taken cells
  pub taken_seen : (gaps : List (Option ℕ)) → All (IsPlaceOf n) gaps → tabulate (length gaps) (λ k. cell (picked_row row (gap_at gaps k))) ≡ taken Na (tabulate n (λ k. cell (row k))) gaps
  taken_seen gaps within =
      range-same _ _ 0 _ (λ k le lt. row_picked _ (within k None (omega arith)))
      ∙ sym (fill_by_all _ (map _ gaps) _ Na (length-map gaps _) (λ k lt. get_or-map _ gaps k None Na lt))

-- the cells of an answer
pub if_ok_cells : {E : Type 0} (r : Result CellColumn E) (x : CellColumn) (ys : List Cell) → IfOk r (λ c. c ≡ x) → x.cells ≡ ys → IfOk r (λ c. c.cells ≡ ys)
if_ok_cells = grind arith

pub if_ok_change : {E : Type 0} (r : Result CellColumn E) (xs ys : List Cell) → IfOk r (λ c. c.cells ≡ xs) → xs ≡ ys → IfOk r (λ c. c.cells ≡ ys)
if_ok_change = grind arith
