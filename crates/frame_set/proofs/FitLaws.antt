-- Values fit exactly where each is held by the column of the cell that it is given for.
use Rattle.{
  frame_parts.proofs.Common.{◌≡◌, ◌∙◌, ap, refl, subst, sym, arith, ℕ, zero, suc, ◌+◌, ◌<◌, ◌%◌, ◌/◌, true, List, [], ◌∷◌, length, slice_index, slice_index_or, slice_get_within, and_parts, CellValue, holds, Table, column_at},
  std.proofs.lemmas.Nat.{mul-add-lt},
  column_core.proofs.cells.Common.{◌*◌},
  column_core.specs.cells.Cell.{na_cell},
  std.specs.Bool.{Decides},
  frame_store.proofs.SettingLaws.{goes, given},
  frame_select.specs.select.Set.{fit_from},
  frame_set.specs.Fits.{FitColumns},
}

module _ (t : Table) (columns : List ℕ) where
  abbrev Fits : ℕ → CellValue → Type 0
  Fits n x = holds (column_at t.columns (slice_index columns (n % length columns))).kind x ≡ true

  each_fits : (k n : ℕ) (values : List CellValue) → fit_from k t columns values ≡ true → n < length values → Fits (k + n) (slice_index_or values n na_cell)
  each_fits k n [] fits lt = search
  each_fits k zero (x ∷ xs) fits lt = grind (arith, and_parts)
  each_fits k (suc n) (x ∷ xs) fits lt =
      grind (arith, each_fits (suc k) n xs (and_parts (holds (column_at t.columns (slice_index columns (k % length columns))).kind x) _ fits).1 (omega (arith, lt)))

  all_fit : (k : ℕ) (values : List CellValue) → ((n : ℕ) → n < length values → Fits (k + n) (slice_index_or values n na_cell)) → fit_from k t columns values ≡ true
  all_fit k [] each = refl
  all_fit k (x ∷ xs) each =
      let first : k + 0 ≡ k = omega arith in
      let here : Fits k x = ap (λ (m : ℕ). holds (column_at t.columns (slice_index columns (m % length columns))).kind x) (sym first) ∙ each 0 (omega arith) in
      let later : (n : ℕ) → n < length xs → Fits (suc k + n) (slice_index_or xs n na_cell) =
      λ n lt.
      let next : suc k + n ≡ k + suc n = omega arith in
      ap (λ (m : ℕ). holds (column_at t.columns (slice_index columns (m % length columns))).kind (slice_index_or xs n na_cell)) next ∙ each (suc n) (omega (arith, lt)) in
      grind (arith, here, all_fit (suc k) xs later)

  -- from the first one on
  fits_each : (values : List CellValue) (n : ℕ) → fit_from 0 t columns values ≡ true → n < length values → Fits n (slice_index_or values n na_cell)
  fits_each values n fits lt =
      let at : 0 + n ≡ n = omega arith in
      subst (λ (m : ℕ). Fits m (slice_index_or values n na_cell)) at (each_fits 0 n values fits lt)

  each_fit : (values : List CellValue) → ((n : ℕ) → n < length values → Fits n (slice_index_or values n na_cell)) → fit_from 0 t columns values ≡ true
  each_fit values each = all_fit 0 values (λ n lt.
      let at : n ≡ 0 + n = omega arith in
      subst (λ (m : ℕ). Fits m (slice_index_or values n na_cell)) at (each n lt))

pub fits_decided : (t : Table) (rows columns : List ℕ) (values : List CellValue) → length values ≡ length rows * length columns → Decides (fit_from 0 t columns values) (FitColumns t rows columns values)
fits_decided t rows columns values many = (
  λ fits column row number is.
      let place_in = slice_get_within columns is.j column is.column_there in
      let row_in = slice_get_within rows is.i row is.row_there in
      let lt : number < length values = omega (arith, mul-add-lt is.i (length columns) is.j (length rows) row_in place_in, is.is, many) in
      ap (λ (place : ℕ). holds (column_at t.columns place).kind (slice_index_or values number na_cell)) (sym (goes rows columns column row na_cell number is).0)
      ∙ fits_each t columns values number fits lt,
  λ each. each_fit t columns values
      (λ n lt. each (slice_index columns (n % length columns)) (slice_index rows (n / length columns)) n
      (given rows columns _ _ na_cell n (omega (arith, lt, many)) (refl, refl))),
)
