-- What is gathered with one cell more.
use Rattle.{
  column_core.{proofs.cells.Common.{◌≡◌, ◌∙◌, ◌<◌, ◌^◌, mod-eq_of_lt, ℕ, true, cond, arith, All, map, ℤ, pos, List, [], ◌∷◌, ◌++◌, length, slice_index_or, set, fold, Option, Some, eqb-false, length-set, get_or-set_same, get_or-set_other, length-map, get_or-map, fill_by_all, filter-append, cast_signed, Cell, Na, Kind, CellValue, na_cell, int_cell, datum, holds, AreGiven, is_present, present}, specs.Columns.{CellColumn}},
  std.{specs.Int.{int_wrap, w64}, proofs.lemmas.List.Sums.{fold-append}},
  factorize.specs.group.{Rows.{GroupsValue}, Reductions.{GroupReduction, group_cell, reduced_cells}},
  group_by.specs.{Cells.{IsCellOf}, Gathered.{if_present, plus, total_of, total_cell, TakesIn, HaveGathered}},
}

-- a number of rows is a number of 64 bits as it stands
pub count_wraps : (n : ℕ) → n < 2 ^ 64 → int_wrap w64 (pos n) ≡ cast_signed w64 n
unfolding int_wrap
count_wraps = search mod-eq_of_lt

folded_more : {S : Type 0} (g : S → CellValue → S) (s : S) (cells : List CellValue) (c : CellValue) → fold g s (present (cells ++ c ∷ [])) ≡ cond (is_present c) (g (fold g s (present cells)) c) (fold g s (present cells))
folded_more = grind (arith, filter-append, fold-append)

-- a total with one cell more
pub total_more : (amount : CellValue → ℤ) (cells : List CellValue) (c : CellValue) → int_cell (plus (total_of amount cells) (if_present c (amount c))) ≡ total_cell amount (cells ++ c ∷ [])
total_more = grind (arith, folded_more)

-- a cell is taken into what is gathered of its group
pub takes_at : (op : GroupReduction) (texts : List (List ℕ)) (group : Option ℕ) (g : ℕ) (cell r : Cell) (before : List Cell) → group ≡ Some g → g < length before
    → ((cells : List CellValue) → datum texts (slice_index_or before g Na) ≡ group_cell op cells → datum texts r ≡ group_cell op (cells ++ datum texts cell ∷ [])) → TakesIn op texts group cell before (set before g r)
takes_at = grind (arith, length-set, get_or-set_same, get_or-set_other, eqb-false)

-- what was gathered of each group, as the cells of a column
pub gathered_cells : (op : GroupReduction) (texts : List (List ℕ)) (groups : GroupsValue) (cells : List CellValue) (gathered : List Cell) → length gathered ≡ groups.count → HaveGathered op texts groups.codes groups.count cells gathered
    → map (datum texts) gathered ≡ reduced_cells op groups cells
gathered_cells _ texts _ _ gathered size have =
    fill_by_all _ (map (datum texts) gathered) _ _ (length-map gathered _ ∙ size)
    (λ k lt. get_or-map (datum texts) gathered k Na na_cell (omega (arith, size, lt)) ∙ have k lt)

pub column_given : (texts : List (List ℕ)) (kind : Kind) (cells : List Cell) (column : CellColumn) → column ≡ record { kind = kind; cells = cells } → All (IsCellOf texts kind) cells → AreGiven texts column.cells
column_given = grind arith

pub cells_held : (texts : List (List ℕ)) (kind : Kind) (cells : List Cell) → All (IsCellOf texts kind) cells → All (λ (c : Cell). (dict : List (List ℕ)) → holds kind (datum dict c) ≡ true) cells
cells_held _ _ _ all k d lt = (all k d lt).held
