-- Reductions of columns, and the distinct cells.
use Rattle.std.specs.Prelude.{ℕ, ℤ, pos, ◌+ℤ◌, Bool, true, false, not, ◌||◌, ◌&&◌, List, [], ◌∷◌, length, filter, fold, Result, Ok, Err, if◌then◌else◌}
use Rattle.std.specs.Int.{int_wrap, w64}
use Rattle.std.specs.Ordering.{is_lt, is_eq, int_eq}
use Rattle.cell_core.specs.declared.cell.Kind.{Kind}
use Rattle.cell_core.specs.declared.cell.Kind.TheVariants.{Text as string}
use Rattle.meaning_cells.specs.Cell.{CellValue, na_cell, int_cell, truth_cell}
use Rattle.meaning_cells.specs.Column.{ColumnValue, ColumnFault, kind_mismatch}
use Rattle.meaning_cells.specs.Operator.{cell_cmp}

pub data Reduction : Type 0 where
  sum : Reduction
  min : Reduction
  max : Reduction
  any : Reduction
  all : Reduction
  count : Reduction

abbrev pub is_present : CellValue → Bool
is_present na_cell = false
is_present c = true

abbrev pub present : List CellValue → List CellValue
present cells = filter is_present cells

-- a number; True counts as 1
abbrev pub number_in : CellValue → ℤ
number_in (int_cell z) = z
number_in (truth_cell true) = pos 1
number_in c = pos 0

-- True, or a number that isn't 0
abbrev pub is_true : CellValue → Bool
is_true (truth_cell b) = b
is_true (int_cell z) = not (int_eq z (pos 0))
is_true c = false

-- the lesser of two cells, and the greater: the first where they tie, the other where one is missing
abbrev pub lesser : CellValue → CellValue → CellValue
lesser na_cell b = b
lesser a b = if is_lt (cell_cmp b a) then b else a

abbrev pub greater : CellValue → CellValue → CellValue
greater na_cell b = b
greater a b = if is_lt (cell_cmp a b) then b else a

-- What a reduction makes of the present cells: sums and counts wrap, and a least or greatest cell is missing where none is present.
abbrev pub reduction_cell : Reduction → List CellValue → CellValue
reduction_cell sum cells = int_cell (fold (λ total c. int_wrap w64 (total +ℤ number_in c)) (pos 0) (present cells))
reduction_cell min cells = fold lesser na_cell (present cells)
reduction_cell max cells = fold greater na_cell (present cells)
reduction_cell any cells = truth_cell (fold (λ found c. found || is_true c) false (present cells))
reduction_cell all cells = truth_cell (fold (λ so_far c. so_far && is_true c) true (present cells))
reduction_cell count cells = int_cell (fold (λ n c. int_wrap w64 (n +ℤ pos 1)) (pos 0) (present cells))

-- texts have no sum, and are neither true nor false
abbrev pub reduction_takes : Reduction → Kind → Bool
reduction_takes sum string = false
reduction_takes any string = false
reduction_takes all string = false
reduction_takes op kind = true

abbrev pub reduce_column : Reduction → ColumnValue → Result CellValue ColumnFault
reduce_column op a = if reduction_takes op a.kind then Ok (reduction_cell op a.cells) else Err kind_mismatch

abbrev pub same_cell : CellValue → CellValue → Bool
same_cell a b = is_eq (cell_cmp a b)

-- each one once, where it stands first
abbrev pub distinct : {C : Type 0} → (C → C → Bool) → List C → List C
distinct same [] = []
distinct same (c ∷ cs) = c ∷ filter (λ d. not (same d c)) (distinct same cs)

-- how many different cells are present
abbrev pub distinct_count : List CellValue → ℕ
distinct_count cells = length (distinct same_cell (present cells))
