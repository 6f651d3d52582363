-- Operators on cells and on columns.
use Rattle.std.specs.Prelude.{zero, suc, ◌-◌, ◌/◌, ◌%◌, ℤ, pos, negsuc, neg_ℤ, ◌+ℤ◌, ◌-ℤ◌, ◌*ℤ◌, Bool, true, false, not, List, ◌++◌, map, length, replicate, Option, Some, None, Result, Ok, Err, if◌then◌else◌}
use Rattle.std.specs.Int.{int_wrap, w64}
use Rattle.std.specs.Ordering.{is_lt, is_le, is_gt, is_ge, is_eq, int_eq}
use Rattle.std.specs.declared.cmp.Ordering.{Ordering}
use Rattle.cell_core.specs.declared.cell.Kind.{Kind}
use Rattle.cell_core.specs.declared.cell.Kind.TheVariants.{Int64, Boolean, Text as string}
use Rattle.meaning_cells.specs.Cell.{CellValue, na_cell, int_cell, truth_cell, text_cell, label_cmp}
pub use Rattle.meaning_cells.specs.Cell.{cell_label}
use Rattle.meaning_cells.specs.Column.{ColumnValue, ColumnFault, kind_mismatch, zero_division, try_pairs, column_if}
use Rattle.meaning_cells.specs.Symbol.{Binary, add, sub, mul, floor_div, mod_, eq, ne, lt, le, gt, ge, and, or, xor}

-- the quotient, rounded toward minus infinity
abbrev pub floor_quotient : ℤ → ℤ → ℤ
floor_quotient (pos a) (pos b) = pos (a / b)
floor_quotient (negsuc a) (pos b) = negsuc (a / b)
floor_quotient (pos zero) (negsuc b) = pos 0
floor_quotient (pos (suc a)) (negsuc b) = negsuc (a / suc b)
floor_quotient (negsuc a) (negsuc b) = pos (suc a / suc b)

-- what is left up to a positive divisor, less one
abbrev pub rest_from_top : ℤ → ℤ → ℤ
rest_from_top (pos a) (pos b) = pos (b - 1 - a % b)
rest_from_top x y = pos 0

-- its rest, which has the divisor's sign
abbrev pub floor_rest : ℤ → ℤ → ℤ
floor_rest (pos a) (pos b) = pos (a % b)
floor_rest (negsuc a) (pos b) = rest_from_top (pos a) (pos b)
floor_rest (pos zero) (negsuc b) = pos 0
floor_rest (pos (suc a)) (negsuc b) = neg_ℤ (pos (b - a % suc b))
floor_rest (negsuc a) (negsuc b) = neg_ℤ (pos (suc a % suc b))

-- sums of numbers wrap at 64 bits, and texts are joined
abbrev pub add_cells : CellValue → CellValue → CellValue
add_cells (int_cell x) (int_cell y) = int_cell (int_wrap w64 (x +ℤ y))
add_cells (text_cell s) (text_cell t) = text_cell (s ++ t)
add_cells a b = na_cell

-- a number of two numbers, which wraps
abbrev pub number_cells : (ℤ → ℤ → ℤ) → CellValue → CellValue → CellValue
number_cells f (int_cell x) (int_cell y) = int_cell (int_wrap w64 (f x y))
number_cells f a b = na_cell

-- a number of a number and its divisor, which wraps; a present cell by 0 is refused
abbrev pub division_cells : (ℤ → ℤ → ℤ) → CellValue → CellValue → Option CellValue
division_cells f (int_cell x) (int_cell y) = if int_eq y (pos 0) then None else Some (int_cell (int_wrap w64 (f x y)))
division_cells f a b = Some na_cell

abbrev pub cell_cmp : CellValue → CellValue → Ordering
cell_cmp a b = label_cmp (cell_label a) (cell_label b)

-- whether the order of two present cells passes
abbrev pub compare_cells : (Ordering → Bool) → CellValue → CellValue → CellValue
compare_cells test na_cell b = na_cell
compare_cells test a na_cell = na_cell
compare_cells test a b = truth_cell (test (cell_cmp a b))

-- Kleene's tables: False decides `and`, True decides `or`, nothing decides `xor`
abbrev pub and_cells : CellValue → CellValue → CellValue
and_cells (truth_cell true) (truth_cell true) = truth_cell true
and_cells (truth_cell false) b = truth_cell false
and_cells a (truth_cell false) = truth_cell false
and_cells a b = na_cell

abbrev pub or_cells : CellValue → CellValue → CellValue
or_cells (truth_cell false) (truth_cell false) = truth_cell false
or_cells (truth_cell true) b = truth_cell true
or_cells a (truth_cell true) = truth_cell true
or_cells a b = na_cell

abbrev pub xor_cells : CellValue → CellValue → CellValue
xor_cells (truth_cell a) (truth_cell b) = truth_cell (if a then not b else b)
xor_cells a b = na_cell

abbrev pub invert_cell : CellValue → CellValue
invert_cell (truth_cell b) = truth_cell (not b)
invert_cell c = na_cell

-- what an operator makes of two cells; nothing, where it refuses them
abbrev pub operator_cell : Binary → CellValue → CellValue → Option CellValue
operator_cell add a b = Some (add_cells a b)
operator_cell sub a b = Some (number_cells (λ x y. x -ℤ y) a b)
operator_cell mul a b = Some (number_cells (λ x y. x *ℤ y) a b)
operator_cell floor_div a b = division_cells floor_quotient a b
operator_cell mod_ a b = division_cells floor_rest a b
operator_cell eq a b = Some (compare_cells is_eq a b)
operator_cell ne a b = Some (compare_cells (λ o. not (is_eq o)) a b)
operator_cell lt a b = Some (compare_cells is_lt a b)
operator_cell le a b = Some (compare_cells is_le a b)
operator_cell gt a b = Some (compare_cells is_gt a b)
operator_cell ge a b = Some (compare_cells is_ge a b)
operator_cell and a b = Some (and_cells a b)
operator_cell or a b = Some (or_cells a b)
operator_cell xor a b = Some (xor_cells a b)

-- the kind of the answer, where an operator takes the two kinds: numbers, numbers or texts, one kind on both sides, truth values
abbrev pub number_kind : Kind → Kind → Option Kind
number_kind Int64 Int64 = Some Int64
number_kind a b = None

abbrev pub sum_kind : Kind → Kind → Option Kind
sum_kind string string = Some string
sum_kind a b = number_kind a b

abbrev pub comparison_kind : Kind → Kind → Option Kind
comparison_kind Int64 Int64 = Some Boolean
comparison_kind Boolean Boolean = Some Boolean
comparison_kind string string = Some Boolean
comparison_kind a b = None

abbrev pub truth_kind : Kind → Kind → Option Kind
truth_kind Boolean Boolean = Some Boolean
truth_kind a b = None

abbrev pub operator_kind : Binary → Kind → Kind → Option Kind
operator_kind add = sum_kind
operator_kind sub = number_kind
operator_kind mul = number_kind
operator_kind floor_div = number_kind
operator_kind mod_ = number_kind
operator_kind eq = comparison_kind
operator_kind ne = comparison_kind
operator_kind lt = comparison_kind
operator_kind le = comparison_kind
operator_kind gt = comparison_kind
operator_kind ge = comparison_kind
operator_kind and = truth_kind
operator_kind or = truth_kind
operator_kind xor = truth_kind

-- an operator on two columns, cell by cell
abbrev pub binary_column : Binary → ColumnValue → ColumnValue → Result ColumnValue ColumnFault
binary_column op a b = column_if (operator_kind op a.kind b.kind) zero_division (try_pairs (operator_cell op) 0 a.cells b.cells)

-- a scalar's kind, which is the other side's where it is missing
abbrev pub scalar_kind : Kind → CellValue → Kind
scalar_kind kind na_cell = kind
scalar_kind kind (int_cell z) = Int64
scalar_kind kind (truth_cell b) = Boolean
scalar_kind kind (text_cell t) = string

-- a scalar beside each cell of a column
abbrev pub scalar_column : ColumnValue → CellValue → ColumnValue
scalar_column a c = record { kind = scalar_kind a.kind c; cells = replicate (length a.cells) c }

-- an operator on a column and a scalar, which stands on the left where this is so
abbrev pub scalar_binary : Binary → ColumnValue → CellValue → Bool → Result ColumnValue ColumnFault
scalar_binary op a c true = binary_column op (scalar_column a c) a
scalar_binary op a c false = binary_column op a (scalar_column a c)

abbrev pub inverted : Kind → List CellValue → Result ColumnValue ColumnFault
inverted Boolean cells = Ok record { kind = Boolean; cells = map invert_cell cells }
inverted kind cells = Err kind_mismatch

abbrev pub invert_column : ColumnValue → Result ColumnValue ColumnFault
invert_column a = inverted a.kind a.cells
