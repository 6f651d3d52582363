-- Summaries of columns.
use Rattle.{
  frame_parts.proofs.Common.{arith, ◌≡◌, append_assoc, ◌<◌, ◌+◌, ◌^◌, ℕ, pos, List, [], ◌∷◌, ◌++◌, length, Result, Ok, map-append, drop_more, All-push, cast_signed, w64, Cell, Kind, Text, CellValue, datum, IsGiven, FaultValue, CellColumn, ColumnOf, column_value, column_at, no_column, table_column},
  std.specs.Int.{int_wrap},
  column_core.proofs.cells.Common.{mod-eq_of_lt, length-append, distinct_count},
  frame_methods.specs.Summaries.{AreCells, counted_cell},
}
use Rattle.column_core.specs.Columns as kernel
use Rattle.frame_labels.specs.method.Methods as meant

-- a number below 2^64 as what is left of it in 64 bits
count_wraps : (n : ℕ) → n < 2 ^ 64 → int_wrap w64 (pos n) ≡ cast_signed w64 n
unfolding int_wrap
count_wraps = search mod-eq_of_lt

pub distinct_answer : (texts : List Text) (a : CellColumn) (n : ℕ) (c : Cell) → n < 2 ^ 64 → n ≡ distinct_count (kernel.column_value texts a).cells → c ≡ counted_cell n
    → meant.summary_cell meant.distinct (column_value texts (table_column a)) ≡ Ok (datum texts c)
distinct_answer _ a n c lt is cell = cc (count_wraps n lt)

pub cells_step : (f : ColumnOf CellValue → Result CellValue FaultValue) (dict : List Text) (columns : List (ColumnOf Cell)) (kind : Kind) (place : ℕ) (made made' a : CellColumn) (x : Cell)
    → AreCells f dict columns kind place made → place < length columns → column_at columns place ≡ table_column a → IsGiven dict x → made' ≡ record { kind = made.kind; cells = made.cells ++ x ∷ [] }
    → f (column_value dict (table_column a)) ≡ Ok (datum dict x) → AreCells f dict columns kind (place + 1) made'
cells_step f dict columns kind place made _ a x so_far lt at given more is = rw more record {
  same = so_far.same;
  count = grind (arith, length-append);
  given = All-push (IsGiven dict) made.cells x so_far.given given;
  answer = grind (arith, drop_more columns place no_column lt, map-append, append_assoc);
}
