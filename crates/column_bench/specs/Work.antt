-- What an operation is made on, and what it answers.
use Rattle.std.specs.Prelude.{◌≡◌, ℕ, pos, List, length, All, Result, Ok, Err}
use Rattle.cell_core.specs.declared.cell.Cell.{Cell}
use Rattle.cell_core.specs.declared.cell.Cell.TheVariants.{Na}
use Rattle.cell_core.specs.declared.cell.Kind.TheVariants.{Boolean}
use Rattle.column_core.specs.cells.Cell.{CellValue, datum, AreGiven}
use Rattle.column_core.specs.cells.Column.{ColumnValue, ColumnFault, shifted, taken}
use Rattle.column_core.specs.cells.Operator.{binary_column}
use Rattle.column_core.specs.cells.Reduce.{reduce_column}
use Rattle.column_core.specs.cells.Reduce as reduction
use Rattle.column_core.specs.cells.Cumulate.{cumulate_column}
use Rattle.column_core.specs.cells.Cumulate as cumulation
use Rattle.column_core.specs.cells.Cast.{cast_column}
use Rattle.nullable_array.specs.declared.ops.ArrayFault.{ArrayFault}
use Rattle.nullable_array.specs.Answers.{IsRefusal}
use Rattle.column_core.specs.Columns.{CellColumn, column_value}
use Rattle.column_core.specs.Moves.{IsPlaceOf}
use Rattle.column_operators.specs.Tasks.{operator_of}
use Rattle.column_bench.specs.declared.work.Answer.{Answer}
use Rattle.column_bench.specs.declared.work.Answer.TheVariants.{Whole, One}
use Rattle.column_bench.specs.declared.work.Work.{Work}
use Rattle.column_bench.specs.declared.work.Work.TheVariants.{Pair, Total, Running, Shifted, Taken, Truths}

-- the cells are of no dictionary
abbrev pub NeedNoTexts : List Cell → Type 0
NeedNoTexts cells = (texts : List (List ℕ)) → AreGiven texts cells

-- the operands are such that the operation takes them
pub record ArePaired (a b : List Cell) : Type 0 where
  pub same : length a ≡ length b
  pub left : NeedNoTexts a
  pub right : NeedNoTexts b

abbrev pub IsReady : Work → Type 0
IsReady (Pair op a b) = ArePaired a.cells b.cells
IsReady (Total a) = NeedNoTexts a.cells
IsReady (Running a) = NeedNoTexts a.cells
IsReady (Shifted a) = NeedNoTexts a.cells
IsReady (Taken a places) = All (IsPlaceOf (length a.cells)) places
IsReady (Truths a) = NeedNoTexts a.cells

-- a column, or one cell
pub data WorkValue : Type 0 where
  whole : ColumnValue → WorkValue
  one : CellValue → WorkValue

abbrev pub whole_of : Result ColumnValue ColumnFault → Result WorkValue ColumnFault
whole_of (Ok column) = Ok (whole column)
whole_of (Err fault) = Err fault

abbrev pub one_of : Result CellValue ColumnFault → Result WorkValue ColumnFault
one_of (Ok c) = Ok (one c)
one_of (Err fault) = Err fault

-- the column one row on, and the cells at the places
abbrev pub shifted_column : CellColumn → CellColumn
shifted_column a = record { kind = a.kind; cells = shifted Na a.cells (pos 1) }

-- what is to be answered, where these are the texts by number
abbrev pub work_value : List (List ℕ) → Work → Result WorkValue ColumnFault
work_value texts (Pair op a b) = whole_of (binary_column (operator_of op) (column_value texts a) (column_value texts b))
work_value texts (Total a) = one_of (reduce_column reduction.sum (column_value texts a))
work_value texts (Running a) = whole_of (cumulate_column cumulation.sum (column_value texts a))
work_value texts (Shifted a) = Ok (whole (column_value texts (shifted_column a)))
work_value texts (Taken a places) = Ok (whole (column_value texts record { kind = a.kind; cells = taken Na a.cells places }))
work_value texts (Truths a) = whole_of (cast_column Boolean (column_value texts a))

abbrev pub answer_value : List (List ℕ) → Answer → WorkValue
answer_value texts (Whole column) = whole (column_value texts column)
answer_value texts (One c) = one (datum texts c)

-- the answer, read through these texts, is the one that is to be answered, or the refusal is
abbrev pub IsAnswer : List (List ℕ) → Result Answer ArrayFault → Result WorkValue ColumnFault → Type 0
IsAnswer texts (Ok answer) value = value ≡ Ok (answer_value texts answer)
IsAnswer texts (Err fault) value = IsRefusal fault value
