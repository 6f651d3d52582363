-- What a call answers.
use Rattle.std.specs.Prelude.{◌≡◌, ℕ, List, Result, Ok, Err}
use Rattle.cell_core.specs.declared.cell.Cell.{Cell}
use Rattle.column_core.specs.cells.Cell.{CellValue, datum}
use Rattle.column_core.specs.cells.Column.{ColumnValue, ColumnFault, kind_mismatch, zero_division, not_cast}
use Rattle.nullable_array.specs.declared.ops.ArrayFault.{ArrayFault}
use Rattle.nullable_array.specs.declared.ops.ArrayFault.TheVariants.{KindMismatch, ZeroDivision, NotCast, NoMemory}
use Rattle.column_core.specs.Columns.{CellColumn, column_value}

-- the refusal is this fault; want of memory may come in place of any answer
abbrev pub IsRefusal : {T : Type 0} → ArrayFault → Result T ColumnFault → Type 0
IsRefusal KindMismatch whole = whole ≡ Err kind_mismatch
IsRefusal (ZeroDivision row) whole = whole ≡ Err (zero_division row)
IsRefusal (NotCast row) whole = whole ≡ Err (not_cast row)
IsRefusal NoMemory whole = Unit {0}

-- the column that is answered, read through these texts, is the one that is to be answered, or the refusal is
abbrev pub Answers : List (List ℕ) → Result CellColumn ArrayFault → Result ColumnValue ColumnFault → Type 0
Answers texts (Ok column) whole = whole ≡ Ok (column_value texts column)
Answers texts (Err fault) whole = IsRefusal fault whole

-- the cell that is answered, read through these texts, is the one that is to be answered, or the refusal is
abbrev pub AnswersCell : List (List ℕ) → Result Cell ArrayFault → Result CellValue ColumnFault → Type 0
AnswersCell texts (Ok c) whole = whole ≡ Ok (datum texts c)
AnswersCell texts (Err NoMemory) whole = ⊥
AnswersCell texts (Err fault) whole = IsRefusal fault whole
