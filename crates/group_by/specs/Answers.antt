-- What a call answers.
use Rattle.std.specs.Prelude.{◌≡◌, ℕ, List, Result, Ok, Err}
use Rattle.column_core.specs.cells.Column.{ColumnValue, ColumnFault, kind_mismatch}
use Rattle.column_core.specs.Columns.{CellColumn, column_value}
use Rattle.group_by.specs.declared.ops.GroupFault.{GroupFault}
use Rattle.group_by.specs.declared.ops.GroupFault.TheVariants.{KindMismatch, NoMemory}

-- the column that is answered, read through these texts, is the one that is to be answered, or the refusal is; want of
-- memory may come in place of any answer
abbrev pub Answers : List (List ℕ) → Result CellColumn GroupFault → Result ColumnValue ColumnFault → Type 0
Answers texts (Ok column) whole = whole ≡ Ok (column_value texts column)
Answers texts (Err KindMismatch) whole = whole ≡ Err kind_mismatch
Answers texts (Err NoMemory) whole = Unit {0}
