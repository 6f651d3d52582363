-- What a method of texts answers.
use Rattle.std.specs.Prelude.{◌≡◌, ℕ, List, Result, Ok, Err}
use Rattle.column_core.specs.cells.Cell.{text_of}
use Rattle.column_core.specs.cells.Column.{ColumnValue}
use Rattle.column_core.specs.Columns.{CellColumn, column_value}
use Rattle.meaning_text.specs.TextMethod.{TextMethod, TextMethodFault, not_text, bad_argument}
use Rattle.meaning_text.specs.TextMethod as method
use Rattle.text_methods.specs.declared.ops.TextOp.{TextOp}
use Rattle.text_methods.specs.declared.ops.TextOp.TheVariants.{Len, Strip, Starts, Ends, Contains, Slice, Fill}
use Rattle.text_methods.specs.declared.ops.TextFault.{TextFault}
use Rattle.text_methods.specs.declared.ops.TextFault.TheVariants.{NotText, BadArgument, NoMemory}

-- the method, where these are the texts by number
abbrev pub method_of : List (List ℕ) → TextOp → TextMethod
method_of texts Len = method.len
method_of texts Strip = method.strip
method_of texts (Starts id) = method.starts (text_of texts id)
method_of texts (Ends id) = method.ends (text_of texts id)
method_of texts (Contains id) = method.contains (text_of texts id)
method_of texts (Slice from to step) = method.slice from to step
method_of texts (Fill width) = method.fill width

-- the refusal is this fault; want of memory may come in place of any answer
abbrev pub IsRefusal : TextFault → Result ColumnValue TextMethodFault → Type 0
IsRefusal NotText whole = whole ≡ Err not_text
IsRefusal BadArgument whole = whole ≡ Err bad_argument
IsRefusal NoMemory whole = Unit {0}

-- the column that is answered, read through these texts, is the one that is to be answered, or the refusal is
abbrev pub Answers : List (List ℕ) → Result CellColumn TextFault → Result ColumnValue TextMethodFault → Type 0
Answers texts (Ok column) whole = whole ≡ Ok (column_value texts column)
Answers texts (Err fault) whole = IsRefusal fault whole
