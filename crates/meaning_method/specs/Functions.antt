-- Calls of the functions of `pd`.
use Rattle.std.specs.Prelude.{ℕ, List, [], Option, Some, None, Result, Err}
use Rattle.meaning_call.specs.cells.Text.{Text}
use Rattle.meaning_call.specs.cells.Fault.{FaultValue, no_attribute}
use Rattle.meaning_select.specs.tables.Value.{Entry, NamedGiven}
use Rattle.meaning_call.specs.declared.Function.{Function}
use Rattle.meaning_call.specs.declared.Function.TheVariants as function
use Rattle.meaning_call.specs.Functions.{series_call, frame_call}
use Rattle.meaning_call.specs.Signature.{function_named}
use Rattle.meaning_method.specs.Concat.{concat_call}
use Rattle.meaning_method.specs.Readers.{read_result}

-- one that reads a file makes a table of its bytes, without which there are none; no other looks at bytes
abbrev pub made_by : Function → Option (List ℕ) → List NamedGiven → Result Entry FaultValue
made_by function.Series file gs = series_call gs
made_by function.DataFrame file gs = frame_call gs
made_by function.ReadCsv None gs = read_result [] gs
made_by function.ReadCsv (Some bytes) gs = read_result bytes gs
made_by function.Concat file gs = concat_call gs

abbrev pub made_named : Option Function → Option (List ℕ) → Text → List NamedGiven → Result Entry FaultValue
made_named None file name gs = Err (no_attribute name)
made_named (Some f) file name gs = made_by f file gs

-- a function of `pd`, with the bytes of a file where it reads one
abbrev pub function_result : Option (List ℕ) → Text → List NamedGiven → Result Entry FaultValue
function_result file name gs = made_named (function_named name) file name gs
