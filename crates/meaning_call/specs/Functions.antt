-- Calls of the constructors of `pd`.
use Rattle.std.specs.Prelude.{List, Result}
use Rattle.meaning_form.specs.cells.Fault.{FaultValue}
use Rattle.meaning_form.specs.tables.Value.{Entry, NamedGiven}
use Rattle.meaning_call.specs.declared.Function.TheVariants as function
use Rattle.meaning_call.specs.Signature.{function_parameters}
use Rattle.meaning_call.specs.Binding.{bound_of, on_bound}
use Rattle.meaning_form.specs.Make.{series_result, frame_result}

abbrev pub series_call : List NamedGiven → Result Entry FaultValue
series_call gs = on_bound (bound_of (function_parameters function.Series) gs) series_result

abbrev pub frame_call : List NamedGiven → Result Entry FaultValue
frame_call gs = on_bound (bound_of (function_parameters function.DataFrame) gs) frame_result
