-- Calls of methods.
use Rattle.std.specs.Prelude.{Bool, false, List, is_some, codes, Option, Some, None, Result, Err, if◌then◌else◌}
use Rattle.meaning_call.specs.cells.Text.{Text, same_text}
use Rattle.meaning_call.specs.cells.Fault.{FaultValue, no_attribute}
use Rattle.meaning_select.specs.tables.Table.{Table}
use Rattle.meaning_select.specs.tables.Value.{Entry, cell, table, Given, NamedGiven}
use Rattle.meaning_call.specs.declared.Method.{Method}
use Rattle.meaning_call.specs.declared.Method.TheVariants.{Reshape, Other}
use Rattle.meaning_call.specs.declared.OtherMethod.TheVariants.{Merge}
use Rattle.meaning_call.specs.declared.ReshapeMethod.{ReshapeMethod}
use Rattle.meaning_call.specs.Signature.{parameters_of, method_named}
use Rattle.meaning_call.specs.Binding.{bound_of, on_bound}
use Rattle.meaning_method.specs.Groups.{grouped_result}
use Rattle.meaning_method.specs.Windows.{rolling_result, expanding_result}
use Rattle.meaning_method.specs.StrCalls.{has_texts, str_result}
use Rattle.meaning_method.specs.Methods.{answer_for, is_answered}
use Rattle.meaning_method.specs.Merge.{merge_result}
use Rattle.meaning_method.specs.Reshape.{reshaped}

-- whether a value has a method of the name
abbrev pub has_method : Entry → Text → Bool
has_method (cell c) name = false
has_method (table t) name = is_some (method_named t.shape name)

-- whether a value has a method of the name, or texts behind `str`
abbrev pub has_attribute : Entry → Text → Bool
has_attribute v name = if same_text name (codes "str") then has_texts v else has_method v name

-- A method with its arguments. `groupby`, `rolling` and `expanding` stand in forms of their own, and no value has them without.
abbrev pub called : Option Method → Text → List NamedGiven → Table → Result Entry FaultValue
called None name gs t = Err (no_attribute name)
called (Some m) name gs t = if is_answered m then on_bound (bound_of (parameters_of m) gs) (λ given. answer_for m given t) else Err (no_attribute name)

-- `merge`, which takes a second table, and the methods of another shape
abbrev pub merge_call : Table → List NamedGiven → Result Entry FaultValue
merge_call t gs = on_bound (bound_of (parameters_of (Other Merge)) gs) (merge_result t)

abbrev pub reshape_call : ReshapeMethod → Table → List NamedGiven → Result Entry FaultValue
reshape_call m t gs = on_bound (bound_of (parameters_of (Reshape m)) gs) (λ given. reshaped m given t)

-- any method of a table
abbrev pub table_call : Option Method → Text → List NamedGiven → Table → Result Entry FaultValue
table_call (Some (Other Merge)) name gs t = merge_call t gs
table_call (Some (Reshape m)) name gs t = reshape_call m t gs
table_call m name gs t = called m name gs t

abbrev pub plain_result : Entry → Text → List NamedGiven → Result Entry FaultValue
plain_result (cell c) name gs = Err (no_attribute name)
plain_result (table t) name gs = table_call (method_named t.shape name) name gs t

-- what stands between an object and the arguments of a call: the name of a method; that of a method of texts, behind
-- `str`; the arguments of `groupby`, its brackets and the name behind them; or the arguments of `rolling` or
-- `expanding`, and the name behind them
pub data ChainValue : Type 0 where
  plain : Text → ChainValue
  on_texts : Text → ChainValue
  grouped : List NamedGiven → Option Given → Text → ChainValue
  rolling : List NamedGiven → Text → ChainValue
  expanding : List NamedGiven → Text → ChainValue

-- any call behind a value
abbrev pub call_result : Entry → ChainValue → List NamedGiven → Result Entry FaultValue
call_result v (plain name) gs = plain_result v name gs
call_result v (on_texts name) gs = str_result v name gs
call_result v (grouped by brackets name) gs = grouped_result v by brackets name gs
call_result v (rolling args name) gs = rolling_result v args name gs
call_result v (expanding args name) gs = expanding_result v args name gs
