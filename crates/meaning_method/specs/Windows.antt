-- What a call behind `rolling` or `expanding` answers.
use Rattle.std.specs.Prelude.{ℕ, ℤ, pos, negsuc, nat_lt, nat_le, ◌&&◌, List, [], ◌∷◌, unwrap_or, codes, Option, Some, None, Result, Ok, Err, if◌then◌else◌}
use Rattle.meaning_call.specs.cells.Text.{Text, same_text}
use Rattle.meaning_call.specs.cells.Cell.{CellValue}
use Rattle.meaning_call.specs.cells.Column.{ColumnValue, ColumnFault}
use Rattle.meaning_call.specs.cells.Cumulate as cumulation
use Rattle.meaning_call.specs.cells.Cumulate.{Cumulation}
use Rattle.meaning_call.specs.cells.Fault.{FaultValue, no_attribute, wrong_kind, bad_value, argument, then_value}
use Rattle.meaning_window.specs.Window.{rolled_column, expanded_column}
use Rattle.meaning_select.specs.tables.Table.{ColumnOf, Table}
use Rattle.meaning_select.specs.tables.Value.{Entry, cell, table, Given, NamedGiven}
use Rattle.meaning_call.specs.declared.Method.TheVariants.{Other}
use Rattle.meaning_call.specs.declared.OtherMethod.TheVariants.{Rolling, Expanding}
use Rattle.meaning_call.specs.Signature.{parameters_of}
use Rattle.meaning_call.specs.Binding.{bound_of, whole_in}
use Rattle.meaning_call.specs.form.Finish.{value_of_column, made_column}
use Rattle.meaning_call.specs.form.Make.{on}
use Rattle.meaning_method.specs.Groups.{of_bound, without_arguments}
use Rattle.meaning_method.specs.Methods.{each_column}

-- the window of a row: the last so many rows up to it, or all; and how many of its cells must be present
pub data Windows : Type 0 where
  rolling : ℕ → ℕ → Windows
  expanding : ℕ → Windows

-- a window has a row at least, and no more cells must be present than it has rows
abbrev pub rolling_of : ℤ → ℤ → Result Windows FaultValue
rolling_of (pos rows) (pos least) = if nat_lt 0 rows && nat_le least rows then Ok (rolling rows least) else Err (bad_value argument)
rolling_of rows least = Err (bad_value argument)

abbrev pub expanding_of : ℤ → Result Windows FaultValue
expanding_of (pos least) = Ok (expanding least)
expanding_of (negsuc least) = Err (bad_value argument)

-- where it isn't said how many, all cells of a window must be present
abbrev pub rolling_in : List Given → Result Windows FaultValue
rolling_in (window ∷ least ∷ []) = on (whole_in window) (λ rows. rolling_of rows (unwrap_or (whole_in least) rows))
-- no other number of arguments is bound
rolling_in gs = Err wrong_kind

abbrev pub expanding_in : List Given → Result Windows FaultValue
expanding_in (least ∷ []) = on (whole_in least) expanding_of
expanding_in gs = Err wrong_kind

-- the arguments of `rolling`, and those of `expanding`
abbrev pub rolling_windows : List NamedGiven → Result Windows FaultValue
rolling_windows args = of_bound rolling_in (bound_of (parameters_of (Other Rolling)) args)

abbrev pub expanding_windows : List NamedGiven → Result Windows FaultValue
expanding_windows args = of_bound expanding_in (bound_of (parameters_of (Other Expanding)) args)

-- the last call, which takes no argument
abbrev pub window_call : Text → Option Cumulation
window_call t =
    if same_text t (codes "sum") then Some cumulation.sum
    else if same_text t (codes "min") then Some cumulation.min
    else if same_text t (codes "max") then Some cumulation.max
    else None

-- at each row what the call makes of the row's window
abbrev pub window_column : Windows → Cumulation → ColumnValue → Result ColumnValue ColumnFault
window_column (rolling rows least) op c = rolled_column rows least op c
window_column (expanding least) op c = expanded_column least op c

abbrev pub windowed : Windows → Cumulation → ColumnOf CellValue → Result (ColumnOf CellValue) FaultValue
windowed w op c = made_column (window_column w op (value_of_column c))

-- the arguments of the windows, then the last call, then what it makes of each column
abbrev pub windows_of : Table → Result Windows FaultValue → Text → List NamedGiven → Result Entry FaultValue
windows_of t windows name gs = then_value windows (λ w. then_value (without_arguments (window_call name) name gs) (λ op. each_column (windowed w op) t))

-- a scalar has neither `rolling` nor `expanding`
abbrev pub rolling_result : Entry → List NamedGiven → Text → List NamedGiven → Result Entry FaultValue
rolling_result (cell c) args name gs = Err (no_attribute (codes "rolling"))
rolling_result (table t) args name gs = windows_of t (rolling_windows args) name gs

abbrev pub expanding_result : Entry → List NamedGiven → Text → List NamedGiven → Result Entry FaultValue
expanding_result (cell c) args name gs = Err (no_attribute (codes "expanding"))
expanding_result (table t) args name gs = windows_of t (expanding_windows args) name gs
