-- Calls of the functions of `pd` that make a table of a file.
use Rattle.std.specs.Prelude.{ℕ, Bool, true, false, List, [], ◌∷◌, map, slice_get, Option, Some, None, Result, Ok, Err, if◌then◌else◌}
use Rattle.meaning_call.specs.cell_core.declared.cell.Kind.{Kind}
use Rattle.meaning_call.specs.cell_core.declared.grid.Shape.TheVariants.{Frame}
use Rattle.meaning_call.specs.cells.Text.{Text}
use Rattle.meaning_call.specs.cells.Cell.{text_cell, text}
use Rattle.meaning_call.specs.cells.Fault as fault
use Rattle.meaning_call.specs.cells.Fault.{FaultValue, wrong_kind, bad_value, argument, cast, no_records, long_row, limit}
use Rattle.meaning_select.specs.tables.Table.{Table}
use Rattle.meaning_select.specs.tables.Value.{Entry, cell, table, Given, GivenPairs, NamedGiven, one, no_entries, more_entries, dict_in}
use Rattle.meaning_call.specs.declared.Function.{Function}
use Rattle.meaning_call.specs.declared.Function.TheVariants as function
use Rattle.meaning_call.specs.Signature.{function_parameters}
use Rattle.meaning_call.specs.Binding.{Bound, not_taken, not_listed, bound, bound_of, on_bound, text_in}
use Rattle.meaning_call.specs.form.Finish.{default_labels}
use Rattle.meaning_call.specs.form.Make.{kind_named}
use Rattle.meaning_csv.specs.CsvRead.{CsvValue, CsvRefusal, not_utf8, no_record, long_record, not_of_kind, beyond_limits, columns_of_file}

abbrev pub reads_file : Option Function → Bool
reads_file (Some function.ReadCsv) = true
reads_file f = false

-- the text that names the file, which is the first argument, or what all calls refuse
abbrev pub name_in : Option Text → Result Text FaultValue
name_in None = Err wrong_kind
name_in (Some name) = Ok name

abbrev pub name_of_bound : Bound → Result Text FaultValue
name_of_bound not_taken = Err wrong_kind
name_of_bound not_listed = Err (bad_value argument)
name_of_bound (bound []) = Err wrong_kind
name_of_bound (bound (name ∷ more)) = name_in (text_in name)

abbrev pub file_name_of : Function → List NamedGiven → Result Text FaultValue
file_name_of f gs = name_of_bound (bound_of (function_parameters f) gs)

-- the kinds that a dict names for labels that are texts, in its order
abbrev pub kinds_in : GivenPairs → List (Text × Kind)
kinds_in no_entries = []
kinds_in (more_entries (text l) (one (cell (text_cell kind))) rest) = (l, kind_named kind) ∷ kinds_in rest
kinds_in (more_entries l g rest) = kinds_in rest

abbrev pub kinds_given : Option GivenPairs → List (Text × Kind)
kinds_given None = []
kinds_given (Some pairs) = kinds_in pairs

-- why a file isn't read, as the fault of a call
abbrev pub fault_of_refusal : CsvRefusal → FaultValue
fault_of_refusal (not_utf8 place) = fault.not_utf8 place
fault_of_refusal no_record = no_records
fault_of_refusal (long_record number expected seen) = long_row number expected seen
fault_of_refusal not_of_kind = bad_value cast
fault_of_refusal beyond_limits = limit

-- a frame of the columns; the labels of its rows are 0, 1 and so on
abbrev pub frame_of_columns : CsvValue → Table
frame_of_columns read =
    record {
      shape = Frame;
      columns_name = None;
      level_names = None ∷ [];
      labels = default_labels read.rows;
      headings = map (λ label. slice_get label 0) read.labels;
      columns = read.columns;
    }

abbrev pub frame_or_fault : Result CsvValue CsvRefusal → Result Entry FaultValue
frame_or_fault (Ok read) = Ok (table (frame_of_columns read))
frame_or_fault (Err refusal) = Err (fault_of_refusal refusal)

-- `pd.read_csv` of a file with these bytes, the arguments being bound
abbrev pub csv_result : List ℕ → List Given → Result Entry FaultValue
csv_result bytes (name ∷ backend ∷ dtype ∷ []) = frame_or_fault (columns_of_file bytes (kinds_given (dict_in dtype)))
-- no other number of arguments is bound
csv_result bytes gs = Err wrong_kind

abbrev pub read_result : List ℕ → List NamedGiven → Result Entry FaultValue
read_result bytes gs = on_bound (bound_of (function_parameters function.ReadCsv) gs) (csv_result bytes)
