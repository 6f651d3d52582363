-- Calls behind `str` make valid tables of valid ones, and no call has the fault that a file isn't there.
use Rattle.{
  meaning_script.{proofs.cells.Common.{arith, ◌≡◌, ℕ, List, length, length-map, map, Bool, true, false, Option, Some, None, Result, Ok, Err, IfOk, if◌then◌else◌, Text, CellValue, Kind, ColumnValue}, specs.{tables.{Table.{Table}, Value.{Entry, cell, table, Given, NamedGiven}}, text.TextMethod.{TextMethod, TextMethodFault, bad_argument, method_cell, method_kind, method_column, takes, method_of_kind}, call.{declared.StrMethod.{StrMethod}, Signature.{str_parameters, str_named}, Binding.{bound_of}}, method.StrCalls.{has_texts, told, made_texts, worked, str_answer, str_call, str_result}}},
  meaning_laws.{specs.{Validity.{IsValidObject, IsValidEntry}, FormFault.{HasFormFault}}, proofs.{Words.{Keeps, Column, Cells}, ListLaws.{all_mapped, on_keeps}, ColumnLaws.{IsColumn, IsColumnOf, Held, wrap_fits}, TableLaws.{IsShaped, shaped}, MethodLaws.{each_keeps, on_bound_keeps}, FormFaults.{if_fault, on_fault, on_bound_fault}, MethodFaults.{each_column_fault}}},
}
use Rattle.meaning_script.specs.cells.Cell.{string}

-- ---- valid tables

-- the kind of a method holds what it makes of each cell
method_held : (m : TextMethod) (c : CellValue) → Held (method_kind m) (method_cell m c)
method_held = grind (arith, wrap_fits)

made_column : (m : TextMethod) (rows : ℕ) (cells : Cells) → length cells ≡ rows → IsColumnOf rows (method_kind m) (map (method_cell m) cells)
made_column m rows cells filled = search (length-map, all_mapped, method_held)

taken_keeps : (m : TextMethod) (rows : ℕ) (taken : Bool) (cells : Cells) → length cells ≡ rows → IfOk (made_texts (if taken then Ok (method_column m cells) else Err bad_argument)) (IsColumn rows)
taken_keeps m rows true cells filled = made_column m rows cells filled
taken_keeps m rows false cells filled = tt

of_kind_keeps : (m : TextMethod) (rows : ℕ) (kind : Kind) (cells : Cells) → length cells ≡ rows → IfOk (made_texts (method_of_kind m kind cells)) (IsColumn rows)
of_kind_keeps m rows string cells filled = taken_keeps m rows (takes m) cells filled
of_kind_keeps m rows _ cells filled = tt

worked_keeps : (m : TextMethod) (rows : ℕ) (c : Column) → IsColumn rows c → IfOk (worked m c) (IsColumn rows)
worked_keeps m rows c h = of_kind_keeps m rows c.kind c.cells h.filled

answer_keeps : (t : Table) (m : StrMethod) (gs : List Given) → IsShaped t → Keeps (str_answer t m gs)
answer_keeps t m gs s = on_keeps IsValidEntry (told m gs) _ (λ method. each_keeps (worked method) t s (worked_keeps method))

call_keeps : (o : Option StrMethod) (name : Text) (gs : List NamedGiven) (t : Table) → IsShaped t → Keeps (str_call o name gs t)
call_keeps None name gs t s = tt
call_keeps (Some m) name gs t s = on_bound_keeps (bound_of (str_parameters m) gs) (str_answer t m) (λ given. answer_keeps t m given s)

pub str_result_keeps : (v : Entry) (name : Text) (gs : List NamedGiven) → IsValidObject v → Keeps (str_result v name gs)
str_result_keeps = grind (arith, call_keeps, shaped)

-- ---- faults

made_fault : (r : Result ColumnValue TextMethodFault) → HasFormFault (made_texts r)
made_fault = grind arith

answer_fault : (t : Table) (m : StrMethod) (gs : List Given) → HasFormFault (str_answer t m gs)
answer_fault t m gs = on_fault (told m gs) _ (λ method. each_column_fault (worked method) t (λ c. made_fault _))

call_fault : (o : Option StrMethod) (name : Text) (gs : List NamedGiven) (t : Table) → HasFormFault (str_call o name gs t)
call_fault None name gs t = tt
call_fault (Some m) name gs t = on_bound_fault (bound_of (str_parameters m) gs) (str_answer t m) (answer_fault t m)

pub str_result_fault : (v : Entry) (name : Text) (gs : List NamedGiven) → HasFormFault (str_result v name gs)
str_result_fault (cell c) name gs = tt
str_result_fault (table t) name gs = if_fault (has_texts (table t)) _ _ (call_fault (str_named name) name gs t) tt
