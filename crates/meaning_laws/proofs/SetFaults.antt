-- No setting and no removal has the fault that a file isn't there.
use Rattle.{
  meaning_script.{proofs.cells.Common.{arith, List, Option, Result, Shape, LabelValue, Accessor, FaultValue}, specs.{tables.{Table.{Table}, Value.{Entry, Given, GivenSub}}, form.Finish.{column_labels}, pick.Keys.{Pick}, select.{Keys.{columns_by}, Select.{Way}, Set.{SetValue, set_value, series_set, frame_set, added_label, or_added, columns_set, Target, target_by, values_for, target_set, assign_result, removal_result}}}},
  meaning_laws.{specs.FormFault.{HasFormFault}, proofs.{FormFaults.{if_fault, then_value_fault, met_rows_fault, limited_table_fault, of_length_fault}, SelectFaults.{joined_key_fault, label_columns_fault, rows_by_fault, columns_by_fault}}},
}

set_value_fault : (g : Given) → HasFormFault (set_value g)
set_value_fault = grind (arith, if_fault)

series_set_fault : (t : Table) (l : LabelValue) (s : Table) → HasFormFault (series_set t l s)
series_set_fault = search (if_fault, then_value_fault, met_rows_fault, limited_table_fault)

frame_set_fault : (t : Table) (k : GivenSub) (g : Given) → HasFormFault (frame_set t k g)
frame_set_fault = grind (arith, then_value_fault, set_value_fault, limited_table_fault, if_fault, of_length_fault, series_set_fault)

-- what keys reach
or_added_fault : (added : Option LabelValue) (tuples : List (List LabelValue)) (pick : Result Pick FaultValue) → HasFormFault pick → HasFormFault (or_added added tuples pick)
or_added_fault = grind (arith, then_value_fault, if_fault)

columns_set_fault : (by : Accessor) (t : Table) (k : GivenSub) → HasFormFault (columns_set by t k)
columns_set_fault by t k = or_added_fault (added_label by k) (column_labels t) (columns_by by t k) (columns_by_fault by t k)

target_by_fault : (s : Shape) (by : Accessor) (t : Table) (first : GivenSub) (second : Option GivenSub) → HasFormFault (target_by s by t first second)
target_by_fault = grind (arith, then_value_fault, or_added_fault, rows_by_fault, joined_key_fault, if_fault, columns_set_fault)

values_fault : (by : Accessor) (t : Table) (target : Target) (value : SetValue) → HasFormFault (values_for by t target value)
values_fault = grind (arith, if_fault, of_length_fault, then_value_fault, met_rows_fault)

target_set_fault : (by : Accessor) (t : Table) (value : SetValue) (target : Target) → HasFormFault (target_set by t value target)
target_set_fault = grind (if_fault, then_value_fault, values_fault, arith, limited_table_fault)

pub assign_result_fault : (v : Entry) (way : Way) (first : GivenSub) (second : Option GivenSub) (g : Given) → HasFormFault (assign_result v way first second g)
assign_result_fault = grind (arith, then_value_fault, set_value_fault, target_by_fault, target_set_fault, frame_set_fault)

pub removal_result_fault : (v k : Entry) → HasFormFault (removal_result v k)
removal_result_fault = grind (arith, if_fault, then_value_fault, label_columns_fault)
