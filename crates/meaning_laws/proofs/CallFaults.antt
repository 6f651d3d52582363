-- No call of a method or a function has the fault that a file isn't there.
use Rattle.{
  meaning_script.{proofs.cells.Common.{arith, List, [], ◌∷◌, Bool, Option, ℕ, false, Some, None, Result, ◌≡◌, true, LabelValue, CellValue, Text, FaultValue, Cumulation, Shape, Series, Frame}, specs.{shapes.Reshape.{UnstackRefusal}, group.Reductions.{GroupReduction}, tables.{Table.{ColumnOf, Table}, Value.{Given, object_in, NamedGiven, GivenList, Entry, cell, table}}, call.{declared.{Function.{Function}, Method.{Method}, ReshapeMethod.{ReshapeMethod}}, Binding.{text_in, bound_of, Bound}, Signature.{function_parameters, function_named}}, method.{Merge.{keys_named, keys_under, keys_on, keys_of_merge, merge_result}, Concat.{Concatenation, frames_in_order, frames_by_label, unless_label_twice, frames_below, below, along, concat_result, concat_call}, Groups.{Grouping, Values, GroupCall, group_answer, of_bound, grouping_in, values_named, values_in, transform_in, without_arguments, group_call_of, grouped_of, grouped_result}, Calls.{ChainValue, table_call, plain_result, call_result}, Windows.{Windows, rolling_in, expanding_in, window_call, windowed, windows_of, rolling_result, expanding_result}, Reshape.{met_labels, unstacked_at, Pivoted, pivoted_in, pivoted, group_series, melted_in, value_labels, melt_result, reshaped}, Functions.{made_named, function_result}, Readers.{reads_file, read_result}}, select.Select.{shown_as}}},
  meaning_laws.{specs.FormFault.{HasFormFault}, proofs.{FormFaults.{if_fault, then_value_fault, unless_repeated_fault, first_columns_fault, argument_columns_fault, on_fault, limited_fault, try_all_fault, of_length_fault, on_bound_fault, made_column_fault, argument_column_fault, series_call_fault, frame_call_fault, read_result_fault}, MethodFaults.{each_column_fault, level_of_fault, called_fault}, StrLaws.{str_result_fault}}},
}
use Rattle.meaning_script.specs.call.declared.Function.TheVariants as function
use Rattle.meaning_script.specs.call.declared.Method.TheVariants as method
use Rattle.meaning_script.specs.call.declared.OtherMethod.TheVariants as other_method
use Rattle.meaning_script.specs.call.declared.ReshapeMethod.TheVariants as reshape
use Rattle.meaning_script.specs.method.Groups as groups
use Rattle.meaning_script.specs.method.Calls as call

-- ---- merging

keys_named_fault : (l r : Table) (ls : List LabelValue) → HasFormFault (keys_named l r ls)
keys_named_fault = search (then_value_fault, first_columns_fault, unless_repeated_fault)

under_fault : (l r : Table) (ls : List LabelValue) → HasFormFault (keys_under l r ls)
under_fault l r [] = tt
under_fault l r (label ∷ ls) = keys_named_fault l r (label ∷ ls)

keys_on_fault : (l r : Table) (g : Given) → HasFormFault (keys_on l r g)
keys_on_fault = grind (arith, under_fault, keys_named_fault)

merge_result_fault : (l : Table) (gs : List Given) → HasFormFault (merge_result l gs)
merge_result_fault l (right ∷ h ∷ labels ∷ once ∷ []) =
    on_fault (object_in right) _
    (λ r. on_fault (text_in h) _ (λ t. then_value_fault (keys_of_merge l r labels) _ (then_value_fault _ _ (keys_on_fault l r labels) (search if_fault)) (grind (arith, limited_fault))))
merge_result_fault _ _ = tt

-- ---- joining tables end to end

label_twice_fault : {A : Type 0} (again : Option (List LabelValue)) (rest : Result A FaultValue) → HasFormFault rest → HasFormFault (unless_label_twice again rest)
label_twice_fault = grind arith

in_order_fault : (ts : List Table) (c : Concatenation) (hs : List (Option LabelValue)) → HasFormFault (frames_in_order ts c hs)
in_order_fault = search (then_value_fault, try_all_fault, on_fault, if_fault, limited_fault)

by_label_fault : (ts : List Table) (c : Concatenation) (hs : List (Option LabelValue)) → HasFormFault (frames_by_label ts c hs)
by_label_fault = search (then_value_fault, try_all_fault, on_fault, if_fault, limited_fault)

frames_below_fault : (ts : List Table) (c : Concatenation) → HasFormFault (frames_below ts c)
frames_below_fault = search (if_fault, label_twice_fault, in_order_fault, by_label_fault)

below_fault : (ts : List Table) (c : Concatenation) → HasFormFault (below ts c)
below_fault = search (if_fault, then_value_fault, on_fault, limited_fault, frames_below_fault)

along_fault : (across : Bool) (ts : List Table) (c : Concatenation) → HasFormFault (along across ts c)
along_fault = grind (arith, if_fault, limited_fault, below_fault)

concat_result_fault : (gs : List Given) → HasFormFault (concat_result gs)
concat_result_fault = grind (arith, on_fault, of_length_fault, along_fault)

concat_call_fault : (gs : List NamedGiven) → HasFormFault (concat_call gs)
concat_call_fault gs = on_bound_fault (bound_of (function_parameters function.Concat) gs) concat_result concat_result_fault

-- ---- groups

shown_fault : (single : Bool) (t : Table) → HasFormFault (shown_as false single t)
shown_fault = grind (arith, limited_fault)

answer_fault : (t : Table) (g : Grouping) (v : Values) (call : GroupCall) → HasFormFault (group_answer t g v call)
answer_fault t g v (groups.reduced op) = search (then_value_fault, try_all_fault, made_column_fault, if_fault, shown_fault, unless_repeated_fault, limited_fault)
answer_fault t g v groups.size = search (if_fault, shown_fault, unless_repeated_fault, limited_fault)
answer_fault t g v (groups.transformed op) = search (then_value_fault, try_all_fault, made_column_fault, shown_fault)
answer_fault t g v groups.cumsum = search (then_value_fault, try_all_fault, made_column_fault, shown_fault)
answer_fault t g v groups.cumcount = search shown_fault

-- the arguments of `groupby`
of_bound_fault : {A : Type 0} (read : List Given → Result A FaultValue) (b : Bound) → ((gs : List Given) → HasFormFault (read gs)) → HasFormFault (of_bound read b)
of_bound_fault = grind arith

grouping_in_fault : (t : Table) (gs : List Given) → HasFormFault (grouping_in t gs)
grouping_in_fault = grind (arith, then_value_fault, argument_columns_fault, if_fault)

-- the brackets
named_fault : (t : Table) (o : Option CellValue) (parts : Option GivenList) → HasFormFault (values_named t o parts)
named_fault t (Some c) _ = search (then_value_fault, argument_column_fault)
named_fault t None (Some parts) = search (if_fault, then_value_fault, argument_columns_fault)
named_fault t None None = tt

values_fault : (t : Table) (keys : List ℕ) (brackets : Option Given) → HasFormFault (values_in t keys brackets)
values_fault = grind (arith, named_fault)

transform_fault : (gs : List Given) → HasFormFault (transform_in gs)
transform_fault = grind arith

without_fault : {A : Type 0} (o : Option A) (name : Text) (gs : List NamedGiven) → HasFormFault (without_arguments o name gs)
without_fault = grind (arith, of_bound_fault)

call_fault : (name : Text) (gs : List NamedGiven) → HasFormFault (group_call_of name gs)
call_fault = search (if_fault, of_bound_fault, transform_fault, without_fault)

grouped_of_fault : (shape : Shape) (t : Table) (by : List NamedGiven) (brackets : Option Given) (name : Text) (gs : List NamedGiven) → HasFormFault (grouped_of shape t by brackets name gs)
grouped_of_fault Series t _ _ _ _ = tt
grouped_of_fault Frame t _ _ _ _ = search (then_value_fault, of_bound_fault, grouping_in_fault, values_fault, call_fault, answer_fault)

grouped_fault : (v : Entry) (by : List NamedGiven) (brackets : Option Given) (name : Text) (gs : List NamedGiven) → HasFormFault (grouped_result v by brackets name gs)
grouped_fault = grind (arith, grouped_of_fault)

-- ---- windows

rolling_in_fault : (gs : List Given) → HasFormFault (rolling_in gs)
rolling_in_fault = grind (arith, on_fault, if_fault)

expanding_in_fault : (gs : List Given) → HasFormFault (expanding_in gs)
expanding_in_fault = grind (arith, on_fault)

windowed_fault : (w : Windows) (op : Cumulation) (c : ColumnOf CellValue) → HasFormFault (windowed w op c)
windowed_fault w op c = made_column_fault _

windows_fault : (t : Table) (windows : Result Windows FaultValue) (name : Text) (gs : List NamedGiven) → HasFormFault windows → HasFormFault (windows_of t windows name gs)
windows_fault t windows name gs h = then_value_fault windows _ h (λ w. then_value_fault _ _ (without_fault (window_call name) name gs) (λ op. each_column_fault (windowed w op) t (windowed_fault w op)))

rolling_fault : (v : Entry) (args : List NamedGiven) (name : Text) (gs : List NamedGiven) → HasFormFault (rolling_result v args name gs)
rolling_fault (cell c) args name gs = tt
rolling_fault (table t) args name gs = search (windows_fault, of_bound_fault, rolling_in_fault)

expanding_fault : (v : Entry) (args : List NamedGiven) (name : Text) (gs : List NamedGiven) → HasFormFault (expanding_result v args name gs)
expanding_fault (cell c) args name gs = tt
expanding_fault (table t) args name gs = search (windows_fault, of_bound_fault, expanding_in_fault)

-- ---- other shapes

met_labels_fault : {A : Type 0} (r : Result A (UnstackRefusal (List LabelValue))) → HasFormFault (met_labels r)
met_labels_fault = grind arith

unstacked_fault : (t : Table) (level : ℕ) → HasFormFault (unstacked_at t level)
unstacked_fault = search (then_value_fault, met_labels_fault, limited_fault)

pivoted_in_fault : (t : Table) (index columns values : Given) → HasFormFault (pivoted_in t index columns values)
pivoted_in_fault = search (then_value_fault, argument_columns_fault, if_fault, on_fault, argument_column_fault)

pivoted_fault : (p : Pivoted) (s : Table) → HasFormFault (pivoted p s)
pivoted_fault = search (if_fault, unstacked_fault)

group_series_fault : (t : Table) (keys : List ℕ) (place : ℕ) (op : GroupReduction) → HasFormFault (group_series t keys place op)
group_series_fault = search (then_value_fault, try_all_fault, made_column_fault)

melted_in_fault : (t : Table) (ids values : Given) → HasFormFault (melted_in t ids values)
melted_in_fault = grind (arith, then_value_fault, argument_columns_fault)

labels_fault : (t : Table) (values : List ℕ) → HasFormFault (value_labels t values)
labels_fault = grind (arith, if_fault)

melt_fault : (t : Table) (ids values : Given) → HasFormFault (melt_result t ids values)
melt_fault = search (then_value_fault, melted_in_fault, labels_fault, on_fault, limited_fault)

reshaped_fault : (m : ReshapeMethod) (gs : List Given) (t : Table) → HasFormFault (reshaped m gs t)
reshaped_fault reshape.Stack gs t = search (on_fault, if_fault, limited_fault)
reshaped_fault reshape.Unstack (level ∷ []) t = search (if_fault, then_value_fault, level_of_fault, unstacked_fault)
reshaped_fault reshape.Pivot (columns ∷ index ∷ values ∷ []) t = search (then_value_fault, pivoted_in_fault, pivoted_fault)
reshaped_fault reshape.PivotTable (values ∷ index ∷ columns ∷ aggfunc ∷ []) t = search (on_fault, then_value_fault, pivoted_in_fault, group_series_fault, pivoted_fault)
reshaped_fault reshape.Melt (ids ∷ values ∷ []) t = melt_fault t ids values
reshaped_fault m gs t = tt

-- ---- calls

table_call_fault : (o : Option Method) (name : Text) (gs : List NamedGiven) (t : Table) → HasFormFault (table_call o name gs t)
table_call_fault (Some (method.Other other_method.Merge)) name gs t = search (on_bound_fault, merge_result_fault)
table_call_fault (Some (method.Reshape m)) name gs t = search (on_bound_fault, reshaped_fault)
table_call_fault o name gs t = called_fault o name gs t

plain_result_fault : (v : Entry) (name : Text) (gs : List NamedGiven) → HasFormFault (plain_result v name gs)
plain_result_fault (cell c) name gs = tt
plain_result_fault (table t) name gs = table_call_fault _ name gs t

pub call_result_fault : (v : Entry) (chain : ChainValue) (gs : List NamedGiven) → HasFormFault (call_result v chain gs)
call_result_fault v (call.plain name) gs = plain_result_fault v name gs
call_result_fault v (call.on_texts name) gs = str_result_fault v name gs
call_result_fault v (call.grouped by brackets name) gs = grouped_fault v by brackets name gs
call_result_fault v (call.rolling args name) gs = rolling_fault v args name gs
call_result_fault v (call.expanding args name) gs = expanding_fault v args name gs

pub made_named_fault : (f : Option Function) (file : Option (List ℕ)) (name : Text) (gs : List NamedGiven) → HasFormFault (made_named f file name gs)
made_named_fault None _ _ _ = tt
made_named_fault (Some function.Series) _ _ gs = series_call_fault gs
made_named_fault (Some function.DataFrame) _ _ gs = frame_call_fault gs
made_named_fault (Some function.ReadCsv) None _ gs = read_result_fault [] gs
made_named_fault (Some function.ReadCsv) (Some bytes) _ gs = read_result_fault bytes gs
made_named_fault (Some function.Concat) _ _ gs = concat_call_fault gs

pub function_result_fault : (file : Option (List ℕ)) (name : Text) (gs : List NamedGiven) → HasFormFault (function_result file name gs)
function_result_fault file name gs = made_named_fault _ file name gs

-- what it makes of the bytes is what is read
pub reads_made : (bytes : List ℕ) (name : Text) (gs : List NamedGiven) → reads_file (function_named name) ≡ true → function_result (Some bytes) name gs ≡ read_result bytes gs
reads_made = grind arith
