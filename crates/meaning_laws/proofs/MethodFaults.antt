-- No method has the fault that a file isn't there.
use Rattle.{
  meaning_script.{proofs.cells.Common.{arith, ℤ, Bool, true, false, List, [], ◌∷◌, Option, Result, Shape, Series, Frame, Text, CellValue, LabelValue, FaultValue}, specs.{tables.{Table.{ColumnOf, Table}, Value.{Given, GivenList, NamedGiven}}, call.declared.Method.{Method}, method.{Rows.{head_result, tail_result, subset_places, duplicated_result, sort_by_result, drop_result}, Methods.{each_column, filled_column, Summary, summary_cell, summary_of, renamed_frame, reset_index_result, csv_answer, answer_for}, Levels.{rename_axis_result, set_index_result, renumbered, level_of, droplevel_result, swaplevel_result}, Reindex.{reindex_result}, Section.{xs_result}, Calls.{called}}}},
  meaning_laws.{proofs.{FormFaults.{if_fault, then_value_fault, of_length_fault, unless_repeated_fault, met_rows_fault, on_bound_fault, limited_fault, made_column_fault, try_all_fault, found_fault, argument_columns_fault, on_fault}, SelectFaults.{found_pick_fault, label_columns_fault, whole_items_fault}}, specs.FormFault.{HasFormFault}},
}
use Rattle.meaning_script.specs.call.declared.Method.TheVariants as method
use Rattle.meaning_script.specs.call.declared.ColumnMethod.TheVariants as column_method
use Rattle.meaning_script.specs.call.declared.RowMethod.TheVariants as row_method
use Rattle.meaning_script.specs.call.declared.LevelMethod.TheVariants as level_method
use Rattle.meaning_script.specs.call.declared.LabelMethod.TheVariants as label_method
use Rattle.meaning_script.specs.call.declared.TableMethod.TheVariants as table_method

-- cells, column by column
pub each_column_fault : (f : ColumnOf CellValue → Result (ColumnOf CellValue) FaultValue) (t : Table) → ((c : ColumnOf CellValue) → HasFormFault (f c)) → HasFormFault (each_column f t)
each_column_fault = search (then_value_fault, try_all_fault, limited_fault)

filled_column_fault : (value : CellValue) (c : ColumnOf CellValue) → HasFormFault (filled_column value c)
filled_column_fault = search (if_fault)

summary_cell_fault : (op : Summary) (c : ColumnOf CellValue) → HasFormFault (summary_cell op c)
summary_cell_fault = grind arith

summary_of_fault : (s : Shape) (op : Summary) (t : Table) → HasFormFault (summary_of s op t)
summary_of_fault Series op t = then_value_fault _ _ (summary_cell_fault op _) (λ c. tt)
summary_of_fault Frame _ t = search (then_value_fault, try_all_fault, if_fault, summary_cell_fault, limited_fault)

renamed_frame_fault : (t : Table) (pairs : List (LabelValue × Given)) → HasFormFault (renamed_frame t pairs)
renamed_frame_fault = search (if_fault, limited_fault)

csv_answer_fault : (index : Bool) (t : Table) → HasFormFault (csv_answer index t)
csv_answer_fault = search (if_fault)

-- rows, and columns by their labels
head_fault : (t : Table) (n : ℤ) → HasFormFault (head_result t n)
head_fault = search (limited_fault)

tail_fault : (t : Table) (n : ℤ) → HasFormFault (tail_result t n)
tail_fault = search (if_fault, limited_fault)

subset_fault : (t : Table) (subset : Given) → HasFormFault (subset_places t subset)
subset_fault = grind (arith, then_value_fault, argument_columns_fault)

duplicated_fault : (t : Table) (subset : Given) → HasFormFault (duplicated_result t subset)
duplicated_fault = search (then_value_fault, subset_fault, limited_fault)

sort_by_fault : (t : Table) (ascending : Bool) (by : Given) → HasFormFault (sort_by_result t ascending by)
sort_by_fault = search (then_value_fault, argument_columns_fault, limited_fault)

drop_fault : (t : Table) (columns : Given) → HasFormFault (drop_result t columns)
drop_fault = search (then_value_fault, label_columns_fault, limited_fault)

-- levels
rename_axis_fault : (t : Table) (names : Given) → HasFormFault (rename_axis_result t names)
rename_axis_fault = search (of_length_fault, limited_fault)

set_index_fault : (t : Table) (keys : Given) → HasFormFault (set_index_result t keys)
set_index_fault = search (then_value_fault, argument_columns_fault, if_fault, limited_fault)

reset_index_fault : (t : Table) (drop : Bool) → HasFormFault (reset_index_result t drop)
reset_index_fault t true = limited_fault (renumbered t)
reset_index_fault t false = search (then_value_fault, try_all_fault, if_fault, unless_repeated_fault, limited_fault)

pub level_of_fault : (t : Table) (level : Option CellValue) → HasFormFault (level_of t level)
level_of_fault = grind (arith, found_pick_fault, found_fault)

droplevel_fault : (t : Table) (level : Option CellValue) → HasFormFault (droplevel_result t level)
droplevel_fault = grind (then_value_fault, arith, found_pick_fault, found_fault, if_fault, limited_fault)

swaplevel_fault : (t : Table) (i j : Option CellValue) → HasFormFault (swaplevel_result t i j)
swaplevel_fault = grind (then_value_fault, arith, found_pick_fault, found_fault, limited_fault)

reindex_fault : (t : Table) (rows columns : Option GivenList) → HasFormFault (reindex_result t rows columns)
reindex_fault = grind (arith, then_value_fault, whole_items_fault, met_rows_fault, limited_fault)

xs_fault : (t : Table) (key : CellValue) (level : Option CellValue) → HasFormFault (xs_result t key level)
xs_fault = grind (if_fault, then_value_fault, arith, found_fault, found_pick_fault, limited_fault)

ruleset answers = (
  on_fault,
  then_value_fault,
  made_column_fault,
  limited_fault,
  each_column_fault,
  filled_column_fault,
  summary_of_fault,
  head_fault,
  tail_fault,
  duplicated_fault,
  sort_by_fault,
  drop_fault,
  renamed_frame_fault,
  csv_answer_fault,
  rename_axis_fault,
  set_index_fault,
  reset_index_fault,
  droplevel_fault,
  swaplevel_fault,
  reindex_fault,
  xs_fault,
)

-- by the method, and by how many arguments it has; the first lines have the methods of a family told apart
answer_for_fault : (m : Method) (gs : List Given) (t : Table) → HasFormFault (answer_for m gs t)
answer_for_fault (method.Columns column_method.Isna) _ t = search answers
answer_for_fault (method.Rows row_method.Dropna) _ t = search answers
answer_for_fault (method.Levels level_method.SetIndex) [] t = tt
answer_for_fault (method.Labels label_method.Xs) [] t = tt
answer_for_fault (method.Table table_method.Copy) _ t = search answers
answer_for_fault m [] t = search answers depth 9
answer_for_fault m (a ∷ []) t = search answers depth 9
answer_for_fault m (a ∷ b ∷ []) t = search answers depth 9
answer_for_fault m _ t = search answers

pub called_fault : (o : Option Method) (name : Text) (gs : List NamedGiven) (t : Table) → HasFormFault (called o name gs t)
called_fault = grind (arith, if_fault, on_bound_fault, answer_for_fault)
