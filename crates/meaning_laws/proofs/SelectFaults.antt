-- No selection has the fault that a file isn't there.
use Rattle.{
  meaning_script.{proofs.cells.Common.{arith, ℕ, Bool, true, false, List, Option, Some, None, Result, Shape, Series, Frame, int_cell, LabelValue, Accessor}, specs.{tables.{Table.{Table}, Value.{Entry, cell, table, GivenList, GivenSub, no_given, more_given, one, row, many, key_given, span_given}}, pick.{Faults.{PickFault}, Keys.{LabelKey}}, select.{Keys.{whole_items, place_key, found_pick, place_pick, loc_rows, loc_columns, label_columns, rows_by, columns_by, joined_key, reach_by}, Select.{Way, as_series, shown_as, mask_reach, frame_reach, item_reach, select_result}}}},
  meaning_laws.{specs.FormFault.{HasFormFault}, proofs.FormFaults.{if_fault, then_value_fault, limited_fault, try_all_fault}},
}

pub whole_items_fault : (levels : ℕ) (parts : GivenList) → HasFormFault (whole_items levels parts)
whole_items_fault _ no_given = tt
whole_items_fault levels (more_given g rest) = grind (then_value_fault, arith, if_fault, whole_items_fault levels rest)

place_key_fault : (k : GivenSub) → HasFormFault (place_key k)
place_key_fault (key_given (one (cell (int_cell z)))) = tt
place_key_fault (key_given (many parts)) = grind (then_value_fault, if_fault, try_all_fault, arith)
place_key_fault (span_given from to by) = grind (then_value_fault, arith)
place_key_fault k = tt

pub found_pick_fault : {A : Type 0} (r : Result A (PickFault (List LabelValue))) → HasFormFault (found_pick r)
found_pick_fault = grind arith

place_pick_fault : (count : ℕ) (k : GivenSub) → HasFormFault (place_pick count k)
place_pick_fault _ k = then_value_fault _ _ (place_key_fault k) (λ key. found_pick_fault _)

loc_rows_fault : (t : Table) (k : GivenSub) → HasFormFault (loc_rows t k)
loc_rows_fault t (key_given (one (table m))) = search (if_fault, then_value_fault, found_pick_fault)
loc_rows_fault t k = grind (then_value_fault, arith, if_fault, whole_items_fault, found_pick_fault)

loc_columns_fault : (t : Table) (k : GivenSub) → HasFormFault (loc_columns t k)
loc_columns_fault t (key_given (row parts)) = tt
loc_columns_fault t k = grind (then_value_fault, arith, if_fault, whole_items_fault, found_pick_fault)

pub label_columns_fault : (t : Table) (key : LabelKey (List LabelValue)) → HasFormFault (label_columns t key)
label_columns_fault = search (then_value_fault, found_pick_fault)

pub rows_by_fault : (by : Accessor) (t : Table) (k : GivenSub) → HasFormFault (rows_by by t k)
rows_by_fault = grind (arith, loc_rows_fault, place_pick_fault, then_value_fault, found_pick_fault, if_fault)

pub columns_by_fault : (by : Accessor) (t : Table) (k : GivenSub) → HasFormFault (columns_by by t k)
columns_by_fault = grind (arith, loc_columns_fault, place_pick_fault, then_value_fault, if_fault)

pub joined_key_fault : (by : Accessor) (levels : ℕ) (first second : GivenSub) → HasFormFault (joined_key by levels first second)
joined_key_fault = grind (if_fault, arith)

reach_by_fault : (s : Shape) (by : Accessor) (t : Table) (first : GivenSub) (second : Option GivenSub) → HasFormFault (reach_by s by t first second)
reach_by_fault = grind (arith, then_value_fault, rows_by_fault, joined_key_fault, if_fault, columns_by_fault)

mask_reach_fault : (t m : Table) → HasFormFault (mask_reach t m)
mask_reach_fault = search (then_value_fault, if_fault, found_pick_fault)

frame_reach_fault : (t : Table) (k : GivenSub) → HasFormFault (frame_reach t k)
frame_reach_fault t (key_given (one (cell c))) = search (then_value_fault, loc_columns_fault)
frame_reach_fault t (key_given (one (table m))) = mask_reach_fault t m
frame_reach_fault t (key_given (many parts)) = search (then_value_fault, loc_columns_fault)
frame_reach_fault t k = tt

item_reach_fault : (s : Shape) (t : Table) (first : GivenSub) (second : Option GivenSub) → HasFormFault (item_reach s t first second)
item_reach_fault Series t _ _ = search reach_by_fault
item_reach_fault Frame t first None = frame_reach_fault t first
item_reach_fault Frame t _ (Some second) = tt

shown_fault : (row column : Bool) (t : Table) → HasFormFault (shown_as row column t)
shown_fault true true t = tt
shown_fault false true t = limited_fault (as_series t)
shown_fault true false t = search (then_value_fault, if_fault, limited_fault)
shown_fault false false t = limited_fault t

pub select_result_fault : (v : Entry) (way : Way) (first : GivenSub) (second : Option GivenSub) → HasFormFault (select_result v way first second)
select_result_fault = grind (arith, then_value_fault, if_fault, item_reach_fault, reach_by_fault, shown_fault)
