-- No form on values has the fault that a file isn't there.
use Rattle.{
  meaning_script.{proofs.cells.Common.{arith, ℕ, Bool, true, false, List, [], ◌∷◌, Option, Result, Ok, Err, if◌then◌else◌, Shape, Series, Frame, CellValue, LabelValue, ColumnValue, ColumnFault, FaultValue, wrong_kind, bad_value, not_aligned, then_value, Binary}, specs.{align.Faults.{AlignRefusal, met_rows}, tables.{Table.{ColumnOf, Table, column_at}, Value.{Entry, cell, table, Given, NamedGiven}}, call.{Binding.{Bound, on_bound}, Functions.{series_call, frame_call}}, form.{Finish.{column_labels, limited_table, limited, unless_repeated, made_column, try_all}, Select.{found, place_of_label, first_column, first_columns, label_of_several, unless_several, argument_column, argument_columns, length_result}, Infix.{Meeting, has_one, same_tuple, compares, infix_table, on_levels, rows_infix, joined_frames, unequal_frames, frame_infix, takes_each, labels_fit, spread_frame, joined_turned, across_unequal, across_infix, table_infix, infix_result, sign_result}, Set.{of_length}, Make.{on, all_of_length}}, method.Readers.{csv_result, read_result}}},
  meaning_laws.specs.FormFault.{HasFormFault},
}

-- what forms share
pub if_fault : {A : Type 0} (b : Bool) (x y : Result A FaultValue) → HasFormFault x → HasFormFault y → HasFormFault (if b then x else y)
if_fault = grind arith

pub then_value_fault : {A B : Type 0} (r : Result A FaultValue) (go : A → Result B FaultValue) → HasFormFault r → ((a : A) → HasFormFault (go a)) → HasFormFault (then_value r go)
then_value_fault = grind arith

pub on_bound_fault : (b : Bound) (go : List Given → Result Entry FaultValue) → ((gs : List Given) → HasFormFault (go gs)) → HasFormFault (on_bound b go)
on_bound_fault = grind arith

pub limited_table_fault : (t : Table) → HasFormFault (limited_table t)
limited_table_fault = search (if_fault)

pub limited_fault : (t : Table) → HasFormFault (limited t)
limited_fault t = then_value_fault _ _ (limited_table_fault t) (λ made. tt)

pub unless_repeated_fault : {A : Type 0} (again : Option LabelValue) (rest : Result A FaultValue) → HasFormFault rest → HasFormFault (unless_repeated again rest)
unless_repeated_fault = grind arith

pub made_column_fault : (r : Result ColumnValue ColumnFault) → HasFormFault (made_column r)
made_column_fault = grind arith

pub try_all_fault : {A B : Type 0} (f : A → Result B FaultValue) (xs : List A) → ((x : A) → HasFormFault (f x)) → HasFormFault (try_all f xs)
try_all_fault f [] _ = tt
try_all_fault f (x ∷ xs) each = search (then_value_fault, try_all_fault f xs each)

-- columns by their labels, and the number of rows
pub found_fault : (l : LabelValue) (place : Option ℕ) → HasFormFault (found l place)
found_fault = grind arith

pub first_columns_fault : (t : Table) (ls : List LabelValue) → HasFormFault (first_columns t ls)
first_columns_fault t ls = try_all_fault (first_column t) ls (λ l. found_fault l (place_of_label t.headings l))

pub argument_column_fault : (t : Table) (l : LabelValue) → HasFormFault (argument_column t l)
argument_column_fault t l =
    then_value_fault (first_column t l) (λ place. unless_several t (l ∷ []) (Ok place)) (found_fault l (place_of_label t.headings l)) (λ place. unless_repeated_fault (label_of_several t (l ∷ [])) (Ok place) tt)

pub argument_columns_fault : (t : Table) (ls : List LabelValue) → HasFormFault (argument_columns t ls)
argument_columns_fault t ls =
    then_value_fault (first_columns t ls) (λ places. unless_several t ls (Ok places)) (first_columns_fault t ls) (λ places. unless_repeated_fault (label_of_several t ls) (Ok places) tt)

pub length_result_fault : (v : Entry) → HasFormFault (length_result v)
length_result_fault = grind arith

-- operators
infix_table_fault : (op : Binary) (t : Table) (meetings : List Meeting) → HasFormFault (infix_table op t meetings)
infix_table_fault = search (if_fault, then_value_fault, try_all_fault, made_column_fault)

on_levels_fault : (kinds equal : Bool) (rest : Result Entry FaultValue) → HasFormFault rest → HasFormFault (on_levels kinds equal rest)
on_levels_fault = grind arith

pub met_rows_fault : {A : Type 0} (r : Result A (AlignRefusal (List LabelValue))) → HasFormFault (met_rows r)
met_rows_fault = grind arith

rows_infix_fault : (op : Binary) (a b t : Table) → HasFormFault (rows_infix op a b t)
rows_infix_fault = search (on_levels_fault, if_fault, infix_table_fault, then_value_fault, met_rows_fault)

joined_frames_fault : (op : Binary) (a b : Table) → HasFormFault (joined_frames op a b)
joined_frames_fault = search (then_value_fault, met_rows_fault, rows_infix_fault)

unequal_frames_fault : (op : Binary) (a b : Table) → HasFormFault (unequal_frames op a b)
unequal_frames_fault = search (on_levels_fault, if_fault, unless_repeated_fault, joined_frames_fault)

frame_infix_fault : (op : Binary) (a b : Table) → HasFormFault (frame_infix op a b)
frame_infix_fault = search (if_fault, rows_infix_fault, unequal_frames_fault)

joined_turned_fault : (op : Binary) (left : Bool) (f g : Table) → HasFormFault (joined_turned op left f g)
joined_turned_fault = grind (arith, joined_frames_fault)

across_unequal_fault : (op : Binary) (left : Bool) (f s : Table) → HasFormFault (across_unequal op left f s)
across_unequal_fault op left f s = by (takes_each op f s) (has_one s.level_names) (labels_fit same_tuple (column_at s.columns 0).kind s.labels (column_labels f) f.columns) (compares op)
  where
    by : (t l fit c : Bool) → HasFormFault (on_levels t l (if fit then (if c then Err (bad_value not_aligned) else then_value (spread_frame f s) (joined_turned op left f)) else Err wrong_kind))
    by false l _ c = tt
    by true false _ c = tt
    by true true false c = tt
    by true true true true = tt
    by true true true false = search (then_value_fault, unless_repeated_fault, limited_table_fault, joined_turned_fault)

across_infix_fault : (op : Binary) (left : Bool) (f s : Table) → HasFormFault (across_infix op left f s)
across_infix_fault = grind (arith, on_levels_fault, infix_table_fault, across_unequal_fault)

table_infix_fault : (op : Binary) (s s' : Shape) (a b : Table) → HasFormFault (table_infix op s s' a b)
table_infix_fault _ Series Series a b = search rows_infix_fault
table_infix_fault op Series Frame a b = across_infix_fault op true b a
table_infix_fault op Frame Series a b = across_infix_fault op false a b
table_infix_fault op Frame Frame a b = frame_infix_fault op a b

pub infix_result_fault : (op : Binary) (v w : Entry) → HasFormFault (infix_result op v w)
infix_result_fault _ (cell a) (cell b) = tt
infix_result_fault _ (cell a) (table t) = search infix_table_fault
infix_result_fault _ (table t) (cell b) = search infix_table_fault
infix_result_fault _ (table a) (table b) = search table_infix_fault

pub sign_result_fault : (m : Bool) (v : Entry) → HasFormFault (sign_result m v)
sign_result_fault = grind (arith, infix_table_fault, if_fault, then_value_fault, try_all_fault, made_column_fault)

pub of_length_fault : {A : Type 0} (expected got : ℕ) (rest : Result A FaultValue) → HasFormFault rest → HasFormFault (of_length expected got rest)
of_length_fault _ _ _ next = search (if_fault, next)

pub on_fault : {A B : Type 0} (o : Option A) (go : A → Result B FaultValue) → ((a : A) → HasFormFault (go a)) → HasFormFault (on o go)
on_fault = grind arith

all_of_length_fault : (expected : ℕ) (columns : List (ColumnOf CellValue)) (rest : Result Entry FaultValue) → HasFormFault rest → HasFormFault (all_of_length expected columns rest)
all_of_length_fault _ [] _ next = next
all_of_length_fault expected (c ∷ cs) rest next = of_length_fault _ _ _ (all_of_length_fault expected cs rest next)

-- functions
pub series_call_fault : (gs : List NamedGiven) → HasFormFault (series_call gs)
series_call_fault = grind (arith, on_bound_fault, on_fault, then_value_fault, made_column_fault, of_length_fault, if_fault, limited_fault, try_all_fault, all_of_length_fault)

pub frame_call_fault : (gs : List NamedGiven) → HasFormFault (frame_call gs)
frame_call_fault = grind (arith, on_bound_fault, on_fault, then_value_fault, made_column_fault, of_length_fault, if_fault, limited_fault, try_all_fault, all_of_length_fault)

csv_result_fault : (bytes : List ℕ) (gs : List Given) → HasFormFault (csv_result bytes gs)
csv_result_fault = grind arith

pub read_result_fault : (bytes : List ℕ) (gs : List NamedGiven) → HasFormFault (read_result bytes gs)
read_result_fault bytes _ = on_bound_fault _ _ (csv_result_fault bytes)
