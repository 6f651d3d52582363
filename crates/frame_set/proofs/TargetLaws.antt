-- What a setting reaches: keys whose label isn't there.
use Rattle.{frame_parts.proofs.Common.{◌≡◌, ◌∙◌, ℕ, ◌+◌, pos, List, [], ◌∷◌, ◌++◌, length, refl, arith, All, Option, Some, None, Result, Ok, Err, nat_tests, length-map, All-tail, All-map, unwrap_or, list_any, Label, NoKey, Text, LabelValue, int, label_datum, Accessor, loc, FaultValue, cell_label, then_value, HaveLevels, NumberedTable, Table, table_value, tuple_value, heading_value, GivenSub, one, cell, IsSettled, same_label, column_labels, same_tuple, labels_value, OpFault, Refused, Subscript, subscript_of, Tables, MakesBy}, column_core.{proofs.cells.Common.{option_map}, specs.cells.Symbol.{at}}, frame_store.specs.tables.Value.{key_given}, label_align.specs.pick.{Keys.{Pick, one_key}, Leading.{leads}, Rows.{rows_where, are_some}}, frame_select.specs.{select.{Keys.{rows_by, columns_by, found_labels, once}, Set.{added_label, row_to_add, or_added}}, Reaches.{pick_value}}, indexers.specs.declared.keys.Picked.{Picked as CodePicked}, frame_set.specs.{declared.targets.Reached.{Reached as CodeReached}, Values.{is_no_key, reached_value, target_value, TellsAbsence}}}

-- a row of one level is found where its label stands
there : (l : LabelValue) (first : ℕ) (tuples : List (List LabelValue)) → All (λ tuple. length tuple ≡ 1) tuples → are_some (rows_where (leads same_label (l ∷ [])) first tuples) ≡ list_any (same_tuple (l ∷ [])) tuples
there l _ [] _ = refl
there l first ((m ∷ []) ∷ ts) single = grind (arith, there l (first + 1) ts (All-tail (λ tuple. length tuple ≡ 1) (m ∷ []) ts single))
there l _ (t ∷ ts) single = absurd (grind (arith, single 0 t (omega arith)))

label_tells : (levels : ℕ) (l : LabelValue) (tuples : List (List LabelValue)) → All (λ tuple. length tuple ≡ 1) tuples → TellsAbsence (Some l) tuples (found_labels levels tuples (one_key (l ∷ [])))
label_tells _ l tuples single = grind (arith, there l 0 tuples single)

single_labels : (t : Table) → All (λ tuple. length tuple ≡ 1) (column_labels t)
single_labels t = All-map (λ tuple. length tuple ≡ 1) (λ h. unwrap_or h (int (pos 0)) ∷ []) t.headings (λ k d lt. refl)

-- the tuples of rows on one level
single_rows : (texts : List Text) (labels : List (List Label)) → HaveLevels 1 labels → All (λ tuple. length tuple ≡ 1) (labels_value texts labels)
single_rows texts labels single = All-map (λ tuple. length tuple ≡ 1) (tuple_value texts) labels (λ k d lt. length-map _ _ ∙ single k d lt)

-- what an accessor's key tells of its rows and of its columns
added_tells : (by : Accessor) (t : Table) (k : GivenSub) → length t.level_names ≡ 1 → All (λ tuple. length tuple ≡ 1) t.labels → TellsAbsence (added_label by k) t.labels (rows_by by t k)
added_tells loc t (key_given (one (cell c))) levels single = search label_tells
added_tells at t (key_given (one (cell c))) levels single = grind (arith, there)
added_tells _ t k _ _ = tt

once_tells : (key : List LabelValue) (pick : Result Pick FaultValue) → is_no_key (then_value pick (once key)) ≡ is_no_key pick
once_tells key (Ok p) = grind arith
once_tells key (Err fault) = refl

pub columns_tell : (by : Accessor) (t : Table) (k : GivenSub) → TellsAbsence (added_label by k) (column_labels t) (columns_by by t k)
columns_tell loc t (key_given (one (cell c))) = search (label_tells, single_labels)
columns_tell at t (key_given (one (cell c))) =
    once_tells (cell_label c ∷ []) (found_labels 1 (column_labels t) (one_key (cell_label c ∷ []))) ∙ label_tells 1 (cell_label c) (column_labels t) (single_labels t)
columns_tell _ t k = tt

-- rows, of which one is added on one level alone
pub rows_tell : (texts : List Text) (by : Accessor) (t : NumberedTable) (k : GivenSub) → HaveLevels (length t.level_names) t.labels → TellsAbsence (row_to_add by (table_value texts t) k) (labels_value texts t.labels) (rows_by by (table_value texts t) k)
rows_tell texts by t k = grind (arith, nat_tests, added_tells by (table_value texts t) k, single_rows, length-map)

-- a key that isn't there, where no label may be added
pub as_nothing : (texts : List Text) (label : Option Label) (rows : Result CodePicked OpFault) (key : List Label) (tuples : List (List LabelValue)) (pick : Result Pick FaultValue) → label ≡ None → rows ≡ Err (Refused (NoKey key))
    → MakesBy pick_value texts rows pick → MakesBy reached_value texts (Err (Refused (NoKey key))) (or_added (option_map (label_datum texts) label) tuples pick)
as_nothing = grind arith

-- texts of what is reached were given
pub added_settled : (texts : List Text) (label : Option Label) (l : Label) (count : ℕ) (r : CodeReached) → label ≡ Some l → r ≡ record { places = count ∷ []; added = Some l } → IsSettled heading_value texts label → IsSettled reached_value texts r
added_settled _ _ l _ r some made settled more = grind (arith, settled more)

pub picked_settled : (texts : List Text) (places : List ℕ) (r : CodeReached) → r ≡ record { places = places; added = None } → IsSettled reached_value texts r
picked_settled = grind arith

pub row_settled : (texts : List Text) (live : Tables) (by : Accessor) (t : NumberedTable) (key : Subscript) (label : Option Label) → ((live : Tables) (texts : List Text) → option_map (label_datum texts) label ≡ row_to_add by (table_value texts t) (subscript_of live texts key))
    → IsSettled table_value texts t → IsSettled (subscript_of live) texts key → IsSettled heading_value texts label
row_settled texts live _ t _ _ seen given settled more = cc (seen live (texts ++ more), given more, settled more, seen live texts)

pub target_settled : (texts : List Text) (rows columns : CodeReached) → IsSettled reached_value texts rows → IsSettled reached_value texts columns → IsSettled target_value texts record { rows = rows; columns = columns }
target_settled _ rows columns f g = λ more j. record { rows = f more j; columns = g more j }
