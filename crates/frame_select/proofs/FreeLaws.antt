-- What a selection costs: nothing where rows of a slice are reached, or columns by their labels.
use Rattle.{
  frame_parts.proofs.Common.{arith, ◌≡◌, ◌≤◌, refl, subst, if◌then◌else◌, ℕ, Bool, true, false, List, length, Option, Some, None, Result, Ok, Err, Shape, Series, Frame, Text, LabelValue, FaultValue, wrong_kind, then_value, Accessor, NumberedTable, Table, table_value, cost_of, cells_with_texts, Entry, Given, GivenSub, Value, OpFault, World, FormsFor, forms_within},
  column_core.specs.cells.Symbol.{loc, iloc},
  frame_store.specs.tables.{Table.{cell_count}, Value.{span_given}},
  meaning_charge.specs.{Charge.{is_free_access, is_free_item, is_free_selection, select_charge}, select.{Keys.{Reach, found_labels, label_key, label_pick, label_span, place_pick, reach_by, reach_of, rows_by}, Select.{Way, frame_reach, is_truth_list, item_reach, picked_result, plain, through, way_reach}}},
  indexers.specs.pick.Keys.{LabelKey, Pick, all_rows, between, each_key, one_key},
  frame_select.specs.Plans.{is_sliced, reaches_slice, unless_shared},
}
use Rattle.frame_store.specs.tables.Value as value

-- the rows of a slice of labels, and of any slice
abbrev is_span : LabelKey (List LabelValue) → Bool
is_span all_rows = true
is_span (one_key key) = false
is_span (each_key keys) = false
is_span (between lower upper) = true

span_key : (levels : ℕ) (from to : Given) (key : LabelKey (List LabelValue)) → label_span levels from to ≡ Ok key → is_span key ≡ true
span_key = grind arith

slice_key : (levels : ℕ) (from to step : Given) (key : LabelKey (List LabelValue)) → label_key levels (span_given from to step) ≡ Ok key → is_span key ≡ true
slice_key levels from to step key = grind (arith, span_key levels from to key)

found_sliced : (levels : ℕ) (tuples : List (List LabelValue)) (key : LabelKey (List LabelValue)) (p : Pick) → is_span key ≡ true → found_labels levels tuples key ≡ Ok p → is_sliced p ≡ true
found_sliced = grind arith

places_sliced : (count : ℕ) (from to step : Given) (p : Pick) → place_pick count (span_given from to step) ≡ Ok p → is_sliced p ≡ true
places_sliced = grind arith

found_then : (r : Result (LabelKey (List LabelValue)) FaultValue) (go : LabelKey (List LabelValue) → Result Pick FaultValue) (p : Pick) → ((key : LabelKey (List LabelValue)) → r ≡ Ok key → go key ≡ Ok p → is_sliced p ≡ true)
    → then_value r go ≡ Ok p → is_sliced p ≡ true
found_then = grind arith

labels_sliced : (levels : ℕ) (tuples : List (List LabelValue)) (from to step : Given) (p : Pick) → label_pick levels tuples (span_given from to step) ≡ Ok p → is_sliced p ≡ true
labels_sliced levels tuples from to step p is =
    found_then (label_key levels (span_given from to step)) (found_labels levels tuples) p (λ key read found. found_sliced levels tuples key p (slice_key levels from to step key read) found) is

rows_sliced : (by : Accessor) (t : Table) (key : GivenSub) (p : Pick) → is_free_access by key ≡ true → rows_by by t key ≡ Ok p → is_sliced p ≡ true
rows_sliced loc t (span_given from to step) p free is = labels_sliced (length t.level_names) t.labels from to step p is
rows_sliced iloc t (span_given from to step) p free is = places_sliced (length t.labels) from to step p is
rows_sliced by t key p free is = grind arith

-- and what they reach
reach_rows : (rows columns : Result Pick FaultValue) (reach : Reach) → reach_of rows columns ≡ Ok reach → rows ≡ Ok reach.rows
reach_rows = grind arith

access_sliced : (shape : Shape) (by : Accessor) (t : Table) (first : GivenSub) (second : Option GivenSub) (reach : Reach) → is_free_access by first ≡ true → reach_by shape by t first second ≡ Ok reach → is_sliced reach.rows ≡ true
access_sliced Series by t first None reach free is = grind (arith, rows_sliced, reach_rows)
access_sliced Series by t first (Some second) reach free is = grind arith
access_sliced Frame by t first None reach free is = grind (arith, rows_sliced, reach_rows)
access_sliced Frame by t first (Some second) reach free is = grind (arith, rows_sliced, reach_rows)

frame_sliced : (t : Table) (first : GivenSub) (reach : Reach) → is_free_item Frame first ≡ true → frame_reach t first ≡ Ok reach → is_sliced reach.rows ≡ true
frame_sliced = grind arith

not_refused : (b : Bool) (fault : FaultValue) (r : Result Reach FaultValue) (reach : Reach) → (if b then Err fault else r) ≡ Ok reach → r ≡ Ok reach
not_refused = grind arith

pub free_sliced : (way : Way) (shape : Shape) (t : Table) (first : GivenSub) (second : Option GivenSub) (reach : Reach) → t.shape ≡ shape → is_free_selection shape way first ≡ true → way_reach way t first second ≡ Ok reach → is_sliced reach.rows ≡ true
free_sliced plain Series t first second reach here free is =
    access_sliced Series loc t first second reach free (not_refused (is_truth_list first) wrong_kind (item_reach Series t first second) reach (rw here at is))
free_sliced plain Frame t first None reach here free is =
    frame_sliced t first reach free (not_refused (is_truth_list first) wrong_kind (item_reach Frame t first None) reach (rw here at is))
free_sliced plain Frame t first (Some second) reach here free is =
    let refused = not_refused (is_truth_list first) wrong_kind (item_reach Frame t first (Some second)) reach (rw here at is) in cc
free_sliced (through by) shape t first second reach here free is =
    access_sliced shape by t first second reach free (subst (λ (s : Shape). reach_by s by t first second ≡ Ok reach) here is)

-- what a new object costs
pub taken_cost : (texts : List Text) (t : NumberedTable) (shared : Bool) (meant : Result Entry FaultValue) → meant ≡ Ok (value.table (table_value texts t)) → cost_of (unless_shared shared) meant ≡ (if shared then 0 else cell_count t)
taken_cost _ _ true _ is = rw is refl
taken_cost texts t false _ is = rw is (cells_with_texts texts t)

-- a charge that is free where the rows of a slice are reached is no more than one that is free there alone
least_charge : (r : Result Reach FaultValue) (go : Reach → Result Entry FaultValue) (answer : Entry) (free shared : Bool) → ((reach : Reach) → free ≡ true → r ≡ Ok reach → is_sliced reach.rows ≡ true) → shared ≡ reaches_slice r
    → then_value r go ≡ Ok answer → unless_shared shared answer ≤ unless_shared free answer
least_charge (Err fault) go answer free shared sliced is there = grind arith
least_charge (Ok reach) go answer false shared sliced is there = grind arith
least_charge (Ok reach) go answer true shared sliced is there = grind arith

module _ (t : Table) (way : Way) (first : GivenSub) (second : Option GivenSub) (shared : Bool) (r : Result Value OpFault) (old new : World) where
  pub selection_within : shared ≡ reaches_slice (way_reach way t first second) → FormsFor (unless_shared shared) r (then_value (way_reach way t first second) (picked_result t)) old new
      → FormsFor (select_charge (value.table t) way first) r (then_value (way_reach way t first second) (picked_result t)) old new
  selection_within is forms =
      forms_within (unless_shared shared) (select_charge (value.table t) way first) r (then_value (way_reach way t first second) (picked_result t)) old new
      (λ answer there. least_charge (way_reach way t first second) (picked_result t) answer (is_free_selection t.shape way first) shared (λ reach. free_sliced way t.shape t first second reach refl) is there) forms
