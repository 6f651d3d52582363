-- Columns that are removed from a frame.
use Rattle.{frame_parts.proofs.Common.{nat_tests, ◌≡◌, ◌∙◌, ℕ, zero, suc, ◌+◌, ◌<◌, ◌≤◌, Bool, true, false, not, nat_eq, List, [], ◌∷◌, ◌++◌, map, filter, length, slice_get, slice_index_or, refl, ap, subst, arith, Option, Some, None, Result, Ok, list_any, range_with_len, append-nil, filter-append, length-map, Frame, Cell, Label, Text, datum, label_datum, cell_label, LabelValue, FaultValue, then_value, IsSettled, NumberedTable, Table, table_value, heading_value, column_value, column_at, no_column, heading_at, column_labels, headings_value, columns_value, IsWhole, MakesBy, Value, Object, Scalar, ObjId, Tables, with_object, table_at, table_or, entry_of, shown, Holding, SetsFor, free, map-remove, settled_by}, std.specs.List.{remove}, frame_parts.specs.form.Select.{columns_frame, places_besides, places_of_label}, indexers.specs.{pick.{Keys.{one_key}, Rows.{rows_where}}, declared.keys.Picked.{Picked}}, frame_store.specs.{tables.Change.{without_column}, Objects.{LieStill}}, frame_select.{specs.{select.{Keys.{found_labels, label_columns}, Set.{removal_result}}, Selected.{headings_at}, Reaches.{pick_value}}, proofs.{AnswerLaws.{column_seen as first_column}, HeadingLaws.{heading_seen}, NamedLaws.{label_missed, label_found}, PickedLaws.{one_more_place}}}, frame_set.{specs.Places.{columns_taken}, proofs.SetLaws.{in_world, set_made}}}
use Rattle.frame_parts.specs.form.Finish as finish

-- the places that aren't among these
abbrev pub is_other : List ℕ → ℕ → Bool
is_other places place = not (list_any (nat_eq place) places)

-- a place is among those of the items that pass exactly where its own item passes
module _ {X : Type 0} (p : X → Bool) where
  none_before : (row place : ℕ) (xs : List X) → place < row → list_any (nat_eq place) (rows_where p row xs) ≡ false
  none_before row place [] lt = refl
  none_before row place (x ∷ xs) lt = grind (arith, nat_tests, none_before (row + 1) place xs (omega (arith, lt)))

  passes : (row k place : ℕ) (xs : List X) (d : X) → k < length xs → place ≡ row + k → list_any (nat_eq place) (rows_where p row xs) ≡ p (slice_index_or xs k d)
  passes row zero place [] d lt is = elim lt [ ]
  passes row (suc k) place [] d lt is = elim lt [ ]
  passes row zero place (x ∷ xs) d lt is = grind (arith, nat_tests, none_before (row + 1) place xs (omega (arith, is)))
  passes row (suc k) place (x ∷ xs) d lt is = grind (arith, nat_tests, passes (row + 1) k place xs d (omega (arith, lt)) (omega (arith, is)))

-- the columns with another label so far
module _ (texts : List Text) (headings : List (Option Label)) (label : Label) where
  abbrev pub others_below : ℕ → List ℕ
  others_below place = filter (is_other (rows_where (finish.same_heading (Some (label_datum texts label))) 0 (headings_value texts headings))) (range_with_len 0 place)

  module _ (place : ℕ) (heading : Option Label) (b : Bool) (lt : place < length headings) (is : heading ≡ slice_index_or headings place None)
      (same : b ≡ finish.same_heading (heading_value texts (Some label)) (heading_value texts heading)) where
    place_passes : list_any (nat_eq place) (rows_where (finish.same_heading (Some (label_datum texts label))) 0 (headings_value texts headings)) ≡ b
    place_passes = grind (arith, heading_seen, passes (finish.same_heading (Some (label_datum texts label))) 0 place place (headings_value texts headings) None (omega (arith, lt, length-map headings (heading_value texts))) (omega arith))

    pub other_met : (others others' : List ℕ) → b ≡ false → others ≡ others_below place → others' ≡ others ++ place ∷ [] → others' ≡ others_below (place + 1)
    other_met = grind (arith, place_passes, one_more_place, filter-append)

    pub other_passed : (others : List ℕ) → b ≡ true → others ≡ others_below place → others ≡ others_below (place + 1)
    other_passed = grind (arith, place_passes, append-nil, one_more_place, filter-append)

-- one column is removed
removed_is : (texts : List Text) (t : NumberedTable) (place : ℕ) → without_column (table_value texts t) place ≡ table_value texts (without_column t place)
removed_is = search map-remove

removed_settled : (texts : List Text) (t : NumberedTable) (place : ℕ) → IsSettled table_value texts t → IsSettled table_value texts (without_column t place)
removed_settled _ t place settled = settled_by table_value table_value (λ v. without_column v place) _ t _ (λ ts. removed_is ts t _) settled

-- some columns of a frame
module _ (texts : List Text) (t : NumberedTable) where
  taken_headings : (places : List ℕ) → map (heading_at (table_value texts t)) places ≡ headings_value texts (headings_at t places)
  taken_headings [] = refl
  taken_headings (p ∷ ps) = search (heading_seen, taken_headings ps)

  taken_columns : (places : List ℕ) → map (column_at (table_value texts t).columns) places ≡ columns_value texts (map (column_at t.columns) places)
  taken_columns [] = refl
  taken_columns (p ∷ ps) = search (first_column, taken_columns ps)

  taken_seen : (places : List ℕ) → columns_frame (table_value texts t) places ≡ table_value texts (columns_taken t places)
  taken_seen places = λ j. record (table_value texts (columns_taken t places)) { headings = taken_headings places j; columns = taken_columns places j }

taken_settled : (texts : List Text) (t : NumberedTable) (places : List ℕ) → IsSettled table_value texts t → IsSettled table_value texts (columns_taken t places)
taken_settled texts t places settled = settled_by table_value table_value (λ v. columns_frame v places) texts t (columns_taken t places) (λ ts. taken_seen ts t places) settled

-- all places but one list what is left without it
module _ {X : Type 0} (f : ℕ → X) (d : X) where
  abbrev Lists : ℕ → List X → Type 0
  Lists a xs = (k : ℕ) → k < length xs → f (a + k) ≡ slice_index_or xs k d

  first_listed : (a : ℕ) (x : X) (xs : List X) → Lists a (x ∷ xs) → f a ≡ x
  first_listed a x xs lists = let e : a ≡ a + 0 = omega arith in ap f e ∙ lists 0 (omega arith)

  later_listed : (a : ℕ) (x : X) (xs : List X) → Lists a (x ∷ xs) → Lists (a + 1) xs
  later_listed a x xs lists k lt = let e : a + 1 + k ≡ a + suc k = omega arith in ap f e ∙ lists (suc k) (omega arith)

  but_before : (xs : List X) (a place : ℕ) → place < a → Lists a xs → map f (filter (is_other (place ∷ [])) (range_with_len a (length xs))) ≡ xs
  but_before [] a place lt lists = refl
  but_before (x ∷ xs) a place lt lists = grind (arith, nat_tests, first_listed a x xs lists, but_before xs (a + 1) place (omega (arith, lt)) (later_listed a x xs lists))

  but_one : (xs : List X) (a k place : ℕ) → k < length xs → place ≡ a + k → Lists a xs → map f (filter (is_other (place ∷ [])) (range_with_len a (length xs))) ≡ remove xs k
  but_one [] a k place lt is lists = elim lt [ ]
  but_one (x ∷ xs) a zero place lt is lists = grind (arith, nat_tests, but_before xs (a + 1) place (omega (arith, is)) (later_listed a x xs lists))
  but_one (x ∷ xs) a (suc k) place lt is lists = grind (arith, nat_tests, first_listed a x xs lists, but_one xs (a + 1) k place (omega (arith, lt)) (omega (arith, is)) (later_listed a x xs lists))

besides_one : (t : Table) (place : ℕ) → length t.headings ≡ length t.columns → place < length t.columns → columns_frame t (places_besides t (place ∷ [])) ≡ without_column t place
besides_one t place headed lt =
    let headings : map (heading_at t) (places_besides t (place ∷ [])) ≡ remove t.headings place = rw (← headed) (but_one (heading_at t) None t.headings 0 place place (omega (arith, headed, lt)) (omega arith) (λ k below. let e : 0 + k ≡ k = omega arith in ap (heading_at t) e)) in
    let columns : map (column_at t.columns) (places_besides t (place ∷ [])) ≡ remove t.columns place = but_one (column_at t.columns) no_column t.columns 0 place place lt (omega arith) (λ k below. let e : 0 + k ≡ k = omega arith in ap (column_at t.columns) e) in
    λ j. record t { headings = headings j; columns = columns j }

-- the only place
pub one_alone : (places : List ℕ) (place : ℕ) → length places ≡ 1 → slice_get places 0 ≡ Some place → places ≡ place ∷ []
one_alone [] place one first = absurd (omega arith)
one_alone (p ∷ []) place one first = grind arith
one_alone (p ∷ q ∷ ps) place one first = absurd (omega arith)

-- the columns of a label are removed

abbrev pub removal_of : Table → LabelValue → Result Table FaultValue
removal_of t l = then_value (label_columns t (one_key (l ∷ []))) (λ places. Ok (columns_frame t (places_besides t places)))

pub removal_set : (texts : List Text) (tables tables' : Tables) (holding holding' : Holding) (on v : Value) (id : ObjId) (c : Cell) (t : NumberedTable) (change : NumberedTable → NumberedTable) (l : Label) → on ≡ Object id → v ≡ Scalar c → tables id.0 ≡ Some t → t.shape ≡ Frame
    → label_datum texts l ≡ cell_label (datum texts c) → IsSettled shown texts tables → removal_of (table_value texts t) (label_datum texts l) ≡ Ok (table_value texts (change t)) → IsSettled table_value texts (change t)
    → tables' ≡ with_object tables id.0 (Some (change (table_at tables id.0))) → holding'.cells ≤ holding.cells + 0 → LieStill (Some id.0) tables tables' holding.blocks holding'.blocks
    → SetsFor free (Ok tt) on (removal_result (entry_of tables texts on) (entry_of tables texts v)) (in_world texts tables holding) (in_world texts tables' holding')
removal_set texts tables tables' _ _ _ v id c t change l on_is v_is there frame seen settled removed given put held still =
    let left : tables' ≡ with_object tables id.0 (Some (change t)) = subst (λ u. tables' ≡ with_object tables id.0 (Some (change u))) (ap table_or there) put in
    rw (on_is, v_is) (set_made _ _ _ _ _ free id _ _ settled given left (grind arith) record { cells = omega arith; blocks = still })

module _ (texts : List Text) (t : NumberedTable) (l : Label) (columns : Picked) (found : MakesBy pick_value texts (Ok columns) (found_labels 1 (column_labels (table_value texts t)) (one_key (label_datum texts l ∷ [])))) where
  -- the one that has it
  pub one_removed : (place : ℕ) → IsWhole t → IsSettled table_value texts t → place < length t.columns → columns.places ≡ place ∷ []
      → (removal_of (table_value texts t) (label_datum texts l) ≡ Ok (table_value texts (without_column t place))) × IsSettled table_value texts (without_column t place)
  one_removed place whole settled lt one = (
    grind (arith, besides_one (table_value texts t) place (search length-map) (omega (arith, lt, length-map t.columns (column_value texts))), removed_is),
    removed_settled texts t place settled,
  )

  -- or all that have it
  abbrev pick_for : List ℕ → Picked
  pick_for places = record { places = places; single = nat_eq (length places) 1; dropped = 0; span = None }

  found_places : (places : List ℕ) → IsWhole t → t.shape ≡ Frame → IsSettled label_datum texts l → places ≡ places_of_label (headings_value texts t.headings) (label_datum texts l) → columns.places ≡ places
  found_places [] whole frame named are = absurd (grind (arith, (label_missed texts t l [] whole frame named are refl).0))
  found_places (p ∷ ps) whole frame named are = grind (arith, (label_found texts t l (p ∷ ps) whole frame named are (pick_for (p ∷ ps)) (grind (arith, nat_tests)) refl refl refl refl))

  pub several_removed : (others : List ℕ) → IsWhole t → t.shape ≡ Frame → IsSettled table_value texts t → IsSettled label_datum texts l → others ≡ places_besides (table_value texts t) (places_of_label (headings_value texts t.headings) (label_datum texts l))
      → (removal_of (table_value texts t) (label_datum texts l) ≡ Ok (table_value texts (columns_taken t others))) × IsSettled table_value texts (columns_taken t others)
  several_removed others whole frame settled named are = (
    grind (arith, found_places (places_of_label (headings_value texts t.headings) (label_datum texts l)) whole frame named refl, taken_seen texts t others),
    taken_settled texts t others settled,
  )
