-- Columns that labels name, one or several.
use Rattle.{frame_parts.{proofs.Common.{◌≡◌, ◌∙◌, refl, ap, sym, arith, ℕ, pos, suc, ◌+◌, ◌<◌, Bool, true, false, nat_eq, List, [], ◌∷◌, ◌++◌, map, length, drop, drop_more, drop-length, append_assoc, append-nil, slice_index_or, unwrap_or, length-map, list_any, Option, Some, None, All, Result, Ok, Err, Label, Cell, AreDistinct, Text, LabelValue, label_datum, IsSettled, heading_value, heading_label, NumberedTable, Table, table_value, tuple_value, headings_value, place_of_label, lookup, NoKey, int, nat_tests, MakesBy, OpFault, Refused, NoMemory, Frame, IsWhole}, specs.form.{Finish.{column_labels}, Select.{places_of_label, first_columns, argument_column, argument_columns, label_of_several}, Given.{same_label}}}, std.specs.{Prelude.{nat_lt, IsSome, IfOk, IfErr}, Option.{is_some}}, column_core.{proofs.cells.Common.{position_from, All-map}, specs.cells.Fault.{no_key, bad_value, repeated}}, indexmap.specs.IndexSet.{insert_key}, cell_core.specs.declared.code.{Code.TheVariants.{BadValue}, Reason.TheVariants.{Repeated}}, frame_store.specs.tables.Value.{GivenSub}, indexers.specs.{pick.{Faults.{then_pick}, Rows.{rows_where}, Labels.{unless_none}, Leading.{leads}, Keys.{has_one, key_pick, one_key}}, declared.keys.Picked.{Picked}}, frame_select.{specs.{Headings.{same_heading, HaveFirstPlaces, AreRepeated, NamesRepeated, first_several}, Selected.{as_it_is}, Reaches.{pick_value}, declared.labels.Named.{Named}}, proofs.HeadingLaws.{heading_decides, heading_seen, same_seen, moved, key_more, head_settled, no_key_settled, repeated_settled, labels_seen}}, meaning_charge.specs.select.Keys.{found_pick, found_labels, loc_columns, columns_by, whole_key}}
use Rattle.frame_parts.specs.form.Finish as finish
use Rattle.column_core.specs.cells.Symbol.{at as at_labels}

-- a heading that stands somewhere stands first somewhere
rows_there : {X : Type 0} (p : X → Bool) (n : ℕ) (xs : List X) → is_some (position_from p n xs) ≡ nat_lt 0 (length (rows_where p n xs))
rows_there p n [] = refl
rows_there p n (x ∷ xs) = grind (arith, rows_there p (n + 1) xs)

-- one heading more, before the others: it stands again where it stood before
module _ (hs : List (Option Label)) (p : ℕ) (d h q : Option Label) (first : List (Option Label × ℕ)) (keys keys' : List (Option Label)) (lt : p < length hs) (is : h ≡ slice_index_or hs p d)
    (are : AreRepeated keys (p + 1) (drop (p + 1) hs)) (have : HaveFirstPlaces first (p + 1) (drop (p + 1) hs)) where
  pub repeated_more : is_some (lookup (same_heading h) first) ≡ true → keys' ≡ insert_key same_heading keys h → list_any (same_heading q) keys' ≡ nat_lt 1 (length (rows_where (same_heading q) p (drop p hs)))
  repeated_more = grind (arith, nat_tests, key_more, drop_more, heading_decides, rows_there)

  pub once_more : is_some (lookup (same_heading h) first) ≡ false → list_any (same_heading q) keys ≡ nat_lt 1 (length (rows_where (same_heading q) p (drop p hs)))
  once_more = grind (arith, nat_tests, drop_more, heading_decides, rows_there)

-- the columns of a label by numbers are those of its text
module _ (texts : List Text) where
  rows_seen : (n : ℕ) (h : Option Label) (hs : List (Option Label)) → AreDistinct texts → IsSettled heading_value texts h → IsSettled headings_value texts hs
      → rows_where (same_heading h) n hs ≡ rows_where (finish.same_heading (heading_value texts h)) n (headings_value texts hs)
  rows_seen n h [] _ _ _ = refl
  rows_seen n h (g ∷ gs) distinct here settled = grind (arith, same_seen texts h g distinct here (search head_settled), rows_seen (n + 1) h gs distinct here (grind arith))

  pub several_seen : (t : NumberedTable) (keys : List (Option Label)) (label : Label) → AreDistinct texts → IsSettled headings_value texts t.headings → IsSettled label_datum texts label → AreRepeated keys 0 t.headings
      → list_any (same_heading (Some label)) keys ≡ nat_lt 1 (length (places_of_label (headings_value texts t.headings) (label_datum texts label)))
  several_seen t keys label distinct settled here are =
      are (Some label) ∙ ap (λ (rows : List ℕ). nat_lt 1 (length rows)) (rows_seen 0 (Some label) t.headings distinct (λ more. ap (λ l. Some l) (here more)) settled)

-- the label that several columns have, among those so far or the others
abbrev pub or_several : Table → Option LabelValue → List LabelValue → Option LabelValue
or_several t None ls = label_of_several t ls
or_several t (Some l) ls = Some l

first_settled : (texts : List Text) (so_far : Option Label) (several : Bool) (label : Label) → IsSettled heading_value texts so_far → IsSettled label_datum texts label → IsSettled heading_value texts (first_several so_far several label)
first_settled texts (Some first) several label settled here = settled
first_settled texts None true label settled here = λ more. ap (λ l. Some l) (here more)
first_settled texts None false label settled here = λ more. refl

none_more : (t : Table) (so_far : Option LabelValue) → or_several t so_far [] ≡ so_far
none_more t None = refl
none_more t (Some l) = refl

drop_all : (k : ℕ) (xs : List LabelValue) → k ≡ length xs → drop k xs ≡ []
drop_all = grind (arith, drop-length)

module _ (texts : List Text) (so_far chosen : Option Label) (several : Bool) (label : Label) (is : chosen ≡ first_several so_far several label) where
  pub several_more : (t : Table) (xs : List LabelValue) (k : ℕ) (whole : Option LabelValue) → drop k xs ≡ label_datum texts label ∷ drop (suc k) xs → several ≡ nat_lt 1 (length (places_of_label t.headings (label_datum texts label)))
      → or_several t (heading_value texts so_far) (drop k xs) ≡ whole → or_several t (heading_value texts chosen) (drop (k + 1) xs) ≡ whole
  several_more = grind arith

  pub several_given : IsSettled heading_value texts so_far → IsSettled label_datum texts label → IsSettled heading_value texts chosen
  several_given so_far_settled settled = rw is (first_settled texts so_far several label so_far_settled settled)

pub several_all : (texts : List Text) (t : Table) (so_far : Option LabelValue) (cells : List Cell) (k : ℕ) (whole : Option LabelValue) → k ≡ length cells → or_several t so_far (drop k (labels_seen texts cells)) ≡ whole → so_far ≡ whole
several_all texts t so_far cells k whole end is =
    let last : k ≡ length (labels_seen texts cells) = grind (arith, length-map) in
    sym (none_more t so_far) ∙ ap (or_several t so_far) (sym (drop_all k (labels_seen texts cells) last)) ∙ is

-- the columns of a label, from a place on
module _ (texts : List Text) (headings : List (Option Label)) (label : Label) where
  abbrev pub rows_from : ℕ → List ℕ
  rows_from place = rows_where (finish.same_heading (Some (label_datum texts label))) place (drop place (headings_value texts headings))

  module _ (place : ℕ) (heading : Option Label) (b : Bool) (places places' whole : List ℕ) (lt : place < length headings) (is : heading ≡ slice_index_or headings place None)
      (same : b ≡ finish.same_heading (heading_value texts (Some label)) (heading_value texts heading)) where
    pub places_met : b ≡ true → places' ≡ places ++ place ∷ [] → places ++ rows_from place ≡ whole → places' ++ rows_from (place + 1) ≡ whole
    places_met = grind (arith, heading_seen, drop_more (headings_value texts headings) place None (omega (arith, length-map headings (heading_value texts))), append_assoc)

    pub places_passed : b ≡ false → places ++ rows_from place ≡ whole → places ++ rows_from (place + 1) ≡ whole
    places_passed = grind (arith, heading_seen, drop_more (headings_value texts headings) place None (omega (arith, length-map headings (heading_value texts))))

  pub all_placed : (place : ℕ) (places whole : List ℕ) → place ≡ length headings → places ++ rows_from place ≡ whole → places ≡ whole
  all_placed = grind (arith, length-map, drop-length, append-nil)

-- a label that selects
headings_meet : (l : LabelValue) (n : ℕ) (hs : List (Option LabelValue)) → All IsSome hs → rows_where (leads same_label (l ∷ [])) n (map (λ h. unwrap_or h (int (pos 0)) ∷ []) hs) ≡ rows_where (finish.same_heading (Some l)) n hs
headings_meet l n [] some = refl
headings_meet l n (h ∷ hs) some = grind (arith, headings_meet l (n + 1) hs (λ k d lt. some (suc k) d (omega arith)), some 0 h (omega arith))

one_row : (rows : List ℕ) → has_one rows ≡ nat_eq (length rows) 1
one_row [] = refl
one_row (r ∷ []) = refl
one_row (r ∷ s ∷ rows) = grind (arith, nat_tests)

module _ (texts : List Text) (t : NumberedTable) (label : Label) (places : List ℕ) (whole : IsWhole t) (frame : t.shape ≡ Frame) (here : IsSettled label_datum texts label)
    (are : places ≡ places_of_label (headings_value texts t.headings) (label_datum texts label)) where
  abbrev key : List LabelValue
  key = label_datum texts label ∷ []

  some_value : (h : Option Label) → IsSome h → IsSome (heading_value texts h)
  some_value = grind arith

  label_is : found_labels 1 (column_labels (table_value texts t)) (one_key key) ≡ found_pick (then_pick (unless_none key places) (λ rows. Ok (key_pick 1 key rows)))
  label_is =
      let some : All IsSome (headings_value texts t.headings) = All-map IsSome (heading_value texts) t.headings (λ k d lt. some_value _ (whole.headings.labelled frame k d lt)) in
      ap (λ rows. found_pick (then_pick (unless_none key rows) (λ rows. Ok (key_pick 1 key rows)))) (headings_meet _ 0 (headings_value texts t.headings) some ∙ sym are)

  pub label_missed : length places ≡ 0 → MakesBy pick_value texts (Err (Refused (NoKey (label ∷ [])))) (found_labels 1 (column_labels (table_value texts t)) (one_key key))
  label_missed none = grind (arith, label_is, no_key_settled)

  pub label_found : (picked : Picked) → (nat_eq (length places) 0 ≡ false) → picked.places ≡ places → picked.single ≡ nat_eq (length places) 1 → picked.dropped ≡ 0 → picked.span ≡ None
      → MakesBy pick_value texts (Ok picked) (found_labels 1 (column_labels (table_value texts t)) (one_key key))
  label_found = grind (arith, label_is, one_row)

-- a label that is an argument
rows_first : List ℕ → Option ℕ
rows_first [] = None
rows_first (row ∷ rows) = Some row

place_head : (l : LabelValue) (n : ℕ) (hs : List (Option LabelValue)) → rows_first (rows_where (finish.same_heading (Some l)) n hs) ≡ moved n (place_of_label hs l)
unfolding rows_first
place_head l n [] = refl
place_head l n (h ∷ hs) = grind (arith, place_head l (n + 1) hs)

module _ (t : Table) (l : LabelValue) (places : List ℕ) (are : places ≡ places_of_label t.headings l) where
  pub no_argument : length places ≡ 0 → argument_column t l ≡ Err (no_key (l ∷ []))
  unfolding rows_first
  no_argument = grind (arith, place_head l 0 t.headings)

  pub one_argument : (place : ℕ) → length places ≡ 1 → place ≡ slice_index_or places 0 0 → argument_column t l ≡ Ok place
  unfolding rows_first
  one_argument = grind (arith, place_head l 0 t.headings)

  pub several_argument : nat_lt 1 (length places) ≡ true → argument_column t l ≡ Err (bad_value (repeated (l ∷ [])))
  unfolding rows_first
  several_argument = grind (arith, place_head l 0 t.headings)

module _ (texts : List Text) (t : NumberedTable) (label : Label) (places : List ℕ) (here : IsSettled label_datum texts label)
    (are : places ≡ places_of_label (headings_value texts t.headings) (label_datum texts label)) where
  pub argument_missing : length places ≡ 0 → MakesBy as_it_is texts (Err (Refused (NoKey (label ∷ [])))) (argument_column (table_value texts t) (label_datum texts label))
  argument_missing none = (no_argument (table_value texts t) _ places are none, search no_key_settled)

  pub argument_met : (place : ℕ) → length places ≡ 1 → place ≡ slice_index_or places 0 0 → MakesBy as_it_is texts (Ok place) (argument_column (table_value texts t) (label_datum texts label))
  argument_met = one_argument (table_value texts t) _ places are

  pub argument_several : nat_lt 1 (length places) ≡ true → MakesBy as_it_is texts (Err (Refused (BadValue (Repeated (label ∷ []))))) (argument_column (table_value texts t) (label_datum texts label))
  argument_several several = (several_argument (table_value texts t) _ places are several, repeated_settled texts _ label refl here)

-- labels that are arguments
module _ (texts : List Text) (t : Table) (ls : List LabelValue) (named : Named) (are : first_columns t ls ≡ Ok named.places) (repeated : heading_value texts named.repeated ≡ label_of_several t ls) (settled : IsSettled heading_value texts named.repeated) where
  pub arguments_named : (result : Result (List ℕ) OpFault) → IfOk result (λ places. (places ≡ named.places) × (named.repeated ≡ None)) → IfErr result (λ fault. NamesRepeated fault named.repeated) → MakesBy as_it_is texts result (argument_columns t ls)
  arguments_named (Ok places) (same, none) _ = grind arith
  arguments_named (Err (Refused code)) _ (l, is, code_is) =
      let here : IsSettled label_datum texts l = search heading_label in
      (grind arith, repeated_settled texts code l code_is here)
  arguments_named (Err NoMemory) _ _ = tt

-- the column of a label of `at`
module _ (texts : List Text) (t : NumberedTable) (sub : List Text → GivenSub) (label : List Label) (is : (ts : List Text) → whole_key 1 (sub ts) ≡ Ok (tuple_value ts label)) (settled : (more : List Text) → sub (texts ++ more) ≡ sub texts) where
  pub column_once : (columns : Picked) → MakesBy pick_value texts (Ok columns) (loc_columns (table_value texts t) (sub texts)) → columns.single ≡ true → MakesBy pick_value texts (Ok columns) (columns_by at_labels (table_value texts t) (sub texts))
  column_once columns found single = grind (arith, is texts)

  pub column_repeated : (columns : Picked) → MakesBy pick_value texts (Ok columns) (loc_columns (table_value texts t) (sub texts)) → columns.single ≡ false
      → MakesBy pick_value texts (Err (Refused (BadValue (Repeated label)))) (columns_by at_labels (table_value texts t) (sub texts))
  column_repeated columns found several =
      let given : IsSettled tuple_value texts label = λ more. cc (is (texts ++ more), settled more, is texts) in
      let meant : columns_by at_labels (table_value texts t) (sub texts) ≡ Err (bad_value (repeated (tuple_value texts label))) = grind (arith, is texts) in
      (meant, λ more. ap (λ l. bad_value (repeated l)) (given more))

  pub column_refused : (why : OpFault) → MakesBy pick_value texts (Err why) (loc_columns (table_value texts t) (sub texts)) → MakesBy pick_value texts (Err why) (columns_by at_labels (table_value texts t) (sub texts))
  column_refused (Refused code) found = grind (arith, is texts)
  column_refused NoMemory found = tt
