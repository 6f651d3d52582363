-- Keys pick by texts what they pick by numbers, and a fault names a label whose text was given its number.
use Rattle.{
  frame_parts.{proofs.Common.{◌≡◌, ◌∙◌, refl, ap, sym, arith, ◌<◌, ℕ, ℤ, suc, ◌+◌, Bool, List, [], ◌∷◌, ◌++◌, map, All, Option, Some, None, Result, Ok, Err, pos, true, false, not, length, slice_index_or, unwrap_or, length-map, All-map, length-range_with_len, get_or-range_with_len, map-map, get_or-map, IfSome, IsSome, range_with_len, option_map, pointwise, Label, Cell, Boolean, Frame, AreDistinct, Text, LabelValue, label_datum, na_cell, datum, int, FaultValue, then_value, bad_value, Accessor, IsSettled, tuple_value, ColumnOf, NumberedTable, table_value, heading_value, column_at, row_of, GivenSub, same_label, same_tuple, column_labels, MakesBy, same_by_number, tuples_settled, tuple_by_number, as_it_is, OpFault, ObjId, Store, tables, object_value, world, IsSettledWorld, axis_of, headings_value, columns_value, labels_part, object_settled, CellColumn, AxisValue, HaveLevels}, specs.form.Given.{is_frame}},
  column_core.{proofs.cells.Common.{Ordering, label_cmp}, specs.cells.Fault.{repeated}},
  std.specs.Option.{is_some},
  indexers.{specs.{Picks.{PicksBy, pick_of}, declared.keys.{PosKey.{PosKey}, Picked.{Picked}, LocKey.{LocKey}, KeyFault.{KeyFault}}, Keys.{label_key, place_key}, Masks.{is_true}, index_core.Labels.{same_number, order_in}, pick.{Faults.{PickFault, not_there, bound_not_unique, out_of_range, no_mask_label, step_zero, then_pick, pick_seen}, Positions.{row_or_fault, rows_at}, Leading.{leads, leading_cmp}, Labels.{unless_none, rows_of_key, rows_of_keys}, Slices.{slice_on}, Masks.{cell_or_fault, kept_by_label, masked_rows, is_kept}, Keys.{listed_pick, sliced_pick, key_pick, picked_by_label, PlaceKey, one_place, each_place, place_slice, picked_by_place, one_key, Pick}}}, proofs.pick.SeenLaws.{then_seen, rows_of_key-map, rows_of_keys-map, slice_on-map, masked_rows-map}},
  frame_select.{proofs.{HeadingLaws.{label_decides, head_settled, rest_settled}, CutLaws.{column_seen, list_is, listed_is}}, specs.Reaches.{label_key_value, tuples_value, pick_value, found_result, object_key, heading_tuple, columns_axis, is_row, is_series}},
  meaning_charge.specs.select.Keys.{found_pick, found_labels, once},
}
use Rattle.indexers.specs.declared.keys.LocKey.TheVariants as key
use Rattle.indexers.specs.declared.keys.KeyFault.TheVariants as fault
use Rattle.cell_core.specs.declared.cell.Cell.TheVariants as code_cell
use Rattle.meaning_charge.specs.select.Keys as meant

-- a fault's key, where it has one
abbrev pub KeyIn : {K : Type 0} → (K → Type 0) → PickFault K → Type 0
KeyIn P (not_there k) = P k
KeyIn P (bound_not_unique k) = P k
KeyIn P (out_of_range z count) = Unit {0}
KeyIn P (no_mask_label k) = P k
KeyIn P step_zero = Unit {0}

abbrev pub FaultIn : {A K : Type 0} → (K → Type 0) → Result A (PickFault K) → Type 0
FaultIn P (Ok a) = Unit {0}
FaultIn P (Err fault) = KeyIn P fault

module _ {K : Type 0} (P : K → Type 0) where
  then_in : {A B : Type 0} (r : Result A (PickFault K)) (go : A → Result B (PickFault K)) → FaultIn P r → ((a : A) → FaultIn P (go a)) → FaultIn P (then_pick r go)
  then_in = grind arith

  unless_in : (key : K) (rows : List ℕ) → P key → FaultIn P (unless_none key rows)
  unless_in = grind arith

  keys_in : {X : Type 0} (meets : K → X → Bool) (xs : List X) (keys : List K) → All P keys → FaultIn P (rows_of_keys meets xs keys)
  keys_in _ _ [] _ = tt
  keys_in meets xs (key ∷ keys) given = grind (arith, then_in, unless_in, keys_in meets xs keys (λ k d lt. given (suc k) d (omega arith)), given 0 key (omega arith))

  slice_on_in : (levels : ℕ) (cmp : K → K → Ordering) (lower upper : Option K) (xs : List K) → IfSome lower P → IfSome upper P → FaultIn P (slice_on levels cmp lower upper xs)
  slice_on_in = grind (arith, then_in)

  cell_in : (x : K) (mask : List Bool) (row : Option ℕ) → P x → FaultIn P (cell_or_fault x mask row)
  cell_in = grind arith

  kept_in : (same : K → K → Bool) (labels : List K) (mask : List Bool) (row : ℕ) (xs : List K) → All P xs → FaultIn P (kept_by_label same labels mask row xs)
  kept_in _ _ _ _ [] _ = tt
  kept_in same labels mask row (x ∷ xs) given = grind (arith, then_in, cell_in, kept_in same labels mask (row + 1) xs (λ k d lt. given (suc k) d (omega arith)), given 0 x (omega arith))

  pub mask_in : (same : K → K → Bool) (xs labels : List K) (mask : List Bool) → All P xs → FaultIn P (masked_rows same xs labels mask)
  mask_in = grind (arith, kept_in)

-- labels whose texts were given their numbers
abbrev pub IsGivenTuple : List Text → List Label → Type 0
IsGivenTuple texts tuple = IsSettled tuple_value texts tuple

module _ (texts : List Text) where
  -- the parts of a key
  bound_given : (bound : Option (List Label)) → ((more : List Text) → option_map (tuple_value (texts ++ more)) bound ≡ option_map (tuple_value texts) bound) → IfSome bound (IsGivenTuple texts)
  bound_given None _ = tt
  bound_given (Some t) settled = λ more. cc (settled more)

  key_given : (k : List Label) → IsSettled label_key_value texts (key.One k) → IsGivenTuple texts k
  key_given k settled = λ more. cc (settled more)

  keys_given : (ks : List (List Label)) → IsSettled label_key_value texts (key.Many ks) → All (IsGivenTuple texts) ks
  keys_given ks settled = tuples_settled _ ks (λ more. cc (settled more))

  -- the fault of a key names a label of the key
  pub key_in : (levels : ℕ) (tuples : List (List Label)) (k : LocKey) → IsSettled label_key_value texts k → FaultIn (IsGivenTuple texts) (picked_by_label same_number (order_in texts) levels tuples (label_key k))
  key_in _ _ key.All _ = tt
  key_in _ _ (key.One k) settled = search (then_in, unless_in, key_given)
  key_in _ _ (key.Many ks) settled = search (then_in, keys_in, keys_given)
  key_in levels tuples (key.Span lower upper) settled =
      then_in _ (slice_on levels (leading_cmp (order_in texts)) lower upper tuples) _
      (slice_on_in _ levels _ _ _ tuples (grind (arith, bound_given)) (grind (arith, bound_given))) (λ rows. tt)

  module _ (distinct : AreDistinct texts) where
    same_is : (a b : Label) → IsSettled label_datum texts a → IsSettled label_datum texts b → same_label (label_datum texts a) (label_datum texts b) ≡ same_number a b
    same_is a b f g = sym (search (same_by_number, label_decides))

    leads_is : (key tuple : List Label) → IsGivenTuple texts key → IsGivenTuple texts tuple → leads same_label (tuple_value texts key) (tuple_value texts tuple) ≡ leads same_number key tuple
    leads_is [] _ f g = refl
    leads_is (k ∷ ks) [] f g = refl
    leads_is (k ∷ ks) (l ∷ ls) f g = search (same_is, head_settled, leads_is ks ls (rest_settled label_datum texts k ks f) (rest_settled label_datum texts l ls g))

    order_is : (tuple bound : List Label) → leading_cmp label_cmp (tuple_value texts tuple) (tuple_value texts bound) ≡ leading_cmp (order_in texts) tuple bound
    order_is _ [] = refl
    order_is [] (b ∷ bs) = refl
    order_is (l ∷ ls) (b ∷ bs) = cc (order_is ls bs)

    pub picked_is : (levels : ℕ) (tuples : List (List Label)) (k : LocKey) → All (IsGivenTuple texts) tuples → IsSettled label_key_value texts k
        → picked_by_label same_label label_cmp levels (map (tuple_value texts) tuples) (label_key_value texts k) ≡ pick_seen (tuple_value texts) (picked_by_label same_number (order_in texts) levels tuples (label_key k))
    picked_is _ _ key.All all settled = search length-map
    picked_is levels tuples (key.One k) all settled =
        let given : IsGivenTuple texts k = key_given k settled in
        ap (λ r. then_pick r (λ rows. Ok (key_pick levels (tuple_value texts k) rows))) (rows_of_key-map _ (leads same_label) (leads same_number) (tuple_value texts) (tuple_value texts) k (λ x there. leads_is k x given there) tuples all)
        ∙ then_seen _ (rows_of_key (leads same_number) tuples k) _ _ (λ rows. search length-map)
    picked_is _ tuples (key.Many ks) all settled =
        let given : All (IsGivenTuple texts) ks = keys_given ks settled in
        ap (λ r. then_pick r (λ rows. Ok (listed_pick rows))) (search (rows_of_keys-map, leads_is))
        ∙ then_seen _ (rows_of_keys (leads same_number) tuples ks) _ _ (λ rows. refl)
    picked_is levels tuples (key.Span lower upper) all settled =
        ap (λ r. then_pick r (λ rows. Ok (sliced_pick rows))) (search (slice_on-map, order_is))
        ∙ then_seen _ (slice_on levels (leading_cmp (order_in texts)) lower upper tuples) _ _ (λ rows. refl)

-- the same places, whatever the keys are
places_seen : {K J : Type 0} (f : K → J) (count : ℕ) (zs : List ℤ) → rows_at count zs ≡ pick_seen f (rows_at count zs)
places_seen f _ [] = refl
places_seen {K} {J} f count (z ∷ zs) = grind (arith, places_seen f count zs)

pub by_place_seen : {K J : Type 0} (f : K → J) (count : ℕ) (k : PlaceKey) → picked_by_place count k ≡ pick_seen f (picked_by_place count k)
by_place_seen {K} {J} f _ (one_place z) = grind arith
by_place_seen {K} {J} f count (each_place zs) = cc (places_seen f count zs, then_seen f (rows_at count zs) (λ rows. Ok (listed_pick rows)) (λ rows. Ok (listed_pick rows)) (λ rows. refl))
by_place_seen {K} {J} f _ (place_slice from to step) = grind arith

-- and their faults have no key
module _ {K : Type 0} (P : K → Type 0) (count : ℕ) where
  place_in : (z : ℤ) (row : Option ℕ) → FaultIn P (row_or_fault count z row)
  place_in = grind arith

  places_in : (zs : List ℤ) → FaultIn P (rows_at count zs)
  places_in [] = tt
  places_in (z ∷ zs) = search (then_in, place_in, places_in zs)

  pub by_place_in : (k : PlaceKey) → FaultIn P (picked_by_place count k)
  by_place_in = grind (arith, then_in, place_in, places_in)

-- what is found is what is meant, seen through the texts
pub found_seen : {A B : Type 0} (texts : List Text) (view : A → B) (r : Result A KeyFault) (by_number : Result B (PickFault (List Label))) (seen : Result B (PickFault (List LabelValue)))
    → PicksBy view r by_number → seen ≡ pick_seen (tuple_value texts) by_number → FaultIn (IsGivenTuple texts) by_number → MakesBy (λ (ts : List Text). view) texts (found_result r) (found_pick seen)
found_seen _ _ (Ok made) _ _ is same given = cc
found_seen texts _ (Err (fault.NotThere k)) _ _ is same given =
    let settled : IsGivenTuple texts k = grind arith in
    (cc, search)
found_seen texts _ (Err (fault.BoundNotUnique k)) _ _ is same given =
    let settled : IsGivenTuple texts k = grind arith in
    (cc, search)
found_seen _ _ (Err (fault.OutOfRange z count)) _ _ is same given = grind arith
found_seen texts _ (Err (fault.NoMaskLabel k)) _ _ is same given =
    let settled : IsGivenTuple texts k = grind arith in
    (cc, search)
found_seen _ _ (Err fault.StepZero) _ _ is same given = grind arith
found_seen _ _ (Err fault.NoMemory) _ _ is same given = tt

module _ (texts : List Text) where
  pub places_found : (count : ℕ) (k : PosKey) (r : Result Picked KeyFault) (out : Result Picked OpFault) (m : Result PlaceKey FaultValue) → out ≡ found_result r → PicksBy pick_of r (picked_by_place count (place_key k)) → m ≡ Ok (place_key k) → MakesBy pick_value texts out (then_value m (λ key. found_pick (picked_by_place count key)))
  places_found count k r _ m is picks here =
      let seen = found_seen texts _ r _ (picked_by_place count (place_key k)) picks (search by_place_seen) (search by_place_in) in
      grind arith

  pub labels_found : (levels : ℕ) (tuples : List (List Label)) (k : LocKey) (r : Result Picked KeyFault) (out : Result Picked OpFault) → AreDistinct texts → IsSettled tuples_value texts tuples → IsSettled label_key_value texts k → out ≡ found_result r → PicksBy pick_of r (picked_by_label same_number (order_in texts) levels tuples (label_key k))
      → MakesBy pick_value texts out (found_labels levels (tuples_value texts tuples) (label_key_value texts k))
  labels_found _ _ k r _ distinct given settled is picks =
      let seen = found_seen _ _ r _ _ picks
      (search (picked_is, tuples_settled)) (key_in _ _ _ k settled) in
      rw is seen

-- all of so many places
pub range_below : (n : ℕ) → All (λ place. place < n) (range_with_len 0 n)
range_below = grind (arith, length-range_with_len, get_or-range_with_len)

-- The rows and columns that keys reach are those that are meant.

-- a key by label, a key that is settled, and what it finds on an axis
abbrev pub IsKeyOf : ℕ → (List Text → GivenSub) → LocKey → Type 0
IsKeyOf levels sub k = (ts : List Text) → meant.label_key levels (sub ts) ≡ Ok (label_key_value ts k)

abbrev pub IsGiven : List Text → (List Text → GivenSub) → Type 0
IsGiven texts sub = (more : List Text) → sub (texts ++ more) ≡ sub texts

abbrev pub IsFound : List Text → AxisValue → LocKey → Result Picked OpFault → Type 0
IsFound texts axis k out = IsSettled label_key_value texts k → MakesBy pick_value texts out (found_labels (length axis.names) (tuples_value texts axis.tuples) (label_key_value texts k))

-- the labels of the columns at these places, one to each row
abbrev pub heading_tuples : List (Option Label) → List ℕ → List (List Label)
heading_tuples headings places = map (λ place. heading_tuple (slice_index_or headings place None)) places

-- two keys that are settled are one that is
module _ (texts : List Text) where
  pub joined_settled : (by : Accessor) (levels : ℕ) (first second key : List Text → GivenSub) → ((ts : List Text) → meant.joined_key by levels (first ts) (second ts) ≡ Ok (key ts)) → IsGiven texts first
      → IsGiven texts second → IsGiven texts key
  joined_settled = grind arith

  -- the rows of a label of `at`
  module _ (t : NumberedTable) (axis : AxisValue) (levels : ℕ) (sub : List Text → GivenSub) (label copy : List Label) (count : levels ≡ length t.level_names) (same_axis : axis ≡ axis_of t) (is : (ts : List Text) → meant.whole_key levels (sub ts) ≡ Ok (tuple_value ts label)) (copied : copy ≡ label) (settled : IsGiven texts sub) where
    whole_settled : IsGivenTuple texts label
    whole_settled = λ more. cc (is (texts ++ more), settled more, is texts)

    at_is : meant.at_rows (table_value texts t) (sub texts) ≡ then_value (found_labels (length axis.names) (tuples_value texts axis.tuples) (label_key_value texts (key.One copy))) (once (tuple_value texts label))
    at_is = grind (arith, length-map)

    given_copy : IsSettled label_key_value texts (key.One copy)
    given_copy = rw copied (λ more. ap (λ l. one_key l) (whole_settled more))

    pub at_refused : (why : OpFault) → IsFound texts axis (key.One copy) (Err why) → MakesBy pick_value texts (Err why) (meant.at_rows (table_value texts t) (sub texts))
    at_refused why found = grind (arith, at_is, found given_copy)

    pub at_found : (picked : Picked) → picked.single ≡ true → IsFound texts axis (key.One copy) (Ok picked) → meant.at_rows (table_value texts t) (sub texts) ≡ Ok (pick_of picked)
    at_found _ single found = cc (at_is, found given_copy)

    pub at_repeated : (picked : Picked) → picked.single ≡ false → IsFound texts axis (key.One copy) (Ok picked)
        → (meant.at_rows (table_value texts t) (sub texts) ≡ Err (bad_value (repeated (tuple_value texts label)))) × ((more : List Text) → bad_value (repeated (tuple_value (texts ++ more) label)) ≡ bad_value (repeated (tuple_value texts label)))
    at_repeated picked single found = (cc (at_is, found given_copy), λ more. ap (λ l. bad_value (repeated l)) (whole_settled more))

  -- masks
  cell_seen : (columns : List (ColumnOf Cell)) (k : ℕ) → is_kept (slice_index_or (map (λ c. slice_index_or c.cells k na_cell) (columns_value texts columns)) 0 na_cell) ≡ slice_index_or (map is_true (column_at columns 0).cells) k false
  cell_seen [] k = refl
  cell_seen (c ∷ cs) k = grind (arith, get_or-map (datum texts) c.cells k code_cell.Na, get_or-map is_true c.cells k code_cell.Na)

  marks_seen : (m : NumberedTable) → length (column_at m.columns 0).cells ≡ length m.labels → meant.marks_of (table_value texts m) ≡ map is_true (column_at m.columns 0).cells
  marks_seen m filled =
      let marks = map is_true (column_at m.columns 0).cells in
      let mark : ℕ → Bool = λ k. is_kept (slice_index_or (row_of na_cell (table_value texts m) k).cells 0 na_cell) in
      let count : length (map (tuple_value texts) m.labels) ≡ length marks = grind (arith, length-map) in
      cc (map-map (λ r. is_kept (slice_index_or r.cells 0 na_cell)) (row_of na_cell (table_value texts m)) (range_with_len 0 (length (map (tuple_value texts) m.labels))), list_is mark marks 0 false (λ k lt. let e : 0 + k ≡ k = omega arith in ap mark e ∙ cell_seen m.columns k))

abbrev mask_rows : List Text → NumberedTable → NumberedTable → List Bool → Result (List ℕ) FaultValue
mask_rows texts t m marks = found_pick (masked_rows same_tuple (tuples_value texts t.labels) (tuples_value texts m.labels) marks)

module _ (texts : List Text) (store : Store) (t m : NumberedTable) (id : ObjId) (axis mask_axis : AxisValue) (column : CellColumn) (r : Result (List ℕ) KeyFault) (distinct : AreDistinct texts)
    (given : IsSettled table_value texts t) (settled : IsSettledWorld (world store texts)) (read : tables store id.0 ≡ Some m) (shape : is_frame m.shape ≡ false) (boolean : column.kind ≡ Boolean)
    (same_axis : axis ≡ axis_of t) (mask_same : mask_axis ≡ axis_of m) (at : column_at m.columns 0 ≡ record { kind = column.kind; cells = column.cells }) (filled : length column.cells ≡ length m.labels)
    (picks : PicksBy as_it_is r (masked_rows (pointwise same_number) axis.tuples mask_axis.tuples (map is_true column.cells))) where
  by_number : PicksBy as_it_is r (masked_rows (pointwise same_number) t.labels m.labels (map is_true column.cells))
  by_number = grind arith

  seen : MakesBy (λ (ts : List Text). as_it_is) texts (found_result r) (mask_rows texts t m (map is_true column.cells))
  seen =
      let all = tuples_settled _ _ (labels_part _ t given) in
      let mask_all = tuples_settled _ _ (labels_part _ m (object_settled _ _ _ _ read settled)) in
      found_seen _ _ r _ _ by_number
      (search (masked_rows-map, tuple_by_number))
      (search mask_in)

  pub mask_made : (out : Result (List ℕ) OpFault) → out ≡ found_result r → MakesBy (λ (ts : List Text). listed_pick) texts out (meant.mask_pick (table_value texts t) (object_value (tables store) texts id))
  mask_made = grind (arith, column_seen, marks_seen, seen)

-- the labels of the columns as rows
module _ (headings : List (Option Label)) (places : List ℕ) where
  pub axis_levels : All IsSome headings → All (λ place. place < length headings) places → HaveLevels 1 (heading_tuples headings places)
  axis_levels some below = All-map (λ tuple. length tuple ≡ 1) (λ place. heading_tuple (slice_index_or headings place None)) places (λ k d lt. grind (arith, some (slice_index_or places k d) None (below k d lt)))

abbrev label_tuple : Option LabelValue → List LabelValue
label_tuple None = []
label_tuple (Some l) = l ∷ []

axis_seen : (texts : List Text) (headings : List (Option Label)) (places : List ℕ)
    → tuples_value texts (heading_tuples headings places) ≡ map (λ place. label_tuple (slice_index_or (headings_value texts headings) place None)) places
axis_seen _ _ [] = refl
axis_seen texts headings (p ∷ ps) = grind (arith, axis_seen texts headings ps, get_or-map (heading_value texts) headings p None)

pub axis_given : (texts : List Text) (headings : List (Option Label)) (places : List ℕ) → IsSettled headings_value texts headings → IsSettled tuples_value texts (heading_tuples headings places)
axis_given = grind (arith, axis_seen)

module _ (texts : List Text) where
  labels_are : (headings : List (Option Label)) → All IsSome headings → map label_tuple (headings_value texts headings) ≡ map (λ h. unwrap_or h (int (pos 0)) ∷ []) (headings_value texts headings)
  labels_are [] _ = refl
  labels_are (h ∷ hs) some = grind (arith, labels_are hs (λ k d lt. some (suc k) d (omega arith)), some 0 h (omega arith))

  -- the labels of a key that is settled are settled too
  pub key_settled : (sub : List Text → GivenSub) (k : LocKey) (levels : ℕ) → IsGiven texts sub → IsKeyOf levels sub k → IsSettled label_key_value texts k
  key_settled = grind arith

  module _ (t : NumberedTable) where
    pub all_labels : (places : List ℕ) → All IsSome t.headings → places ≡ range_with_len 0 (length t.headings)
        → tuples_value texts (map (λ place. heading_tuple (slice_index_or t.headings place None)) places) ≡ column_labels (table_value texts t)
    all_labels _ some all =
        let seen = headings_value texts t.headings in
        let count : length t.headings ≡ length seen = search length-map in
        axis_seen _ _ _
        ∙ ap (map (λ place. label_tuple (slice_index_or seen place None))) (all ∙ ap (range_with_len 0) count)
        ∙ sym (search map-map)
        ∙ ap (map _) (listed_is seen None)
        ∙ labels_are _ some

    -- the rows of a key of `loc` are those of its labels
    pub loc_is : (axis : AxisValue) (sub : List Text → GivenSub) (k : LocKey) (levels : ℕ) → levels ≡ length t.level_names → axis ≡ axis_of t → None ≡ object_key (sub texts) → IsKeyOf levels sub k
        → meant.loc_rows (table_value texts t) (sub texts) ≡ found_labels (length axis.names) (tuples_value texts axis.tuples) (label_key_value texts k)
    loc_is = grind (arith, length-map)

    -- what a key of labels finds
    module _ (axis : AxisValue) (sub : List Text → GivenSub) (k : LocKey) (out : Result Picked OpFault) (settled : IsGiven texts sub) (found : IsFound texts axis k out) where
      pub loc_found : (levels : ℕ) → levels ≡ length t.level_names → axis ≡ axis_of t → None ≡ object_key (sub texts) → IsKeyOf levels sub k → MakesBy pick_value texts out (meant.loc_rows (table_value texts t) (sub texts))
      loc_found levels count same none is = rw (loc_is axis sub k levels count same none is) (found (key_settled sub k levels settled is))

      pub columns_found : (places : List ℕ) → All IsSome t.headings → places ≡ range_with_len 0 (length t.headings) → axis ≡ columns_axis t places → is_row (sub texts) ≡ false → IsKeyOf 1 sub k
          → MakesBy pick_value texts out (meant.loc_columns (table_value texts t) (sub texts))
      columns_found = grind (arith, all_labels, key_settled)

    -- what one key reaches
    module _ (rows_meant : Result Pick FaultValue) (rows columns : Picked) (reached : rows_meant ≡ Ok (pick_of rows)) (places : columns.places ≡ range_with_len 0 (length t.columns)) (single : columns.single ≡ is_series t.shape) (sliced : (columns.dropped ≡ 0) × (is_some columns.span ≡ not columns.single)) where
      pub reach_frame : t.shape ≡ Frame → meant.reach_of rows_meant (Ok (meant.all_columns (table_value texts t))) ≡ Ok record { rows = pick_of rows; columns = pick_of columns }
      reach_frame = grind (arith, length-map)
