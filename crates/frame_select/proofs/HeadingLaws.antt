-- Headings that are told apart by the numbers of their texts.
use Rattle.{frame_parts.{proofs.{Common.{◌≡◌, ◌<◌, ◌+◌, refl, ℕ, suc, Bool, false, ◌||◌, cond, List, [], ◌∷◌, map, length, drop, slice_index_or, Option, Some, None, All, arith, rules, true, ◌++◌, ap, append_assoc, append-nil, Result, Ok, Err, ℤ, ◌-◌, ◌&&◌, take, take_more, drop_more, length-map, list_any-append, get_or_from_slice_get, slice_get_within, get_or-map, drop-cons, drop-length, ◌≢◌, slice_get, Decides, list_any, list_all, lookup, option_map, Label, Cell, Na, Code, NoKey, AreDistinct, Text, label_datum, na_cell, LabelValue, datum, CellValue, fault_of, cell_label, FaultValue, then_value, IsSettled, heading_value, NumberedTable, Table, table_value, tuple_value, IsWhole, cell, table, GivenList, one, many, no_given, more_given, try_all, place_of_label, cells_of, same_by_number, heading_label, value_decides, label_of, headings_value, cells_value, Item, Tables, items_of}, LabelLaws.{label_given, label_one}}, specs.form.{Finish.{first_shared}, Select.{found, first_column}, Given.{count_of, each, is_scalar, is_truth}}}, column_core.proofs.cells.Common.{position_from}, indexmap.specs.IndexSet.{insert_key}, cell_core.specs.declared.code.{Code.TheVariants.{BadValue}, Reason.TheVariants.{Repeated}}, frame_store.specs.tables.Value.{nothing, row, entries}, frame_select.specs.{Headings.{same_number, same_heading, shared_heading, HaveFirstPlaces}, Reaches.{tuples_value}, Selected.{each_truth, scalars_in}, Plans.{IsPlanOf, TakesAll, has_single_row, has_single_column}, declared.planning.Plan.{Plan}}, indexers.specs.{Picks.{pick_of}, pick.Keys.{Pick}, declared.keys.Picked.{Picked}}, meaning_charge.specs.select.{Keys.{whole_cell, reach_of, all_rows_of}, Select.{are_truths}}}
use Rattle.frame_parts.specs.form.Finish as finish

pub label_decides : (a b : Label) → Decides (same_number a b) (a ≡ b)
label_decides = search rules

pub heading_decides : (a b : Option Label) → Decides (same_heading a b) (a ≡ b)
heading_decides = grind arith

-- a list that is settled, part by part
module _ {X Y : Type 0} (view : List Text → X → Y) (texts : List Text) (x : X) (xs : List X) where
  pub head_settled : IsSettled (λ ts. map (view ts)) texts (x ∷ xs) → IsSettled view texts x
  head_settled = grind arith

  pub rest_settled : IsSettled (λ ts. map (view ts)) texts (x ∷ xs) → IsSettled (λ ts. map (view ts)) texts xs
  rest_settled = grind arith

-- a heading that stands again
module _ (texts : List Text) where
  pub same_seen : (a b : Option Label) → AreDistinct texts → IsSettled heading_value texts a → IsSettled heading_value texts b → same_heading a b ≡ finish.same_heading (heading_value texts a) (heading_value texts b)
  same_seen None None _ f g = refl
  same_seen None (Some b) _ f g = refl
  same_seen (Some a) None _ f g = refl
  same_seen (Some a) (Some b) distinct f g = search (same_by_number, heading_label, label_decides)

  any_seen : (h : Option Label) (hs : List (Option Label)) → AreDistinct texts → IsSettled heading_value texts h → IsSettled headings_value texts hs
      → list_any (same_heading h) hs ≡ list_any (finish.same_heading (heading_value texts h)) (headings_value texts hs)
  any_seen h [] _ _ _ = refl
  any_seen h (g ∷ gs) distinct here settled = cc (same_seen h g distinct here (search head_settled), any_seen h gs distinct here (grind arith))

  pub shared_seen : (hs others : List (Option Label)) → AreDistinct texts → IsSettled headings_value texts hs → IsSettled headings_value texts others
      → heading_value texts (shared_heading hs others) ≡ first_shared (headings_value texts hs) (headings_value texts others)
  shared_seen [] others _ _ _ = refl
  shared_seen (h ∷ hs) others distinct settled given =
      grind (arith, list_any-append, shared_seen hs others distinct (grind arith) given, any_seen h hs distinct (search head_settled) (grind arith), any_seen h others distinct (search head_settled) given)

-- one heading more, from the last on
pub key_more : (q h : Option Label) (keys : List (Option Label)) → list_any (same_heading q) (insert_key same_heading keys h) ≡ (same_heading q h || list_any (same_heading q) keys)
key_more = search (rules, list_any-append)

pub later_step : (hs others keys keys' : List (Option Label)) (p : ℕ) (d q : Option Label) → p < length hs → ((q : Option Label) → list_any (same_heading q) keys ≡ list_any (same_heading q) (drop (p + 1) hs ++ others))
    → keys' ≡ insert_key same_heading keys (slice_index_or hs p d) → list_any (same_heading q) keys' ≡ list_any (same_heading q) (drop p hs ++ others)
later_step = grind (arith, key_more, drop_more)

pub other_step : (others keys keys' : List (Option Label)) (k : ℕ) (d q : Option Label) → k < length others → ((q : Option Label) → list_any (same_heading q) keys ≡ list_any (same_heading q) (take k others))
    → keys' ≡ insert_key same_heading keys (slice_index_or others k d) → list_any (same_heading q) keys' ≡ list_any (same_heading q) (take (k + 1) others)
other_step others keys keys' k d q lt before is = grind (arith, key_more, take_more others k d lt, list_any-append)

-- the first place of each heading, with one heading more before the others
pub first_places_more : (hs : List (Option Label)) (p : ℕ) (d h : Option Label) (es es' : List (Option Label × ℕ)) → p < length hs → h ≡ slice_index_or hs p d
    → ((q : Option Label) → lookup (same_heading q) es' ≡ cond (same_heading h q) (Some p) (lookup (same_heading q) es)) → HaveFirstPlaces es (p + 1) (drop (p + 1) hs) → HaveFirstPlaces es' p (drop p hs)
first_places_more = grind (arith, drop_more)

-- a place at which a test passes is one of the list's
pub position_inside : (test : Option Label → Bool) (from : ℕ) (hs : List (Option Label)) (k : ℕ) → position_from test from hs ≡ Some k → k < from + length hs
position_inside _ _ [] k found = cc
position_inside test from (h ∷ hs) k found = grind (arith, position_inside test (from + 1) hs k)

-- Refusals that name a label whose text was given its number.

-- a key that isn't there
module _ (texts : List Text) where
  pub no_key_settled : (label : Label) → IsSettled label_datum texts label → IsSettled fault_of texts (NoKey (label ∷ []))
  no_key_settled = search

  -- a heading that stands again
  heading_shared : (hs others : List (Option Label)) → IsSettled headings_value texts hs → IsSettled heading_value texts (shared_heading hs others)
  heading_shared [] others _ = λ more. refl
  heading_shared (h ∷ hs) others settled = λ more. grind (arith, settled more, heading_shared hs others (grind arith) more)

  pub repeated_settled : (code : Code) (label : Label) → code ≡ BadValue (Repeated (label ∷ [])) → IsSettled label_datum texts label → IsSettled fault_of texts code
  repeated_settled = grind arith

  pub shared_settled : (code : Code) (hs others : List (Option Label)) (label : Label) → shared_heading hs others ≡ Some label → code ≡ BadValue (Repeated (label ∷ [])) → IsSettled headings_value texts hs
      → IsSettled fault_of texts code
  shared_settled code hs others label found is settled =
      let here : IsSettled label_datum texts label = search (heading_label, heading_shared) in
      repeated_settled code label is here

  -- Columns by their labels.

  -- a heading as it is seen
  pub heading_seen : (headings : List (Option Label)) (place : ℕ) → slice_index_or (headings_value texts headings) place None ≡ heading_value texts (slice_index_or headings place None)
  heading_seen headings place = get_or-map (heading_value texts) headings place None

pub heading_settled : (texts : List Text) (headings : List (Option Label)) (place : ℕ) (heading : Option Label) → heading ≡ slice_index_or headings place None → IsSettled headings_value texts headings → IsSettled heading_value texts heading
heading_settled texts headings place _ is settled = λ more. grind (arith, heading_seen (texts ++ more) headings place, heading_seen texts headings place, settled more)

-- a place after so many others
abbrev pub moved : ℕ → Option ℕ → Option ℕ
moved n o = option_map (λ k. n + k) o

abbrev pub place_from : List Text → List (Option Label) → Label → ℕ → Option ℕ
place_from texts headings label place = moved place (place_of_label (drop place (headings_value texts headings)) (label_datum texts label))

-- the first column with the label is met, or passed
module _ (texts : List Text) where
  module _ (headings : List (Option Label)) (label : Label) (place : ℕ) where
    module _ (heading : Option Label) (b : Bool) (whole : Option ℕ) (lt : place < length headings) (is : heading ≡ slice_index_or headings place None) (same : b ≡ finish.same_heading (heading_value texts (Some label)) (heading_value texts heading)) where
      pub place_met : b ≡ true → place_from texts headings label place ≡ whole → Some place ≡ whole
      place_met is_so before = grind (arith, heading_seen, drop_more (headings_value texts headings) place None (omega (arith, length-map headings (heading_value texts))))

      pub place_passed : b ≡ false → place_from texts headings label place ≡ whole → place_from texts headings label (place + 1) ≡ whole
      place_passed other before = grind (arith, heading_seen, drop_more (headings_value texts headings) place None (omega (arith, length-map headings (heading_value texts))))

    pub no_place : (whole : Option ℕ) → place ≡ length headings → place_from texts headings label place ≡ whole → None ≡ whole
    no_place = grind (arith, length-map, drop-length)

  -- a cell of a list that was given
  pub cell_seen : (cells : List Cell) (k : ℕ) (cell : Cell) → slice_get cells k ≡ Some cell → slice_index_or (cells_value texts cells) k na_cell ≡ datum texts cell
  cell_seen cells k c at = cc (get_or-map (datum texts) cells k Na, get_or_from_slice_get cells k c Na at)

  pub label_settled : (label : Label) (cell : Cell) → ((texts : List Text) → label_datum texts label ≡ cell_label (datum texts cell)) → IsSettled datum texts cell → IsSettled label_datum texts label
  label_settled = grind arith

pub listed_settled : (texts : List Text) (cells : List Cell) (k : ℕ) (cell : Cell) (label : Label) → slice_get cells k ≡ Some cell → ((texts : List Text) → label_datum texts label ≡ cell_label (datum texts cell))
    → IsSettled cells_value texts cells → IsSettled label_datum texts label
listed_settled texts cells k c _ at seen settled = λ more. cc (cell_seen (texts ++ more) cells k c at, cell_seen texts cells k c at, settled more, seen (texts ++ more), seen texts)

-- what f makes of each, after what was made so far
abbrev pub made_after : {A B : Type 0} → (A → Result B FaultValue) → List B → List A → Result (List B) FaultValue
made_after f made xs = then_value (try_all f xs) (λ ys. Ok (made ++ ys))

module _ {A B : Type 0} where
  pub one_more : (f : A → Result B FaultValue) (xs : List A) (k : ℕ) (x : A) (y : B) (made made' : List B) (whole : Result (List B) FaultValue) → drop k xs ≡ x ∷ drop (suc k) xs → f x ≡ Ok y → made' ≡ made ++ y ∷ []
      → made_after f made (drop k xs) ≡ whole → made_after f made' (drop (k + 1) xs) ≡ whole
  one_more = grind (arith, append_assoc)

  pub all_made : (f : A → Result B FaultValue) (made : List B) (xs : List A) (k : ℕ) (whole : Result (List B) FaultValue) → k ≡ length xs → made_after f made (drop k xs) ≡ whole → whole ≡ Ok made
  all_made = grind (arith, drop-length, append-nil)

-- the labels that cells are
abbrev pub labels_seen : List Text → List Cell → List LabelValue
labels_seen texts cells = map cell_label (cells_value texts cells)

module _ (texts : List Text) where
  module _ (cells : List Cell) (k : ℕ) (cell : Cell) (label : Label) (at : slice_get cells k ≡ Some cell) (seen : label_datum texts label ≡ cell_label (datum texts cell)) where
    pub from_label : drop k (labels_seen texts cells) ≡ label_datum texts label ∷ drop (suc k) (labels_seen texts cells)
    from_label = grind (arith, drop-cons, length-map, get_or-map cell_label (cells_value texts cells) k na_cell, cell_seen, slice_get_within cells k cell at)

    -- or none
    pub place_refused : (t : Table) (places : List ℕ) (fault : FaultValue) (whole : Result (List ℕ) FaultValue) → first_column t (label_datum texts label) ≡ Err fault → made_after (first_column t) places (drop k (labels_seen texts cells)) ≡ whole
        → whole ≡ Err fault
    place_refused = grind (arith, from_label)

  -- the column that is met has the label itself
  pub met_is : (label : Label) (heading : Option Label) (b : Bool) → AreDistinct texts → IsSettled label_datum texts label → IsSettled heading_value texts heading
      → b ≡ finish.same_heading (heading_value texts (Some label)) (heading_value texts heading) → b ≡ true → heading ≡ Some label
  met_is _ None b distinct settled there same is_so = search
  met_is label (Some x) b distinct settled there same is_so = grind (arith, value_decides, label_one texts label x distinct (label_given _ _ settled) (search (label_given, heading_label)))

  -- and no column has it where none is met
  pub absent_is : (headings : List (Option Label)) (label : Label) → place_of_label (headings_value texts headings) (label_datum texts label) ≡ None → All (λ heading. heading ≢ Some label) headings
  absent_is [] _ none = grind arith
  absent_is (h ∷ hs) label none =
      grind (arith, value_decides, absent_is hs label)

  -- the first place of a label by numbers is the one that is meant
  position_seen : (n : ℕ) (hs : List (Option Label)) (label : Label) → AreDistinct texts → IsSettled headings_value texts hs → IsSettled label_datum texts label
      → position_from (same_heading (Some label)) n hs ≡ moved n (place_of_label (headings_value texts hs) (label_datum texts label))
  position_seen n [] _ _ _ _ = refl
  position_seen n (h ∷ hs) label distinct settled here = grind (arith, position_seen (n + 1) hs label distinct (grind arith) here, same_seen texts (Some label) h distinct (λ more. ap Some (here more)) (search head_settled))

  -- what the entries have for a label
  pub looked_up : (es : List (Option Label × ℕ)) (t : NumberedTable) (label : Label) (place : Option ℕ) → AreDistinct texts → IsSettled headings_value texts t.headings → IsSettled label_datum texts label
      → HaveFirstPlaces es 0 t.headings → place ≡ lookup (same_heading (Some label)) es → first_column (table_value texts t) (label_datum texts label) ≡ found (label_datum texts label) place
  looked_up _ t label place distinct settled here first is = grind (arith, first (Some label), position_seen 0 t.headings label distinct settled here)

pub looked_inside : (es : List (Option Label × ℕ)) (t : NumberedTable) (label : Label) (place : ℕ) → IsWhole t → HaveFirstPlaces es 0 t.headings → Some place ≡ lookup (same_heading (Some label)) es → place < length t.columns
looked_inside = grind (arith, position_inside)

-- Keys that are read of lists.

-- labels before those of other scalars
abbrev pub labels_after : List Text → List Label → Option (List CellValue) → Option (List LabelValue)
labels_after texts made rest = option_map (λ cs. tuple_value texts made ++ map cell_label cs) rest

pub count_items : (live : Tables) (texts : List Text) (items : List Item) → count_of (items_of live texts items) ≡ length items
count_items _ _ [] = refl
count_items live texts (x ∷ items) = grind (arith, count_items live texts items)

-- the cells from one on
module _ (texts : List Text) (cells : List Cell) (k : ℕ) where
  module _ (c : Cell) (at : slice_get cells k ≡ Some c) where
    pub from_cell : drop k (cells_value texts cells) ≡ datum texts c ∷ drop (suc k) (cells_value texts cells)
    from_cell = grind (arith, drop-cons, length-map, cell_seen, slice_get_within cells k c at)

    -- one more whole number
    pub whole_more : (z : ℤ) (numbers numbers' : List ℤ) (whole : Result (List ℤ) FaultValue) → whole_cell (datum texts c) ≡ Ok z → numbers' ≡ numbers ++ z ∷ [] → made_after whole_cell numbers (drop k (cells_value texts cells)) ≡ whole
        → made_after whole_cell numbers' (drop (k + 1) (cells_value texts cells)) ≡ whole
    whole_more _ _ _ _ = one_more whole_cell (cells_value texts cells) k _ _ _ _ _ from_cell

-- keys before those of other items
abbrev pub keys_after : List Text → List (List Label) → Result (List (List LabelValue)) FaultValue → Result (List (List LabelValue)) FaultValue
keys_after texts made rest = then_value rest (λ keys. Ok (tuples_value texts made ++ keys))

-- a cell as a label, with its text
pub label_seen : (texts : List Text) (c : Cell) → label_datum texts (label_of c) ≡ cell_label (datum texts c)
label_seen = grind arith

-- What is read of subscripts and lists.

-- what stands after the first part
abbrev pub after : {X : Type 0} → List X → List X
after xs = take (length xs - 1) (drop 1 xs)

-- scalars after those so far
abbrev pub scalars_after : List Text → List Cell → Option (List CellValue) → Option (List CellValue)
scalars_after texts made rest = option_map (λ cs. cells_value texts made ++ cs) rest

-- Lists of truth values.

-- a list of truth values alone is one of scalars
truths_are : (parts : GivenList) → (each is_scalar parts && list_all is_truth (cells_of parts)) ≡ each_truth parts
truths_are no_given = refl
truths_are (more_given (one (cell c)) rest) = grind (arith, truths_are rest)
truths_are (more_given (one (table t)) rest) = refl
truths_are (more_given nothing rest) = refl
truths_are (more_given (row parts) rest) = refl
truths_are (more_given (many parts) rest) = refl
truths_are (more_given (entries pairs) rest) = refl

module _ (live : Tables) (texts : List Text) where
  some_cell : (items : List Item) (b : Bool) → 0 < length items → each is_scalar (items_of live texts items) ≡ b → (b && are_truths (cells_of (items_of live texts items))) ≡ (b && list_all is_truth (cells_of (items_of live texts items)))
  some_cell _ false _ _ = refl
  some_cell [] true some is = grind arith
  some_cell (x ∷ xs) true some is = grind arith

  pub truth_list_is : (items : List Item) → 0 < length items → (each is_scalar (items_of live texts items) && are_truths (cells_of (items_of live texts items))) ≡ each_truth (items_of live texts items)
  truth_list_is = search (some_cell, truths_are)

-- What brackets take.

-- the scalars of a settled list
module _ (texts : List Text) where
  pub scalars_settled : (live : Tables) (items : List Item) (cells : List Cell) → ((ts : List Text) → Some (cells_value ts cells) ≡ scalars_in (items_of live ts items)) → IsSettled (items_of live) texts items
      → IsSettled cells_value texts cells
  scalars_settled _ _ _ is settled = λ more. cc (is (texts ++ more), settled more, is texts)

  -- all rows of some columns
  module _ (t : NumberedTable) (plan : Plan) (all : TakesAll t plan.rows) where
    pub columns_planned : (columns : Picked) (picked : Result Pick FaultValue) → picked ≡ Ok (pick_of columns) → plan.columns ≡ columns.places → has_single_row plan.extent ≡ false → has_single_column plan.extent ≡ columns.single
        → IsPlanOf texts t plan (reach_of (Ok (all_rows_of (table_value texts t))) picked)
    columns_planned columns picked is places several single = record { picked = grind (arith, length-map); shared = grind arith }
