-- Columns of labels, and those that they leave.
use Rattle.{frame_parts.proofs.Common.{◌≡◌, ◌∙◌, refl, ap, sym, arith, ℕ, zero, suc, pos, ◌+◌, ◌<◌, Bool, true, false, not, nat_eq, List, [], ◌∷◌, ◌++◌, map, filter, length, slice_index_or, unwrap_or, append-nil, length-map, map-append, take, take_more, slice_get, get_or_from_slice_get, filter-append, nat_tests, list_any, list_any-append, flat_map, range_with_len, All, All-map, All-filter, IsSome, Option, None, Some, Result, Ok, Err, AreDistinct, Text, LabelValue, int, Label, Cell, Na, datum, label_datum, cell_label, label_of, FaultValue, then_value, Frame, IsSettled, IsWhole, NumberedTable, Table, table_value, heading_value, headings_value, cells_value, column_labels, same_heading, same_label, try_all, place_of_label, limited, headings_part, MakesBy, OpFault, Refused, NoMemory, Store, IsSettledWorld, world, FormsFor, longer_self}, std.specs.Prelude.{is_some}, frame_store.specs.tables.Cost.{free}, indexmap.specs.IndexSet.{insert_key}, meaning_method.specs.{form.Select.{found, places_of_label, first_columns, places_besides, columns_frame}, pick.{Faults.{PickFault, then_pick}, Rows.{rows_where, are_some}, Labels.{unless_none, rows_of_keys}, Leading.{leads}, Keys.{Pick, each_key, one_key, key_pick, listed_pick}}, select.Keys.{label_columns, found_labels, found_pick}, Rows.{labels_in, drop_result}, tables.Value.{Given}}, frame_select.{specs.{Headings.{same_heading as same_numbers}, Selected.{heading_of, as_it_is, places_named}, Reaches.{pick_value}}, proofs.{HeadingLaws.{heading_decides, heading_seen, heading_settled, same_seen, head_settled, rest_settled, label_seen, key_more}, PickedLaws.{places_inside, one_more_place}}}, frame_labels.{specs.Named.{FindsPlaces, columns_kept, some_label}, proofs.NamedLaws.{is_other, others_inside, others_meant}}}

-- a row before the first one isn't among those that pass a test, and another one is where it passes it
met_below : {X : Type 0} (p : X → Bool) (n place : ℕ) (xs : List X) → place < n → list_any (nat_eq place) (rows_where p n xs) ≡ false
met_below p n place [] lt = refl
met_below p n place (x ∷ xs) lt = grind (arith, nat_tests, met_below p (n + 1) place xs)

met_at : {X : Type 0} (p : X → Bool) (n k place : ℕ) (d : X) (xs : List X) → k < length xs → place ≡ n + k → list_any (nat_eq place) (rows_where p n xs) ≡ p (slice_index_or xs k d)
met_at p n k place d [] lt is = absurd (omega arith)
met_at p n zero place d (x ∷ xs) lt is = grind (arith, nat_tests, met_below p (n + 1) place xs)
met_at p n (suc k) place d (x ∷ xs) lt is = grind (arith, nat_tests, met_at p (n + 1) k place d xs)

-- a column is one of those of some labels where it has one of them
met_any : (hs : List (Option LabelValue)) (place : ℕ) (ls : List LabelValue) → place < length hs
    → list_any (nat_eq place) (flat_map (places_of_label hs) ls) ≡ list_any (λ l. same_heading (Some l) (slice_index_or hs place None)) ls
met_any hs place [] lt = refl
met_any hs place (l ∷ ls) lt = grind (arith, list_any-append, met_at (same_heading (Some l)) 0 place place None hs, met_any hs place ls)

-- tests that agree on a list keep the same of it
filter_on : (p q : ℕ → Bool) (xs : List ℕ) → All (λ x. p x ≡ q x) xs → filter p xs ≡ filter q xs
filter_on p q [] same = refl
filter_on p q (x ∷ xs) same = grind (arith, same 0 x (omega arith), filter_on p q xs (λ k d lt. same (suc k) d (omega arith)))

-- the columns of a label, by the labels as those of rows
headings_meet : (l : LabelValue) (n : ℕ) (hs : List (Option LabelValue)) → All IsSome hs → rows_where (leads same_label (l ∷ [])) n (map (λ h. unwrap_or h (int (pos 0)) ∷ []) hs) ≡ rows_where (same_heading (Some l)) n hs
headings_meet l n [] some = refl
headings_meet l n (h ∷ hs) some = grind (arith, headings_meet l (n + 1) hs (λ k d lt. some (suc k) d (omega arith)), some 0 h (omega arith))

place_there : (l : LabelValue) (n : ℕ) (hs : List (Option LabelValue)) → is_some (place_of_label hs l) ≡ are_some (rows_where (same_heading (Some l)) n hs)
place_there l n [] = refl
place_there l n (h ∷ hs) = grind (arith, place_there l (n + 1) hs)

-- one label more
one_more_listed : (l : LabelValue) (rows flat : List ℕ) (place : Option ℕ) (rest : Result (List ℕ) (PickFault (List LabelValue))) (firsts : Result (List ℕ) FaultValue) → is_some place ≡ are_some rows → found_pick rest ≡ then_value firsts (λ places. Ok flat)
    → found_pick (then_pick (unless_none (l ∷ []) rows) (λ rows. then_pick rest (λ more. Ok (rows ++ more)))) ≡ then_value (then_value (found l place) (λ y. then_value firsts (λ ys. Ok (y ∷ ys)))) (λ places. Ok (rows ++ flat))
one_more_listed l [] flat None rest firsts same is = refl
one_more_listed l [] flat (Some place) rest firsts same is = cc
one_more_listed l (row ∷ rows) flat None rest firsts same is = cc
one_more_listed l (row ∷ rows) flat (Some place) (Ok more) (Ok ys) same is = grind arith
one_more_listed l (row ∷ rows) flat (Some place) (Ok more) (Err why) same is = cc
one_more_listed l (row ∷ rows) flat (Some place) (Err why) (Ok ys) same is = cc
one_more_listed l (row ∷ rows) flat (Some place) (Err why) (Err other) same is = grind arith

listed_rows : (hs : List (Option LabelValue)) (ls : List LabelValue) → All IsSome hs
    → found_pick (rows_of_keys (leads same_label) (map (λ h. unwrap_or h (int (pos 0)) ∷ []) hs) (map (λ l. l ∷ []) ls)) ≡ then_value (try_all (λ l. found l (place_of_label hs l)) ls) (λ places. Ok (flat_map (places_of_label hs) ls))
listed_rows hs [] some = refl
listed_rows hs (l ∷ ls) some =
    rw (headings_meet l 0 hs some) (one_more_listed l (places_of_label hs l) (flat_map (places_of_label hs) ls) (place_of_label hs l) _ (try_all (λ l. found l (place_of_label hs l)) ls) (place_there l 0 hs) (listed_rows hs ls some))

-- what a list of keys picks, or one of them
pick_rows : (rest : Result (List ℕ) (PickFault (List LabelValue))) → then_value (found_pick (then_pick rest (λ rows. Ok (listed_pick rows)))) (λ p. Ok p.rows) ≡ found_pick rest
pick_rows (Ok rows) = refl
pick_rows (Err why) = refl

-- the columns of a list of labels: none of these is absent
listed_columns : (t : Table) (ls : List LabelValue) → All IsSome t.headings → label_columns t (each_key (map (λ l. l ∷ []) ls)) ≡ then_value (first_columns t ls) (λ places. Ok (flat_map (places_of_label t.headings) ls))
listed_columns t ls some = pick_rows _ ∙ listed_rows t.headings ls some

-- those of one label
one_row : (rows : Result (List ℕ) (PickFault (List LabelValue))) (key : List LabelValue) → then_value (found_pick (then_pick rows (λ rows. Ok (key_pick 1 key rows)))) (λ p. Ok p.rows)
    ≡ then_value (found_pick (then_pick (then_pick rows (λ rows. then_pick (Ok []) (λ more. Ok (rows ++ more)))) (λ rows. Ok (listed_pick rows)))) (λ p. Ok p.rows)
one_row (Ok rows) key = grind (arith, append-nil)
one_row (Err why) key = refl

one_listed : (t : Table) (key : List LabelValue) → label_columns t (one_key key) ≡ label_columns t (each_key (key ∷ []))
one_listed t key = one_row _ key

-- the columns that stay
kept_is : (t : Table) (ls : List LabelValue) (places : List ℕ) → All IsSome t.headings → first_columns t ls ≡ Ok places → columns_kept t ls ≡ Ok (places_besides t (flat_map (places_of_label t.headings) ls))
kept_is t ls places some first = grind (arith, listed_columns t ls some)

kept_refused : (t : Table) (ls : List LabelValue) (why : FaultValue) → All IsSome t.headings → first_columns t ls ≡ Err why → columns_kept t ls ≡ Err why
kept_refused t ls why some first = grind (arith, listed_columns t ls some)

then_twice : {A B C : Type 0} (r : Result A FaultValue) (f : A → B) (go : B → Result C FaultValue) → then_value r (λ a. go (f a)) ≡ then_value (then_value r (λ a. Ok (f a))) go
then_twice (Ok a) f go = refl
then_twice (Err why) f go = refl

pub drop_kept : (t : Table) (g : Given) → drop_result t g ≡ then_value (columns_kept t (labels_in g)) (λ kept. limited (columns_frame t kept))
drop_kept t g = then_twice (label_columns t (each_key (map (λ l. l ∷ []) (labels_in g)))) (places_besides t) (λ kept. limited (columns_frame t kept))

pub drop_refused : (store : Store) (texts : List Text) (t : Table) (g : Given) (why : OpFault) → MakesBy as_it_is texts (Err why) (columns_kept t (labels_in g)) → IsSettledWorld (world store texts)
    → FormsFor free (Err why) (drop_result t g) (world store texts) (world store texts)
drop_refused store texts t g (Refused code) refused settled = (
  ((drop_kept t g ∙ ap (λ r. then_value r (λ kept. limited (columns_frame t kept))) refused.0, refused.1), refl),
  longer_self texts,
  settled,
  record { cells = omega arith; blocks = λ id there still apart. refl },
)
drop_refused store texts t g NoMemory refused settled = (refl, longer_self texts, settled, record { cells = omega arith; blocks = λ id there still apart. refl })

-- the same by the numbers of texts
turned : (a b : Option Label) → same_numbers a b ≡ same_numbers b a
turned a b = grind (arith, heading_decides)

module _ (texts : List Text) (distinct : AreDistinct texts) (h : Option Label) (headed : IsSettled heading_value texts h) where
  label_same : (c : Cell) → IsSettled datum texts c → same_numbers h (some_label c) ≡ same_heading (Some (cell_label (datum texts c))) (heading_value texts h)
  label_same c given =
      let here : IsSettled heading_value texts (some_label c) = λ more. cc (label_seen (texts ++ more) c, label_seen texts c, given more) in
      turned h (some_label c) ∙ same_seen texts (some_label c) h distinct here headed ∙ ap (λ l. same_heading (Some l) (heading_value texts h)) (label_seen texts c)

  labels_same : (cells : List Cell) → IsSettled cells_value texts cells → list_any (same_numbers h) (map some_label cells) ≡ list_any (λ l. same_heading (Some l) (heading_value texts h)) (map cell_label (cells_value texts cells))
  labels_same [] given = refl
  labels_same (c ∷ cs) given = cc (label_same c (head_settled datum texts c cs given), labels_same cs (rest_settled datum texts c cs given))

-- one label more, and one column more
pub one_more_label : (cells : List Cell) (k : ℕ) (c : Cell) (l : Label) (keys keys' : List (Option Label)) (h : Option Label) → k < length cells → slice_get cells k ≡ Some c → l ≡ label_of c → keys' ≡ insert_key same_numbers keys (Some l)
    → list_any (same_numbers h) keys ≡ list_any (same_numbers h) (map some_label (take k cells)) → list_any (same_numbers h) keys' ≡ list_any (same_numbers h) (map some_label (take (k + 1) cells))
one_more_label cells k c l keys keys' h lt at is more before =
    grind (arith, key_more, map-append, list_any-append, take_more cells k Na lt, get_or_from_slice_get cells k c Na at)

module _ (there : ℕ → Bool) (place : ℕ) (b : Bool) (kept kept' : List ℕ) (is : b ≡ there place) (before : kept ≡ filter (λ place. not (there place)) (range_with_len 0 place)) where
  pub column_passed : b ≡ true → kept ≡ filter (λ place. not (there place)) (range_with_len 0 (place + 1))
  column_passed = grind (arith, one_more_place, filter-append, append-nil)

  pub column_kept : b ≡ false → kept' ≡ kept ++ place ∷ [] → kept' ≡ filter (λ place. not (there place)) (range_with_len 0 (place + 1))
  column_kept = grind (arith, one_more_place, filter-append)

labels_of_columns : (texts : List Text) (t : NumberedTable) → IsWhole t → t.shape ≡ Frame → All IsSome (headings_value texts t.headings)
labels_of_columns texts t whole frame = All-map IsSome (heading_value texts) t.headings (λ k d lt. there _ (whole.headings.labelled frame k d lt))
  where
    there : (h : Option Label) → IsSome h → IsSome (heading_value texts h)
    there = grind arith

module _ (texts : List Text) (t : NumberedTable) (whole : IsWhole t) (frame : t.shape ≡ Frame) where
  abbrev T : Table
  T = table_value texts t

  -- the labels of a list
  module _ (cells : List Cell) (labels : List LabelValue) (are : labels ≡ map cell_label (cells_value texts cells)) where
    pub labels_refused : (why : OpFault) → MakesBy places_named texts (Err why) (first_columns T labels) → FindsPlaces texts t (Err why) (columns_kept T labels)
    labels_refused (Refused code) refused = ((kept_refused T labels _ (labels_of_columns texts t whole frame) refused.0, refused.1), tt)
    labels_refused NoMemory refused = (tt, tt)

    module _ (keys : List (Option Label)) (kept : List ℕ) (distinct : AreDistinct texts) (settled : IsSettled table_value texts t) (given : IsSettled cells_value texts cells)
        (set : (h : Option Label) → list_any (same_numbers h) keys ≡ list_any (same_numbers h) (map some_label cells))
        (besides : kept ≡ filter (λ place. not (list_any (same_numbers (heading_of t place)) keys)) (range_with_len 0 (length t.columns))) where
      at_place : (place : ℕ) → place < length t.columns → list_any (same_numbers (heading_of t place)) keys ≡ list_any (nat_eq place) (flat_map (places_of_label T.headings) labels)
      at_place place lt =
          let here : IsSettled heading_value texts (heading_of t place) = heading_settled texts t.headings place (heading_of t place) refl (headings_part texts t settled) in
          let inside : place < length T.headings = grind (arith, length-map, whole.headed) in
          set (heading_of t place) ∙ labels_same texts distinct (heading_of t place) here cells given
          ∙ ap (λ h. list_any (λ l. same_heading (Some l) h) (map cell_label (cells_value texts cells))) (sym (heading_seen texts t.headings place))
          ∙ ap (λ ls. list_any (λ l. same_heading (Some l) (slice_index_or T.headings place None)) ls) (sym are)
          ∙ sym (met_any T.headings place labels inside)

      kept_meant : kept ≡ places_besides T (flat_map (places_of_label T.headings) labels)
      kept_meant =
          let all : All (λ place. place < length t.columns) (range_with_len 0 (length t.columns)) = places_inside _ _ _ refl refl in
          besides ∙ filter_on _ (is_other (flat_map (places_of_label T.headings) labels)) _ (λ k d lt. ap not (at_place _ (all k d lt)))
          ∙ others_meant texts t _ _ (length t.columns) refl refl

      pub labels_kept : (places : List ℕ) → first_columns T labels ≡ Ok places → FindsPlaces texts t (Ok kept) (columns_kept T labels)
      labels_kept places first = (
        kept_is T labels places (labels_of_columns texts t whole frame) first ∙ ap (λ ps. Ok ps) (sym kept_meant),
        rw besides (All-filter _ (λ place. place < length t.columns) _ (places_inside _ _ _ refl refl)),
      )

  -- one label
  module _ (l : LabelValue) (label : Label) (same : label_datum texts label ≡ l) where
    pub label_refused : (why : OpFault) → MakesBy pick_value texts (Err why) (found_labels 1 (column_labels T) (one_key (label_datum texts label ∷ []))) → FindsPlaces texts t (Err why) (columns_kept T (l ∷ []))
    label_refused (Refused code) refused = (grind (arith, one_listed T (l ∷ [])), tt)
    label_refused NoMemory refused = (tt, tt)

    pub label_kept : (pick : Pick) (kept : List ℕ) (count : ℕ) → found_labels 1 (column_labels T) (one_key (label_datum texts label ∷ [])) ≡ Ok pick → kept ≡ filter (is_other pick.rows) (range_with_len 0 count) → count ≡ length t.columns
        → FindsPlaces texts t (Ok kept) (columns_kept T (l ∷ []))
    label_kept pick kept count found besides counted = (
      grind (arith, one_listed T (l ∷ []), others_meant texts t pick.rows kept count besides counted),
      others_inside pick.rows kept count (length t.columns) besides counted,
    )
