-- The arguments of `merge`, the columns of two frames whose cells are the keys, and the labels of all columns beside one another.
use Rattle.{
  frame_parts.proofs.Common.{take_all, drop_more, get_or_default, map-append, take_more, length-map, list_any_at, list_any_none, list_any-append, same_Some, get_or_from_slice_get, slice_get_within, and_parts, nat_tests, rules, ◌≡◌, ◌+◌, ◌<◌, ◌≤◌, sym, ℕ, true, false, nat_eq, List, length, slice_get, slice_index_or, Some, arith, refl, Bool, ◌||◌, [], ◌∷◌, ◌++◌, map, take, Option, if◌then◌else◌, ◌∙◌, ap, zero, suc, ◌&&◌, filter, drop, None, Result, Ok, Err, nat_lt, get_or-map, position_or_len, list_any, range_with_len, codes, filter_map, IfSome, IsKnownTable, World, AreKnownArguments, headings_value, cells_value, Makes, table_column, Named, OpFault, ObjId, object_value, Tables, settled_later, seen_later, headings_part, Label, Cell, Kind, Frame, AreDistinct, IsLonger, Text, LabelValue, datum, label_datum, CellValue, cell_label, FaultValue, bad_value, limit, then_value, IsSettled, NumberedTable, Table, table_value, heading_value, column_at, Entry, cell, Given, GivenList, one, no_given, more_given, object_in, kind_itself, heading_at, cells_of, try_all, same_kind, on, CellColumn, MakesBy, All, All-filter, filter-append, distinct, distinct_map, IsWhole, unless_repeated, heading_label, Refused, NoMemory},
  column_core.{proofs.cells.Common.{position_or_len_is, ⊎_elim, option_map, append-nil, IsEquivalence}, specs.cells.Fault.{key_kinds}},
  std.{proofs.lemmas.List.{append_assoc, Elements.{All-from_get_or}}, specs.Cmp.Lexicographic.{options_equiv}},
  cell_core.specs.contracts.cell.LabelEq.TheImpl.Laws.{laws-law},
  multi_index.proofs.{DistinctLaws.{distinct_push, distinct_has, all_distinct}, LevelLaws.{maps_alike}},
  frame_parts.{proofs.align.SeenLaws.{filter_map as images_filtered}, specs.form.Select.{first_columns, label_of_several}},
  frame_store.proofs.tables.KindLaws.{kind_is},
  frame_labels.{specs.{method.{Merge.{is_key, MergeKeys, suffixed_heading, right_places, kinds_at, are_same_kinds, merged_rows, how_named, validate_in, merge_result, keys_named, keys_under, keys_on, keys_of_merge, checked_keys, common_labels, common_headings as texts_common}, Rows.{all_places, places_besides}, Levels.{label_cell}}, LevelColumns.{cell_of}}, proofs.IndexingLaws.{headings_seen, headings_settled}},
  indexmap.specs.IndexSet.{insert_key},
  meaning_call.specs.{declared.{Method.TheVariants.{Other}, OtherMethod.TheVariants.{Merge}, Parameter.{Parameter}}, Signature.{parameters_of, needed, optional}, Binding.{each, is_scalar, count_of, takes, text_in}},
  frame_select.{specs.{Headings.{same_heading, NamesRepeated}, Selected.{heading_of, headings_at}, declared.labels.Named.{Named as NamedColumns}}, proofs.{HeadingLaws.{heading_decides, same_seen, head_settled, rest_settled, repeated_settled}, PlaceLaws.{heading_seen, heading_settled}, AnswerLaws.{column_seen}, PickedLaws.{list_is}}},
  frame_merge.specs.{Headings.{AreAmong, label_beside, merged_headings}, declared.keys.MergeKeys.{MergeKeys as NumberedKeys}, Keys.{keys_value, cell_labels, common_headings, keys_told, keys_checked, kinds_of, AreAlike, keys_seen, labels_on}, Calls.{IsMergeCall}},
  frame_store.specs.tables.Value.{nothing},
  meaning_join.specs.declared.{How.{How}, Validate.{Validate}},
  frame_signatures.{specs.{Bound.{given_in, stands_at, IsBound}, declared.bound.Bound.{Bound as BoundArguments}}, proofs.RuleLaws.{filled}},
}
use Rattle.frame_parts.specs.form.Finish as finish
use Rattle.meaning_call.specs.declared.ParameterName.TheVariants as name
use Rattle.meaning_call.specs.declared.Accepted.TheVariants as accepted
use Rattle.meaning_call.specs.declared.Omitted.TheVariants as omitted

abbrev Headings : Type 0
Headings = List (Option Label)

abbrev refused : {X : Type 0} → OpFault → Result X OpFault
refused fault = Err fault

module _ (keys : List ℕ) (column place there : ℕ) (lt : place < length keys) (at : slice_get keys place ≡ Some there) where
  here : column ≡ there → nat_eq column (slice_index_or keys place 0) ≡ true
  here = grind (arith, nat_tests, get_or_from_slice_get)

  pub key_met : column ≡ there → true ≡ is_key keys column
  key_met same = sym (list_any_at _ _ _ 0 lt (here same))

  pub key_place : column ≡ there → ((k : ℕ) → k < place → nat_eq column (slice_index_or keys k 0) ≡ false) → position_or_len (nat_eq column) keys ≡ place
  key_place = grind (arith, position_or_len_is, nat_eq, here)

  pub key_passed : (column ≡ there → ⊥) → ((k : ℕ) → k < place → nat_eq column (slice_index_or keys k 0) ≡ false) → (k : ℕ) → k < place + 1 → nat_eq column (slice_index_or keys k 0) ≡ false
  key_passed = grind (arith, nat_eq, get_or_from_slice_get, nat_tests)

pub no_key : (keys : List ℕ) (column place : ℕ) → length keys ≤ place → ((k : ℕ) → k < place → nat_eq column (slice_index_or keys k 0) ≡ false) → false ≡ is_key keys column
no_key = search (rules, list_any_none, nat_eq, get_or_default)

-- one heading more in a set
among : (q h : Option Label) (keys : Headings) → list_any (same_heading h) keys ≡ true → same_heading q h ≡ true → list_any (same_heading q) keys ≡ true
among = grind (arith, heading_decides)

set_more : (q h : Option Label) (keys : Headings) → list_any (same_heading q) (insert_key same_heading keys h) ≡ (list_any (same_heading q) keys || (same_heading q h || false))
set_more = grind (arith, among, list_any-append)

pub one_more_among : (t : NumberedTable) (places : List ℕ) (k place : ℕ) (h : Option Label) (keys keys' : Headings) → slice_get places k ≡ Some place → h ≡ heading_of t place → keys' ≡ insert_key same_heading keys h
    → AreAmong keys (headings_at t (take k places)) → AreAmong keys' (headings_at t (take (k + 1) places))
one_more_among t places k place h keys _ at is put before = λ q.
    let here : h ≡ heading_of t (slice_index_or places k 0) = grind (arith, get_or_from_slice_get) in
    rw (put, set_more q h keys, before q, here, take_more places k 0 (slice_get_within places k place at), map-append, list_any-append)

-- whether one of some headings is equal, by numbers and by texts
any_seen : (texts : List Text) (h : Option Label) (hs : Headings) → AreDistinct texts → IsSettled heading_value texts h → IsSettled headings_value texts hs
    → list_any (same_heading h) hs ≡ list_any (finish.same_heading (heading_value texts h)) (headings_value texts hs)
any_seen _ h [] _ _ _ = refl
any_seen _ h (g ∷ gs) distinct here settled =
    λ j. same_seen _ h g distinct here (head_settled heading_value _ g gs settled) j || any_seen _ h gs distinct here (rest_settled heading_value _ g _ settled) j

module _ (texts : List Text) (distinct : AreDistinct texts) (t other : NumberedTable) (here : IsSettled table_value texts t) (there : IsSettled table_value texts other) (places : List ℕ) (set : Headings) (set_is : AreAmong set (headings_at other places)) where
  abbrev T : Table
  T = table_value texts t

  abbrev others : List (Option LabelValue)
  others = map (heading_at (table_value texts other)) places

  is_among : (h : Option Label) → IsSettled heading_value texts h → list_any (same_heading h) set ≡ list_any (finish.same_heading (heading_value texts h)) others
  is_among h settled = cc (set_is h, any_seen _ h _ distinct settled (headings_settled _ other _ (headings_part _ _ there)), headings_seen _ other _)

  among_at : (place : ℕ) → list_any (same_heading (heading_of t place)) set ≡ list_any (finish.same_heading (heading_at T place)) others
  among_at place = cc (is_among _ (heading_settled _ _ _ _ refl (headings_part _ t here)), heading_seen texts t.headings place)

  pub labels_are : (keys : List ℕ) (suffix : Text) (xs : List ℕ) → map (label_beside T t keys suffix set) xs ≡ map (λ place. if is_key keys place then heading_at T place else suffixed_heading suffix others (heading_at T place)) xs
  labels_are = grind (arith, among_at)

-- labels that are put together were given
pub labels_given : (mid new : List Text) (labels own whole : Headings) → IsLonger mid new → IsSettled headings_value mid labels → IsSettled headings_value new own → whole ≡ labels ++ own → IsSettled headings_value new whole
labels_given mid new labels _ _ longer given given' is = rw is (λ more. rw (map-append, map-append, settled_later headings_value mid new labels longer given more, given' more))

-- the labels of some columns, one more of them
module _ (first old new : List Text) (f : Table → ℕ → Option LabelValue) (t : NumberedTable) (places : List ℕ) (k place : ℕ) (h : Option Label) (labels labels' : Headings) (longer : IsLonger old new) (given : IsSettled headings_value old labels) (pushed : labels' ≡ labels ++ h ∷ []) where
  pub one_more_label : slice_get places k ≡ Some place → IsLonger first old → IsSettled table_value first t → heading_value new h ≡ f (table_value old t) place
      → headings_value old labels ≡ map (f (table_value first t)) (take k places) → headings_value new labels' ≡ map (f (table_value first t)) (take (k + 1) places)
  one_more_label at before settled = grind (arith, pushed, map-append, seen_later headings_value old new labels longer given, seen_later table_value first old t before settled, take_more places k 0 (slice_get_within places k place at), get_or_from_slice_get places k place 0 at)

-- the labels of both frames
module _ (texts mid new : List Text) (l r : NumberedTable) (keys : MergeKeys) (distinct : AreDistinct texts) (of_left : IsSettled table_value texts l) (of_right : IsSettled table_value texts r) where
  abbrev L : Table
  L = table_value texts l

  abbrev R : Table
  R = table_value texts r

  pub labels_meant : (lefts rights all none : List ℕ) (set set' labels own whole : Headings) → AreAmong set' (headings_at r rights) → AreAmong set (headings_at l lefts) → lefts ≡ places_besides L keys.left → rights ≡ right_places R keys → all ≡ all_places L
      → record { longer : IsLonger texts mid; given : IsSettled headings_value mid labels; labels : headings_value mid labels ≡ map (label_beside L l keys.left (codes "_x") set') all }
      → record { longer : IsLonger mid new; given : IsSettled headings_value new own; labels : headings_value new own ≡ map (label_beside (table_value mid r) r none (codes "_y") set) rights } → none ≡ [] → whole ≡ labels ++ own → headings_value new whole ≡ merged_headings L R keys
  labels_meant lefts rights all _ set set' labels _ _ of_r of_l lefts_are rights_are all_are first second none is =
      rw (
        is,
        map-append,
        seen_later headings_value mid new labels second.longer first.given,
        first.labels,
        second.labels,
        none,
        seen_later table_value texts mid r first.longer of_right,
        labels_are texts distinct l r of_left of_right rights set' of_r keys.left (codes "_x") all,
        labels_are texts distinct r l of_right of_left lefts set of_l [] (codes "_y") rights,
        lefts_are,
        rights_are,
        all_are,
      )

-- as many places as labels
pub all_count : {A B : Type 0} (f : A → Result B FaultValue) (xs : List A) (ys : List B) → try_all f xs ≡ Ok ys → length ys ≡ length xs
all_count f [] [] _ = refl
all_count f [] (y ∷ ys) is = cc
all_count f (x ∷ xs) _ is = grind (arith, all_count f xs)

-- a label as a cell
cell_is : (texts : List Text) (l : Label) → datum texts (cell_of l) ≡ label_cell (label_datum texts l)
cell_is = grind arith

-- the headings of all columns
all_headings : (t : NumberedTable) (places : List ℕ) (count : ℕ) → places ≡ range_with_len 0 count → count ≡ length t.headings → headings_at t places ≡ t.headings
all_headings t _ _ are is = ap (headings_at t) (are ∙ ap (range_with_len 0) is) ∙ list_is (λ place. slice_index_or t.headings place None) t.headings 0 None (λ k lt. grind arith)

-- a set of them has just the headings
pub all_among : (t : NumberedTable) (places : List ℕ) (count : ℕ) (set : Headings) → IsWhole t → places ≡ range_with_len 0 count → count ≡ length t.columns → AreAmong set (headings_at t places) → AreAmong set t.headings
all_among t places count set whole are is among = λ h. among h ∙ ap (list_any (same_heading h)) (all_headings t places count are (is ∙ sym whole.headed))

-- headings that both sides have, one more of them
abbrev pub is_common : Headings → Option Label → Bool
is_common others h = list_any (same_heading h) others

heading_laws : IsEquivalence same_heading
heading_laws = options_equiv laws-law

module _ (hs others keys : Headings) (place : ℕ) (h : Option Label) (lt : place < length hs) (is : h ≡ slice_index_or hs place None) (before : keys ≡ distinct same_heading (filter (is_common others) (take place hs))) where
  pub common_more : (keys' : Headings) → is_common others h ≡ true → keys' ≡ insert_key same_heading keys h → keys' ≡ distinct same_heading (filter (is_common others) (take (place + 1) hs))
  common_more _ there put = grind (arith, take_more hs place None lt, filter-append, distinct_push, distinct_has same_heading heading_laws, append-nil)

  pub common_passed : is_common others h ≡ false → keys ≡ distinct same_heading (filter (is_common others) (take (place + 1) hs))
  common_passed gone = grind (arith, take_more hs place None lt, filter-append, append-nil)

pub all_common : (hs others keys : Headings) (count : ℕ) → count ≡ length hs → keys ≡ distinct same_heading (filter (is_common others) (take count hs)) → keys ≡ distinct same_heading (filter (is_common others) hs)
all_common hs others keys count is are = are ∙ ap (λ (xs : Headings). distinct same_heading (filter (is_common others) xs)) (take_all count hs (omega (arith, is)))

-- with their texts
module _ (texts : List Text) (l r : NumberedTable) (distinct_texts : AreDistinct texts) (of_left : IsKnownTable texts l) (of_right : IsKnownTable texts r) where
  abbrev both : Headings
  both = filter (is_common r.headings) l.headings

  both_given : All (IsSettled heading_value texts) both
  both_given =
      let given = headings_part _ l of_left.given in
      All-filter _ (IsSettled heading_value texts) _ (All-from_get_or (IsSettled heading_value texts) l.headings None (λ k lt. heading_settled texts l.headings k _ refl given))

  pub common_seen : headings_value texts (common_headings l r) ≡ texts_common (table_value texts l) (table_value texts r)
  common_seen =
      let given = headings_part _ l of_left.given in
      let P = IsSettled heading_value texts in
      let all : All P l.headings = All-from_get_or P l.headings None (λ k lt. heading_settled texts l.headings k _ refl given) in
      let kept = images_filtered (heading_value texts) P (is_common r.headings) (λ h. list_any (finish.same_heading h) (headings_value texts r.headings))
      (λ h here. sym (any_seen texts h r.headings distinct_texts here (headings_part _ r of_right.given))) l.headings all in
      sym (ap (distinct finish.same_heading) kept ∙ distinct_map (heading_value texts) P same_heading finish.same_heading (λ x y f g. sym (same_seen texts x y distinct_texts f g)) both both_given)

  pub common_given : IsSettled headings_value texts (common_headings l r)
  common_given = λ more. maps_alike (IsSettled heading_value texts) _ _ (λ h here. here more) _ (all_distinct (IsSettled heading_value texts) same_heading both both_given)

-- the label of a heading as a cell
module _ (texts : List Text) (hs : Headings) (place : ℕ) (h : Option Label) (lt : place < length hs) (is : h ≡ slice_index_or hs place None) where
  abbrev rest : ℕ → List LabelValue
  rest n = filter_map (λ h. h) (headings_value texts (drop n hs))

  pub label_more : (l : Label) (cells cells' : List Cell) (whole : List LabelValue) → h ≡ Some l → cells' ≡ cells ++ cell_of l ∷ [] → cell_labels texts cells ++ rest place ≡ whole → cell_labels texts cells' ++ rest (place + 1) ≡ whole
  label_more l _ _ _ some pushed before = grind (arith, drop_more hs place None lt, map-append, append_assoc)

-- the cell of a label whose text was given
pub cell_given : (texts : List Text) (l : Label) (cells cells' : List Cell) → IsSettled heading_value texts (Some l) → cells' ≡ cells ++ cell_of l ∷ [] → IsSettled cells_value texts cells → IsSettled cells_value texts cells'
cell_given texts l _ _ here pushed given = rw pushed (λ more. rw (map-append, map-append, given more, cell_is _ l, cell_is _ l, same_Some (label_datum (texts ++ more) l) _ (here more)))

-- the columns that labels name on both sides, of which none may have several columns
module _ (texts : List Text) (l r : Table) (ls : List LabelValue) (left right : NamedColumns) (of_left : first_columns l ls ≡ Ok left.places) (of_right : first_columns r ls ≡ Ok right.places)
    (left_several : heading_value texts left.repeated ≡ label_of_several l ls) (right_several : heading_value texts right.repeated ≡ label_of_several r ls) where
  abbrev named : MergeKeys
  named = record { left = left.places; right = right.places }

  named_is : keys_named l r ls ≡ unless_repeated (heading_value texts left.repeated) (unless_repeated (heading_value texts right.repeated) (Ok named))
  named_is = cc (of_left, of_right, left_several, right_several)

  pub left_repeated : IsSettled heading_value texts left.repeated → (fault : OpFault) → NamesRepeated fault left.repeated → MakesBy keys_seen texts (refused {X = NumberedKeys} fault) (keys_named l r ls)
  left_repeated given (Refused code) (label, is, code_is) = (grind (arith, named_is), repeated_settled texts code label code_is (heading_label texts _ label is given))
  left_repeated given NoMemory _ = tt

  module _ (none : left.repeated ≡ None) where
    pub right_repeated : IsSettled heading_value texts right.repeated → (fault : OpFault) → NamesRepeated fault right.repeated → MakesBy keys_seen texts (refused {X = NumberedKeys} fault) (keys_named l r ls)
    right_repeated given (Refused code) (label, is, code_is) = (grind (arith, named_is), repeated_settled texts code label code_is (heading_label texts _ label is given))
    right_repeated given NoMemory _ = tt

    pub each_named : right.repeated ≡ None → keys_named l r ls ≡ Ok named
    each_named none_right = grind (arith, named_is)

-- kinds
kinds_seen : (texts : List Text) (t : NumberedTable) (places : List ℕ) → kinds_at (table_value texts t) places ≡ kinds_of t places
kinds_seen texts t places = λ i. map (λ place. (column_seen texts t.columns place i).kind) places

-- the kinds at a place
kinds_agree : (as' bs : List Kind) (k : ℕ) (d e : Kind) → are_same_kinds as' bs ≡ true → k < length as' → slice_index_or as' k d ≡ slice_index_or bs k e
kinds_agree (a ∷ as') (b ∷ bs) zero d e same _ = kind_is a b (and_parts _ _ same).0
kinds_agree (a ∷ as') (b ∷ bs) (suc k) d e same lt = kinds_agree as' bs k d e (and_parts _ _ same).1 (omega (arith, lt))
kinds_agree as' bs k d e same lt = grind arith

-- a key of the left side, and the one of the right that stands for it
kind_at : (t : NumberedTable) (places : List ℕ) (k place : ℕ) → slice_get places k ≡ Some place → slice_index_or (kinds_of t places) k (column_at t.columns 0).kind ≡ (column_at t.columns place).kind
kind_at t places k place here = cc (get_or-map (λ p. (column_at t.columns p).kind) places k 0, get_or_from_slice_get places k place 0 here)

pub kinds_of_key : (l r : NumberedTable) (keys : NumberedKeys) → AreAlike l r keys → (k place other : ℕ) (a b : CellColumn) → slice_get keys.left k ≡ Some place → slice_get keys.right k ≡ Some other → column_at l.columns place ≡ table_column a → column_at r.columns other ≡ table_column b
    → b.kind ≡ a.kind
kinds_of_key l r keys are k place other a b here there at_left at_right =
    let lt : k < length keys.left = search slice_get_within in
    let agree = kinds_agree (kinds_of l keys.left) _ k (column_at l.columns 0).kind (column_at r.columns 0).kind are.kinds (omega (arith, lt, length-map keys.left (λ p. (column_at l.columns p).kind))) in
    cc (kind_at l _ _ _ here, kind_at r _ _ _ there)

-- the kinds from a place on
module _ (l r : NumberedTable) (keys : NumberedKeys) (same : length keys.right ≡ length keys.left) (k place other : ℕ) (here : slice_get keys.left k ≡ Some place) (there : slice_get keys.right k ≡ Some other) (a b : Kind) (a_is : a ≡ (column_at l.columns place).kind) (b_is : b ≡ (column_at r.columns other).kind) where
  abbrev lefts : List Kind
  lefts = kinds_of l keys.left

  abbrev rights : List Kind
  rights = kinds_of r keys.right

  kinds_from : are_same_kinds (drop k lefts) (drop k rights) ≡ same_kind a b && are_same_kinds (drop (k + 1) lefts) (drop (k + 1) rights)
  kinds_from =
      let lt : k < length keys.left = search slice_get_within in
      let left_more = drop_more lefts k (column_at l.columns 0).kind (omega (arith, lt, length-map keys.left (λ p. (column_at l.columns p).kind))) in
      let right_more = drop_more rights k (column_at r.columns 0).kind (omega (arith, lt, same, length-map keys.right (λ p. (column_at r.columns p).kind))) in
      cc (left_more, right_more, kind_at l _ _ _ here, kind_at r _ _ _ there)

  pub same_on : a ≡ b → (whole : Bool) → are_same_kinds (drop k lefts) (drop k rights) ≡ whole → are_same_kinds (drop (k + 1) lefts) (drop (k + 1) rights) ≡ whole
  same_on is _ before = cc (kind_itself a, kinds_from)

  pub not_same : (a ≡ b → ⊥) → (whole : Bool) → are_same_kinds (drop k lefts) (drop k rights) ≡ whole → false ≡ whole
  not_same = grind (arith, kinds_from, kind_is)

pub checked_by : (texts : List Text) (l r : NumberedTable) (keys : NumberedKeys) (told : Option (List LabelValue)) (a b : Bool) → keys_told (table_value texts l) (table_value texts r) told ≡ Ok (keys_value keys) → are_same_kinds (kinds_of l keys.left) (kinds_of r keys.right) ≡ a → nat_lt 4 (length keys.left) ≡ b
    → keys_checked (table_value texts l) (table_value texts r) told ≡ (if a then (if b then Err limit else Ok (keys_value keys)) else Err (bad_value key_kinds))
checked_by texts l r keys _ a b is kinds count = cc (kinds_seen texts l keys.left, kinds_seen texts r keys.right)

-- the arguments of a call
pub is_call : (w : World) (ps : List Parameter) (args : List Named) (b : BoundArguments) → ps ≡ parameters_of (Other Merge) → AreKnownArguments w args → IsBound w ps args (Ok b) → IsMergeCall w b
is_call = grind (arith, filled, slice_get)

frame_taken : (g : Given) (t : Table) → takes (needed name.Right accepted.Frame) g ≡ true → Some t ≡ object_in g → t.shape ≡ Frame
frame_taken = grind arith

-- a label at least is named, if any
scalars_count : (parts : GivenList) → each is_scalar parts ≡ true → length (cells_of parts) ≡ count_of parts
scalars_count no_given _ = refl
scalars_count (more_given (one (cell c)) rest) all = ap suc (scalars_count rest all) ∙ omega arith
scalars_count _ all = cc

labels_taken : (g : Given) → takes (optional name.On accepted.SomeLabels omitted.None) g ≡ true → IfSome (labels_on g) (λ labels. 1 ≤ length labels)
labels_taken = grind (arith, nat_tests, and_parts, scalars_count, length-map)

pub labels_some : (w : World) (b : BoundArguments) → IsMergeCall w b → IfSome (labels_on (stands_at w.tables w.texts b 2)) (λ labels. 1 ≤ length labels)
labels_some = grind (arith, ⊎_elim, labels_taken)

-- cells whose labels are told
cells_back : (cs : List CellValue) → map label_cell (map cell_label cs) ≡ cs
cells_back [] = refl
cells_back (c ∷ cs) = grind (arith, cells_back cs)

abbrev pub AreTold : BoundArguments → Option (List Cell) → Type 0
AreTold b told = (live : Tables) (texts : List Text) → option_map (cell_labels texts) told ≡ labels_on (stands_at live texts b 2)

pub told_given : (w : World) (b : BoundArguments) (told : Option (List Cell)) → IsMergeCall w b → AreTold b told → IfSome told (IsSettled cells_value w.texts)
told_given w b None h _ = tt
told_given w b (Some cells) h tells = λ more.
    let same : cell_labels (w.texts ++ more) cells ≡ cell_labels w.texts cells =
    same_Some _ _ (cc (tells w.tables (w.texts ++ more), h.given more, tells w.tables w.texts)) in
    sym (cells_back _) ∙ ap (map _) same ∙ cells_back _

pub told_some : (w : World) (b : BoundArguments) (told : Option (List Cell)) → IsMergeCall w b → AreTold b told → IfSome told (λ cells. 1 ≤ length cells)
told_some w b None h _ = tt
told_some w b (Some cells) h tells =
    let some = rw (← tells w.tables w.texts) at (labels_some w b h) in
    omega (arith, some, length-map (cells_value w.texts cells) cell_label, length-map cells (datum w.texts))

-- the labels that `on` names, and what is read of the arguments
keys_on_is : (l r : Table) (g : Given) → keys_on l r g ≡ keys_told l r (labels_on g)
keys_on_is l r nothing = refl
keys_on_is l r _ = refl

abbrev answer_by : Table → Option Table → Option Text → Given → Option Text → Result Entry FaultValue
answer_by l right h labels once = on right (λ r. on h (λ t. then_value (keys_of_merge l r labels) (merged_rows l r (how_named t) (validate_in once))))

-- labels that both sides have, some at least
keys_under_some : (l r : Table) (ls : List LabelValue) → (length ls ≡ 0 → ⊥) → keys_under l r ls ≡ keys_named l r ls
keys_under_some l r [] some = absurd (some refl)
keys_under_some l r (x ∷ ls) some = refl

pub told_common : (texts : List Text) (l r : Table) (told : Option (List Cell)) (cells : List Cell) → told ≡ None → cell_labels texts cells ≡ common_labels l r → (length cells ≡ 0 → ⊥) → keys_told l r (option_map (cell_labels texts) told) ≡ keys_named l r (cell_labels texts cells)
told_common texts l r told cells none are some =
    ap (λ (t : Option (List Cell)). keys_told l r (option_map (cell_labels texts) t)) none
    ∙ keys_under_some l r (common_labels l r) (λ is. some (sym (length-map cells (datum texts)) ∙ sym (length-map (cells_value texts cells) cell_label) ∙ ap length are ∙ is))
    ∙ ap (keys_named l r) (sym are)

-- what is meant, by the tables that are read
module _ (w : World) (b : BoundArguments) (h : IsMergeCall w b) (on other : ObjId) (l r : NumberedTable) (left_at : w.tables on.0 ≡ Some l) (right_at : w.tables other.0 ≡ Some r) (right_is : (live : Tables) (texts : List Text) → Some (object_value live texts other) ≡ object_in (stands_at live texts b 0))
    (t : Text) (text_is : (live : Tables) → Some t ≡ text_in (stands_at live w.texts b 1)) (how : How) (how_is : how ≡ how_named t) (told : Option (List Cell)) (told_is : AreTold b told) where
  abbrev left_frame : Table
  left_frame = table_value w.texts l

  abbrev right_frame : Table
  right_frame = table_value w.texts r

  abbrev checked : Result MergeKeys FaultValue
  checked = keys_checked left_frame right_frame (option_map (cell_labels w.texts) told)

  abbrev meant : Result Entry FaultValue
  meant = merge_result (object_value w.tables w.texts on) (given_in w b)

  abbrev stands : ℕ → Given
  stands place = stands_at w.tables w.texts b place

  given_is : given_in w b ≡ stands 0 ∷ stands 1 ∷ stands 2 ∷ stands 3 ∷ []
  given_is = grind (arith, h.parameters)

  left_is : object_value w.tables w.texts on ≡ left_frame
  left_is = grind (arith, left_at)

  right_frame_is : object_in (stands 0) ≡ Some right_frame
  right_frame_is = grind (arith, right_at, right_is w.tables w.texts)

  read_is : (once : Validate) → once ≡ validate_in (text_in (stands_at w.tables w.texts b 3)) → meant ≡ then_value checked (merged_rows left_frame right_frame how once)
  read_is once is =
      ap (merge_result (object_value w.tables w.texts on)) given_is
      ∙ (λ i. answer_by (left_is i) (right_frame_is i) (sym (text_is w.tables) i) (stands 2) (text_in (stands 3)))
      ∙ (λ i. then_value (then_value (keys_on_is left_frame right_frame (stands 2) i) (checked_keys left_frame right_frame)) (merged_rows left_frame right_frame (sym how_is i) (sym is i)))
      ∙ ap (λ (told : Option (List LabelValue)). then_value (keys_checked left_frame right_frame told) (merged_rows left_frame right_frame how once)) (sym (told_is w.tables w.texts))

  pub keys_refused : (fault : OpFault) → MakesBy keys_seen w.texts (refused {X = NumberedKeys} fault) checked → Makes w.texts (Err fault) meant
  keys_refused = grind (arith, read_is _ refl)

  pub rows_answered : (once : Validate) → once ≡ validate_in (text_in (stands_at w.tables w.texts b 3)) → (keys : MergeKeys) → checked ≡ Ok keys → (new : List Text) (made : Result NumberedTable OpFault) → Makes new made (merged_rows left_frame right_frame how once keys) → Makes new made meant
  rows_answered once is _ found _ _ made = rw (read_is once is, found) made

pub right_shape : (w : World) (b : BoundArguments) → IsMergeCall w b → (other : ObjId) (r : NumberedTable) → w.tables other.0 ≡ Some r → Some (object_value w.tables w.texts other) ≡ object_in (stands_at w.tables w.texts b 0) → r.shape ≡ Frame
right_shape w b h other r at right = grind (arith, ⊎_elim, frame_taken)
