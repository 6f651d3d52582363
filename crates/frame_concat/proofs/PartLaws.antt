-- Parts: their headings, columns, names and rows, by numbers as with their texts, and the objects of a list as parts.
use Rattle.{frame_parts.proofs.Common.{sym, ◌≡◌, ◌<◌, ◌≤◌, ◌+◌, refl, ℕ, suc, Bool, true, false, List, [], ◌∷◌, length, take, slice_index_or, Option, None, arith, ◌++◌, ◌∙◌, ap, ◌&&◌, map, All, ◌-◌, subst, zero, fold, drop, slice_set, nat_eq, Some, replicate, Result, if◌then◌else◌, length-map, map-append, take_more_set, drop_more, length-append, All-cons, length-replicate, list_all-map, All-map, All-tail, All-push, All-same, map-range_with_len_more, length-range_with_len, AllPass-from_list_all, map-map, nat_tests, drop-cons, IsSome, IfSome, IfOk, list_all, list_any, position_or_len, range_with_len, flat_map, option_map, lookup, pointwise, Bor, Label, Frame, AreDistinct, tuple_value, ColumnOf, no_column, Cell, column_at, NumberedTable, column_value, heading_value, table_value, Table, IsSettled, AreHeadings, IsWhole, object_in, GivenList, headings_value, labels_value, IsKnownTable, item_of, items_of, AreLiveItems, IsLiveItem, distinct, Tables, Item, ObjId, axis_of, headings_part, columns_name_part, level_names_part, object_settled, Text, LabelValue, label_datum, common_name, HaveLevels, AxisValue, range_axis, nameless_axis, default_seen}, column_core.proofs.cells.Common.{drop_all, flat_map-map, fold-map, length-flat_map, position, position_from, append-nil, pointwise_decides, Vec}, std.{proofs.lemmas.{List.{append_assoc, Elements.{All-from_get_or, filter_agree}}, Iterator.Adapters.{position_from-zero}, Option.{slice_get-get_or, slice_get_past}}, specs.Option.{is_some}}, frame_select.proofs.{PlaceLaws.{heading_settled, heading_seen}, HeadingLaws.{heading_decides, same_seen, shared_seen, head_settled, rest_settled, position_inside}, AnswerLaws.{column_seen}, PickedLaws.{list_is}}, cell_core.specs.declared.memory.NoMemory.{NoMemory}, frame_select.specs.Headings.{shared_heading, HaveFirstPlaces}, frame_concat.{specs.{Parts.{same_heading, column_sought, parts_value, headings_of_each, repeated_in_any, AreKnownParts, name_at, have_same_levels, AreOf, AreSettledParts}, declared.parts.{Sought.{Sought, TheVariants.{At, Under}}, Naming.{Naming, TheVariants.{Columns, Level, Series}}}, Columns.{kind_sought, rows_in}, Axes.{names_of_levels, axis_seen, levels_with, levels_of, named_after}, Headings.{common_headings}, Asked.{keys_value, KeysFit}}, proofs.PlaceLaws.{map_given, united_seen, united_all, equal_seen as all_equal_seen, rest_of, flat_seen, each_of}}, meaning_method.specs.{Concat.{labels_of_tables, column_under, kind_under, kept_names, level_names_of_all, name_of_all, tables_from, tables_of, rows_below}, join.Concat.{united, are_equal, labels_under}}, frame_store.specs.Arguments.{IsLiveObject}, merge_concat.specs.Axes.{HaveLevelsOfFirst, levels_of_first, tuples_below, levels_below}}
use Rattle.frame_parts.specs.form.Finish as finish
use Rattle.meaning_method.specs.Concat as meant

-- a heading that has a place stands somewhere
stands_somewhere : {X : Type 0} (p : X → Bool) (n : ℕ) (xs : List X) → is_some (position_from p n xs) ≡ list_any p xs
stands_somewhere p n [] = refl
stands_somewhere p n (x ∷ xs) = grind (arith, stands_somewhere p (n + 1) xs)

-- one heading more, before the others: it stands again where it had a place
module _ (hs : List (Option Label)) (p : ℕ) (d h : Option Label) (entries : List (Option Label × ℕ)) (lt : p < length hs) (is : h ≡ slice_index_or hs p d) (first : HaveFirstPlaces entries (p + 1) (drop (p + 1) hs)) where
  again : list_any (same_heading h) (drop (p + 1) hs) ≡ is_some (lookup (same_heading h) entries)
  again = sym (ap is_some (first h) ∙ stands_somewhere (same_heading h) (p + 1) (drop (p + 1) hs))

  pub shared_more : is_some (lookup (same_heading h) entries) ≡ true → h ≡ shared_heading (drop p hs) []
  shared_more there = grind (arith, drop_more hs p d lt, again, append-nil)

  pub shared_same : is_some (lookup (same_heading h) entries) ≡ false → shared_heading (drop (p + 1) hs) [] ≡ shared_heading (drop p hs) []
  shared_same gone = grind (arith, drop_more hs p d lt, again, append-nil)

-- a heading stands in a part where it has a first place
pub has_heading : (entries : List (Option Label × ℕ)) (hs : List (Option Label)) (h : Option Label) → HaveFirstPlaces entries 0 hs → is_some (lookup (same_heading h) entries) ≡ list_any (same_heading h) hs
has_heading entries hs h first = ap is_some (first h) ∙ stands_somewhere (same_heading h) 0 hs

pub place_inside : (entries : List (Option Label × ℕ)) (hs : List (Option Label)) (h : Option Label) (place count : ℕ) → HaveFirstPlaces entries 0 hs → length hs ≡ count → Some place ≡ lookup (same_heading h) entries → place < count
place_inside entries hs h place count first counted there =
    let inside : place < 0 + length hs = position_inside (same_heading h) 0 hs place (sym (first h) ∙ sym there) in
    omega (arith, inside, counted)

-- the parts with their texts, which were given
pub parts_settled : (texts : List Text) (parts : List NumberedTable) → AreKnownParts texts parts → IsSettled parts_value texts parts
parts_settled texts parts known = λ more. map_given (IsKnownTable texts) _ _ (λ t here. here.given more) parts known

module _ (texts : List Text) where
  -- each heading of parts whose texts were given
  headings_each : (parts : List NumberedTable) → AreKnownParts texts parts → All (All (IsSettled heading_value texts)) (headings_of_each parts)
  headings_each parts known = All-map (All (IsSettled heading_value texts)) _ _ (λ k d lt. All-from_get_or (IsSettled heading_value texts) _ None (λ j within. heading_settled _ _ j _ refl (headings_part _ (slice_index_or parts k d) (known k d lt).given)))

  each_seen : (parts : List NumberedTable) → headings_of_each (parts_value texts parts) ≡ map (map (heading_value texts)) (headings_of_each parts)
  each_seen parts = simp map-map

  -- the headings of all parts, and that their texts were given
  pub headings_united : (inner : Bool) (parts : List NumberedTable) → AreDistinct texts → AreKnownParts texts parts
      → headings_value texts (united same_heading inner (headings_of_each parts)) ≡ united finish.same_heading inner (headings_of_each (parts_value texts parts))
  headings_united inner parts distinct known = rw (each_seen parts) (sym (united_seen _ _ _ _ (λ x y f g. sym (same_seen _ x y distinct f g)) _ _ (headings_each _ known)))

  -- whether all have the headings of the first, and the first one that a part repeats
  pub same_headings_seen : (parts : List NumberedTable) → AreDistinct texts → AreKnownParts texts parts → are_equal finish.same_heading (headings_of_each (parts_value texts parts)) ≡ are_equal same_heading (headings_of_each parts)
  same_headings_seen parts distinct known = rw (each_seen parts) (all_equal_seen _ _ _ _ (λ x y f g. sym (same_seen _ x y distinct f g)) _ (headings_each _ known))

  pub repeated_seen : (parts : List NumberedTable) → AreDistinct texts → AreKnownParts texts parts → meant.repeated_in_any (parts_value texts parts) ≡ heading_value texts (repeated_in_any parts)
  repeated_seen [] _ _ = refl
  repeated_seen (t ∷ ts) distinct known =
      let given = headings_part _ t (known 0 t (omega arith)).given in
      let own = shared_seen texts t.headings [] distinct given (λ more. refl) in
      let others = repeated_seen ts distinct (All-tail (IsKnownTable texts) t ts known) in
      grind (arith, own, others)

  shared_given : (hs : List (Option Label)) → IsSettled headings_value texts hs → IsSettled heading_value texts (shared_heading hs [])
  shared_given [] _ = λ more. refl
  shared_given (h ∷ hs) settled = λ more. grind (arith, head_settled heading_value texts h hs settled more, shared_given hs (rest_settled heading_value texts h hs settled) more)

  pub repeated_given : (parts : List NumberedTable) → AreKnownParts texts parts → IsSettled heading_value texts (repeated_in_any parts)
  repeated_given [] _ = λ more. refl
  repeated_given (t ∷ ts) known = λ more.
      grind (arith, shared_given t.headings (headings_part _ t (known 0 t (omega arith)).given) more, repeated_given ts (All-tail (IsKnownTable texts) t ts known) more)

  pub united_given : (inner : Bool) (parts : List NumberedTable) → AreKnownParts texts parts → IsSettled headings_value texts (united same_heading inner (headings_of_each parts))
  united_given _ _ known = λ more. map_given (IsSettled heading_value texts) _ _ (λ h here. here more) _ (united_all (IsSettled heading_value texts) _ _ _ (headings_each _ known))

  -- the column of a heading in a part
  module _ (distinct : AreDistinct texts) (h : Option Label) (here : IsSettled heading_value texts h) where
    place_seen : (hs : List (Option Label)) → IsSettled headings_value texts hs → position_or_len (finish.same_heading (heading_value texts h)) (headings_value texts hs) ≡ position_or_len (same_heading h) hs
    place_seen [] _ = refl
    place_seen (g ∷ gs) settled =
        grind (arith, same_seen _ h g distinct here (head_settled heading_value _ g gs settled), place_seen gs (rest_settled heading_value _ g _ settled))

    position_seen : (hs : List (Option Label)) → IsSettled headings_value texts hs → position (finish.same_heading (heading_value texts h)) (headings_value texts hs) ≡ position (same_heading h) hs
    position_seen = search (place_seen, length-map)

    pub column_under_seen : (t : NumberedTable) → IsKnownTable texts t → column_under (heading_value texts h) (table_value texts t) ≡ option_map (column_value texts) (column_sought (Under h) t)
    column_under_seen t known =
        grind (arith, position_seen t.headings (headings_part _ t known.given), column_seen texts t.columns)

    pub kind_under_seen : (parts : List NumberedTable) → AreKnownParts texts parts → kind_under (heading_value texts h) (parts_value texts parts) ≡ kind_sought (Under h) parts
    kind_under_seen [] _ = refl
    kind_under_seen (t ∷ ts) known =
        grind (arith, column_under_seen t (known 0 t (omega arith)), kind_under_seen ts (All-tail (IsKnownTable texts) t _ known))

-- the column of a part that is sought by its heading's place
pub column_told : (t view : NumberedTable) (sought : Sought) (h : Option Label) (entries : List (Option Label × ℕ)) (place : Option ℕ) → sought ≡ Under h → t ≡ view → HaveFirstPlaces entries 0 t.headings → place ≡ lookup (same_heading h) entries
    → option_map (column_at t.columns) place ≡ column_sought sought view
column_told t _ _ h _ _ is same first at = grind (arith, is, same, at, first h, position_from-zero (same_heading h) t.headings)

-- whether the others have the headings of the first
module _ (parts : List NumberedTable) (t : NumberedTable) (some : 1 ≤ length parts) (at : t ≡ slice_index_or parts 0 t) where
  abbrev others : List NumberedTable
  others = take (length parts - 1) (drop 1 parts)

  abbrev pub alike : NumberedTable → Bool
  alike u = pointwise same_heading t.headings u.headings

  equal_by : are_equal same_heading (headings_of_each parts) ≡ list_all alike others
  equal_by = go parts some at ∙ ap (list_all alike) (sym (rest_of parts))
    where
      go : (parts : List NumberedTable) → 1 ≤ length parts → t ≡ slice_index_or parts 0 t → are_equal same_heading (headings_of_each parts) ≡ list_all alike (drop 1 parts)
      go [] some at = grind arith
      go (s ∷ ss) some at = list_all-map (pointwise same_heading s.headings) (λ (u : NumberedTable). u.headings) ss ∙ (λ i. list_all (λ u. pointwise same_heading (sym at i).headings u.headings) ss)

  pub unequal_at : (k : ℕ) (other : NumberedTable) → k < length others → other ≡ slice_index_or others k other → list_all alike (drop k others) ≡ list_all alike others → alike other ≡ false → false ≡ are_equal same_heading (headings_of_each parts)
  unequal_at k other lt here before apart =
      let more : list_all alike (drop k others) ≡ alike (slice_index_or others k other) && list_all alike (drop (k + 1) others) = ap (list_all alike) (drop_more others k other lt) in
      let first : alike (slice_index_or others k other) ≡ false = ap alike (sym here) ∙ apart in
      sym (equal_by ∙ sym before ∙ more ∙ ap (λ b. b && list_all alike (drop (k + 1) others)) first)

  pub equal_all : (k : ℕ) → length others ≤ k → list_all alike (drop k others) ≡ list_all alike others → true ≡ are_equal same_heading (headings_of_each parts)
  equal_all k beyond before = sym (equal_by ∙ sym before ∙ ap (list_all alike) (drop_all k others beyond))

-- parts of equal headings have as many
pub equal_counts : (parts : List NumberedTable) (t : NumberedTable) → 0 < length parts → t ≡ slice_index_or parts 0 t → are_equal same_heading (headings_of_each parts) ≡ true → All (λ s. length s.headings ≡ length t.headings) parts
equal_counts [] t some at equal = grind arith
equal_counts (s ∷ ss) t some at equal =
    let each : list_all (λ (u : NumberedTable). pointwise same_heading s.headings u.headings) ss ≡ true = sym (list_all-map (pointwise same_heading s.headings) (λ (u : NumberedTable). u.headings) ss) ∙ equal in
    let long : All (λ (u : NumberedTable). length u.headings ≡ length s.headings) ss = λ k d lt. ap length (sym ((pointwise_decides heading_decides _ _).0 (AllPass-from_list_all _ _ each k d lt))) in
    rw at (All-cons (λ (u : NumberedTable). length u.headings ≡ length s.headings) s ss refl long)

-- the column of a part at a place, if it has one there
module _ (t view : NumberedTable) (sought : Sought) (place count : ℕ) (is : sought ≡ At place) (same : t ≡ view) (counted : count ≡ length t.columns) where
  pub column_there : (c : ColumnOf Cell) → place < count → column_at t.columns place ≡ c → Some c ≡ column_sought sought view
  column_there c lt here = rw (is, ← same) (ap (λ (x : ColumnOf Cell). Some x) (sym here) ∙ sym (slice_get-get_or t.columns place no_column (omega (arith, lt, counted))))

  pub no_column_there : count ≤ place → None ≡ column_sought sought view
  no_column_there beyond = rw (is, ← same) (sym (slice_get_past t.columns place (omega (arith, beyond, counted))))

-- labels of several parts by their numbers, and by their texts
abbrev pub numbered_labels : List NumberedTable → List (List (List Label))
numbered_labels parts = map (λ t. t.labels) parts

pub labels_each : (texts : List Text) (parts : List NumberedTable) → labels_of_tables (parts_value texts parts) ≡ map (map (tuple_value texts)) (numbered_labels parts)
labels_each texts parts = simp map-map

-- the names of levels, one by one
pub none_common : (b : Option LabelValue) → common_name None b ≡ None
none_common = grind arith

kept_index : (as' bs : List (Option LabelValue)) (k : ℕ) → slice_index_or (kept_names as' bs) k None ≡ common_name (slice_index_or as' k None) (slice_index_or bs k None)
kept_index [] _ k = grind arith
kept_index (a ∷ as') [] zero = grind arith
kept_index (a ∷ as') [] (suc k) = kept_index as' [] k
kept_index (a ∷ as') (b ∷ bs) zero = refl
kept_index (a ∷ as') (b ∷ bs) (suc k) = kept_index as' bs k

kept_count : (as' bs : List (Option LabelValue)) → length (kept_names as' bs) ≡ length as'
kept_count [] _ = refl
kept_count (a ∷ as') [] = cc (kept_count as' [])
kept_count (a ∷ as') (b ∷ bs) = cc (kept_count as' bs)

all_names : (names : List (Option LabelValue)) → names ≡ map (λ k. slice_index_or names k None) (range_with_len 0 (length names))
all_names names = sym (list_is (λ k. slice_index_or names k None) names 0 None (λ k lt. grind arith))

all_kept : (names : List (Option LabelValue)) (lists : List (List (Option LabelValue)))
    → fold kept_names names lists ≡ map (λ k. fold common_name (slice_index_or names k None) (map (λ l. slice_index_or l k None) lists)) (range_with_len 0 (length names))
all_kept _ [] = all_names _
all_kept names (list ∷ lists) = search (kept_index, kept_count, all_kept (kept_names names list) lists)

pub level_names_by : (t : Table) (ts : List Table) → level_names_of_all (t ∷ ts) ≡ names_of_levels (length t.level_names) (t ∷ ts)
level_names_by t ts = rw all_kept (simp map-map)

-- a part of several, and its names, whose texts were given
module _ (texts : List Text) where
  pub item_known : (parts : List NumberedTable) (k : ℕ) (t : NumberedTable) → AreKnownParts texts parts → k < length parts → t ≡ slice_index_or parts k t → IsKnownTable texts t
  item_known _ k t known lt at = subst (IsKnownTable texts) (sym at) (known k t lt)

  pub name_given : (which : Naming) (t : NumberedTable) → IsKnownTable texts t → IsSettled heading_value texts (name_at which t)
  name_given Columns t known = search columns_name_part
  name_given (Level level) t known = heading_settled _ t.level_names level _ refl (level_names_part _ t known.given)
  name_given Series t known = heading_settled _ t.headings 0 _ refl (headings_part _ t known.given)

  pub name_seen : (which : Naming) (t : NumberedTable) → heading_value texts (name_at which t) ≡ name_at which (table_value texts t)
  name_seen = grind (arith, heading_seen)

  -- the name of one level more
  pub level_more : (parts : List Table) (names names' : List (Option Label)) (before : List (Option LabelValue)) (k level : ℕ) (name : Option Label) → k < length names → names' ≡ slice_set names k name
      → heading_value texts name ≡ name_of_all (map (name_at (Level level)) parts) → headings_value texts (take k names) ≡ before ++ names_of_levels level parts
      → headings_value texts (take (k + 1) names') ≡ before ++ names_of_levels (level + 1) parts
  level_more parts names _ _ k level name lt set told so_far = grind (arith, take_more_set names k name lt, map-append, append_assoc, map-range_with_len_more (λ level. name_of_all (map (name_at (Level level)) parts)) 0 level level)

  -- names that were given, with one more
  pub given_more : (names names' : List (Option Label)) (k : ℕ) (name : Option Label) → k < length names → names' ≡ slice_set names k name → IsSettled heading_value texts name → IsSettled headings_value texts (take k names)
      → IsSettled headings_value texts (take (k + 1) names')
  given_more names _ k name lt set here before = λ more. grind (arith, take_more_set names k name lt, map-append, before more, here more)

  -- the name of all parts, one part after the other
  pub next_name : (which : Naming) (others : List NumberedTable) (k : ℕ) (t : NumberedTable) (name x name' : Option Label) (whole : Option LabelValue) → k < length others → t ≡ slice_index_or others k t → x ≡ name_at which t → heading_value texts name' ≡ common_name (heading_value texts name) (heading_value texts x)
      → fold common_name (heading_value texts name) (map (name_at which) (parts_value texts (drop k others))) ≡ whole → fold common_name (heading_value texts name') (map (name_at which) (parts_value texts (drop (k + 1) others))) ≡ whole
  next_name = grind (arith, name_seen, drop-cons)

pub levels_as : (texts : List Text) (parts : List NumberedTable) → meant.have_same_levels (parts_value texts parts) ≡ have_same_levels parts
levels_as _ [] = refl
levels_as texts (t ∷ ts) = list_all-map _ (table_value texts) ts ∙ (λ i. list_all (λ s. nat_eq (length-map t.level_names (heading_value texts) i) (length-map s.level_names (heading_value texts) i)) ts)

-- the headings of frames, of the first and of all
pub first_headings : (texts : List Text) (parts : List NumberedTable) (t : NumberedTable) → AreOf Frame parts → AreKnownParts texts parts → 0 < length parts → t ≡ slice_index_or parts 0 t → AreHeadings Frame None t.headings
first_headings texts parts t of known some at =
    let whole : IsWhole t = subst IsWhole (sym at) (known 0 t some).whole in
    let frame : t.shape ≡ Frame = ap (λ (t : NumberedTable). t.shape) at ∙ of 0 t some in
    record { single = λ e. cc; nameless = λ e. refl; labelled = λ e. whole.headings.labelled frame }

pub frame_headings : (texts : List Text) (inner : Bool) (ts : List NumberedTable) → AreOf Frame ts → AreKnownParts texts ts → AreHeadings Frame None (united same_heading inner (headings_of_each ts))
frame_headings _ _ ts of known = record {
  single = λ e. cc;
  nameless = λ e. refl;
  labelled = λ e. united_all IsSome _ _ _ (All-map (All IsSome) (λ t. t.headings) ts (λ k d lt. (known k d lt).whole.headings.labelled (of k d lt)));
}

-- the tables that are put together, and headings
abbrev pub Parts : Type 0
Parts = List NumberedTable

abbrev pub Headings : Type 0
Headings = List (Option Label)

-- headings by first sight
pub all_united : (parts : Parts) → distinct same_heading (flat_map (λ t. t.headings) parts) ≡ united same_heading false (headings_of_each parts)
all_united parts = grind (arith, flat_map-map (λ list. list) (λ (t : NumberedTable). t.headings) parts)

-- those that all parts have
pub common_united : (t : NumberedTable) (ts : Parts) → common_headings t.headings ts ≡ united same_heading true (headings_of_each (t ∷ ts))
common_united t ts = filter_agree _ _ (λ h. sym (list_all-map (list_any (same_heading h)) (λ (t : NumberedTable). t.headings) ts)) t.headings

-- each item of a list is live
item_live : (live : Tables) (items : List Item) (k : ℕ) (d : Item) → AreLiveItems live items → k < length items → IsLiveItem live (slice_index_or items k d)
item_live _ [] k d all lt = grind arith
item_live _ (item ∷ rest) zero d all _ = all.0
item_live _ (item ∷ rest) (suc k) d all lt = item_live _ rest k d all.1 (omega (arith, lt))

pub object_live : (live : Tables) (items : List Item) (k : ℕ) (item : Item) (o : Option ObjId) (id : ObjId) → AreLiveItems live items → k < length items → item ≡ slice_index_or items k item → ((live : Tables) → IsLiveItem live item → IfSome o (IsLiveObject live)) → o ≡ Some id → IsSome (live id.0)
object_live live _ k _ o _ all lt at alive is = subst (λ x. IfSome x (IsLiveObject live)) is (grind (arith, item_live))

-- an object more, and a part of the list that is none
module _ (live : Tables) (items : List Item) (k : ℕ) (item : Item) (lt : k < length items) (at : item ≡ slice_index_or items k item) (parts made : Parts) where
  abbrev are_left : List Text → ℕ → GivenList
  are_left texts k = items_of live texts (drop k items)

  -- the parts so far, and those that are left, are all
  abbrev Whole : Parts → ℕ → Type 0
  Whole parts k = (texts : List Text) → parts_value texts parts ++ tables_of (are_left texts k) ≡ tables_of (items_of live texts items)

  left : (texts : List Text) → tables_of (are_left texts k) ≡ tables_from (object_in (item_of live texts item)) (tables_of (are_left texts (k + 1)))
  left = grind (arith, drop_more items k item lt)

  pub no_part : made ≡ parts → ((texts : List Text) → None ≡ object_in (item_of live texts item)) → Whole parts k → Whole made (k + 1)
  no_part = grind (arith, left)

  pub part_more : (t : NumberedTable) → made ≡ parts ++ t ∷ [] → ((texts : List Text) → Some (table_value texts t) ≡ object_in (item_of live texts item)) → Whole parts k → Whole made (k + 1)
  part_more = grind (arith, map-append, append_assoc, left)

  pub known_more : (t : NumberedTable) (id : ObjId) → made ≡ parts ++ t ∷ [] → live id.0 ≡ Some t → IsWhole t → AreSettledParts live parts → AreSettledParts live made
  known_more t _ grown there whole known texts settled = rw grown (All-push (IsKnownTable texts) parts t (known texts settled) (search object_settled))

abbrev pub Axes : Type 0
Axes = List (Bor AxisValue)

-- as many numbered rows
pub range_rows : (n : ℕ) → length (range_axis n).tuples ≡ n
range_rows = search (length-map, length-range_with_len)

numbered_count : (ts : Parts) → length (flat_map (λ labels. labels) (numbered_labels ts)) ≡ rows_in ts
numbered_count ts = simp (length-flat_map, fold-map)

under_flat : {L : Type 0} (keys : List L) (lists : List (List (List L))) → length keys ≡ length lists → length (labels_under keys lists) ≡ length (flat_map (λ labels. labels) lists)
under_flat [] [] _ = refl
under_flat [] (l ∷ ls) same = search
under_flat (k ∷ ks) [] same = search
under_flat (k ∷ ks) (l ∷ ls) same = search (length-append, length-map, under_flat ks ls (omega (arith, same)))

-- and how many levels
names_count : (t : Table) (ts : List Table) → length (level_names_of_all (t ∷ ts)) ≡ length t.level_names
names_count = search (level_names_by, length-map, length-range_with_len)

-- how many rows there are
module _ (texts : List Text) where
  flat_count : (ts : Parts) → length (flat_map (λ labels. labels) (labels_of_tables (parts_value texts ts))) ≡ rows_in ts
  flat_count ts = simp (length-flat_map, fold-map, length-map)

  pub rows_count : (renumbered : Bool) (keys : Option (Vec Label)) (ts : Parts) → KeysFit (length ts) keys → length (rows_below renumbered (keys_value texts keys) (parts_value texts ts)).labels ≡ rows_in ts
  rows_count = grind (arith, length-map, length-range_with_len, flat_count, under_flat)

  pub levels_count : (b : Bool) (keys : Option (Vec Label)) (parts : Parts) (t : NumberedTable) → 0 < length parts → t ≡ slice_index_or parts 0 t
      → length (rows_below b (keys_value texts keys) (parts_value texts parts)).names ≡ (if b then 1 else levels_with keys (length t.level_names))
  levels_count _ _ [] _ some _ = grind arith
  levels_count b keys (s ∷ ss) t some at = grind (arith, names_count (table_value texts s) (parts_value texts ss), length-map)

  -- the numbered rows
  pub numbered_axis : (b : Bool) (keys : Option (List LabelValue)) (ts : Parts) (rows : ℕ) (r : Result AxisValue NoMemory) → b ≡ true → rows ≡ rows_in ts → IfOk r (λ axis. axis ≡ range_axis rows)
      → IfOk r (λ axis. axis_seen texts axis ≡ rows_below b keys (parts_value texts ts))
  numbered_axis = grind (arith, default_seen, flat_count)

  pub numbered_given : (rows : ℕ) (r : Result AxisValue NoMemory) → IfOk r (λ axis. axis ≡ range_axis rows) → IfOk r (λ axis. IsSettled axis_seen texts axis)
  numbered_given = grind (arith, default_seen)

-- axes of as many levels as the first
abbrev pub HasLevels : AxisValue → Type 0
HasLevels a = HaveLevels (length a.names) a.tuples

abbrev pub AreAxesOf : Axes → Parts → Type 0
AreAxesOf axes parts = map (λ axis. axis.now) axes ≡ map axis_of parts

-- all parts have as many levels
pub all_levels : (t : NumberedTable) (ts : Parts) → have_same_levels (t ∷ ts) ≡ true → All (λ s. length s.level_names ≡ length t.level_names) (t ∷ ts)
all_levels t ts same = λ k d lt.
    let counted : nat_eq (length t.level_names) (length (slice_index_or (t ∷ ts) k d).level_names) ≡ true = AllPass-from_list_all (λ s. nat_eq (length t.level_names) (length s.level_names)) (t ∷ ts) (grind (arith, nat_tests)) k d lt in
    grind (arith, nat_tests)

pub axes_alike : (axes : Axes) (ts : Parts) → AreAxesOf axes ts → have_same_levels ts ≡ true → HaveLevelsOfFirst axes
axes_alike [] _ is same = grind arith
axes_alike (a ∷ as') [] is same = cc
axes_alike (a ∷ as') (t ∷ ts) is same =
    let count : length a.now.names ≡ length t.level_names = cc in
    let as_first : AxisValue → Type 0 = λ a. length a.names ≡ length t.level_names in
    rw count (each_of as_first (λ axis. axis.now) (a ∷ as') (All-same as_first _ _ is (All-map as_first axis_of (t ∷ ts) (all_levels t ts same))))

pub each_tuples : (axes : Axes) (ts : Parts) → AreAxesOf axes ts → map (λ axis. axis.now.tuples) axes ≡ numbered_labels ts
each_tuples _ _ is = simp map-map at (ap (map (λ (a : AxisValue). a.tuples)) is)

-- rows behind each other, with their texts
abbrev tuples_for : {L : Type 0} → Option (List L) → List (List (List L)) → List (List L)
tuples_for None lists = flat_map (λ labels. labels) lists
tuples_for (Some keys) lists = labels_under keys lists

abbrev levels_after : Option (List Label) → ℕ → ℕ
levels_after None n = n
levels_after (Some keys) n = n + 1

-- what the kernel is handed and answers
abbrev pub lent : Option (Bor (List Label)) → Option (List Label)
lent keys = option_map (λ k. k.now) keys

abbrev pub items_in : Option (Vec Label) → Option (List Label)
items_in keys = option_map (λ k. k.items) keys

module _ (texts : List Text) where
  under_seen : (keys : List Label) (lists : List (List (List Label))) → labels_value texts (labels_under keys lists) ≡ labels_under (map (label_datum texts) keys) (map (map (tuple_value texts)) lists)
  under_seen [] _ = refl
  under_seen (k ∷ ks) [] = refl
  under_seen (k ∷ ks) (l ∷ ls) = simp (map-append, map-map, under_seen ks ls)

  abbrev keys_seen : Option (List Label) → Option (List LabelValue)
  keys_seen keys = option_map (map (label_datum texts)) keys

  tuples_seen : (keys : Option (List Label)) (ts : Parts) → labels_value texts (tuples_for keys (numbered_labels ts)) ≡ tuples_for (keys_seen keys) (labels_of_tables (parts_value texts ts))
  tuples_seen None ts = rw (labels_each texts ts) (sym (flat_seen (tuple_value texts) _ _ _ (λ labels. refl) (numbered_labels ts)))
  tuples_seen (Some keys) ts = rw (labels_each texts ts) (under_seen keys (numbered_labels ts))

  abbrev nameless : ℕ → List (Option LabelValue)
  nameless n = headings_value texts (replicate n None)

  no_name_before : (n : ℕ) → take (length (nameless n) - n) (nameless n) ≡ []
  no_name_before = grind (arith, length-map, length-replicate)

  one_name_before : (n : ℕ) → take (length (nameless (n + 1)) - n) (nameless (n + 1)) ≡ None ∷ []
  one_name_before = grind (arith, length-map, length-replicate)

  pub all_named : (parts : Parts) (n : ℕ) → n ≡ levels_of parts → names_of_levels n (parts_value texts parts) ≡ level_names_of_all (parts_value texts parts)
  all_named [] _ is = ap (λ n. names_of_levels n []) is
  all_named (t ∷ ts) _ is = cc (length-map t.level_names (heading_value texts), level_names_by (table_value texts t) (parts_value texts ts))

  rows_seen : (keys : Option (List Label)) (parts : Parts)
      → record { labels = labels_value texts (tuples_for keys (numbered_labels parts)); names = named_after (nameless (levels_after keys (levels_of parts))) (levels_of parts) (parts_value texts parts) } ≡ rows_below false (keys_seen keys) (parts_value texts parts)
  rows_seen None parts = cc (tuples_seen None parts, no_name_before (levels_of parts), all_named parts _ refl)
  rows_seen (Some keys) parts = cc (tuples_seen (Some keys) parts, one_name_before (levels_of parts), all_named parts _ refl)

  keys_by_items : (keys : Option (Vec Label)) → keys_value texts keys ≡ keys_seen (items_in keys)
  keys_by_items = grind arith

pub first_count : (parts : Parts) (t : NumberedTable) → 0 < length parts → t ≡ slice_index_or parts 0 t → length t.level_names ≡ levels_of parts
first_count = grind arith

module _ (asked : Option (Vec Label)) (keys : Option (Bor (List Label))) (same : lent keys ≡ items_in asked) (axes : Axes) (parts : Parts) (lists : AreAxesOf axes parts) (axis made : AxisValue)
    (is : axis ≡ nameless_axis (tuples_below keys (map (λ axis. axis.now.tuples) axes)) (levels_below keys (levels_of_first axes))) (tuples : made.tuples ≡ axis.tuples) where
  axis_is : axis ≡ nameless_axis (tuples_for (items_in asked) (numbered_labels parts)) (levels_after (items_in asked) (levels_of parts))
  axis_is = grind (arith, each_tuples)

  pub axis_of_parts : (texts : List Text) (b : Bool) (t : NumberedTable) (levels : ℕ) → 0 < length parts → t ≡ slice_index_or parts 0 t → levels ≡ length t.level_names → b ≡ false
      → headings_value texts made.names ≡ named_after (headings_value texts axis.names) levels (parts_value texts parts) → axis_seen texts made ≡ rows_below b (keys_value texts asked) (parts_value texts parts)
  axis_of_parts texts b t levels some at count plain names = cc (axis_is, rows_seen texts (items_in asked) parts, keys_by_items texts asked, first_count parts t some at)

  pub axis_given : (texts : List Text) → AreKnownParts texts parts → ((more : List Text) → keys_value (texts ++ more) asked ≡ keys_value texts asked) → IsSettled headings_value texts made.names → IsSettled axis_seen texts made
  axis_given texts known given names =
      let seen : (texts : List Text) → labels_value texts made.tuples ≡ tuples_for (keys_value texts asked) (labels_of_tables (parts_value texts parts)) = λ texts. grind (arith, axis_is, tuples_seen, keys_by_items) in
      λ more. cc (seen (texts ++ more), seen texts, given more, parts_settled texts parts known more, names more)

  pub axis_rows : (rows : ℕ) → KeysFit (length parts) asked → rows ≡ rows_in parts → length made.tuples ≡ rows
  axis_rows = grind (arith, axis_is, under_flat, numbered_count, length-map)
