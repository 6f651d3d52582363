-- Parts side by side.
use Rattle.{frame_parts.proofs.{Common.{IsSome, option_map, flat_map, range_with_len, list_all, pointwise, ◌++◌, slice_index_or, ◌≡◌, ◌<◌, ◌+◌, refl, ap, sym, arith, ℕ, pos, Bool, true, false, List, [], ◌∷◌, map, length, All, Option, Some, None, Result, Ok, Err, take, if◌then◌else◌, length-map, map-append, length-append, take_more, length-replicate, list_all-map, All-map, All-nil, All-cons, All-tail, All-same, AllPass-from_list_all, nat_tests, AxisValue, HaveLevels, nameless_axis, AreDistinct, AreGiven, Label, Cell, Na, Frame, Text, LabelValue, int, fault_of, limit, FaultValue, bad_value, levels, met_rows, most_rows, reindexed, All-append as all_append, IsSettled, NumberedTable, Table, tuple_value, ColumnOf, heading_value, table_value, IsWhole, table, Entry, limited, within_limits, same_tuple, on_rows, labels_value, headings_value, Refuses, Makes, IsSingle, HaveRows, columns_of, table_with, axis_of, IsKnownTable, settled_by, labels_part, columns_part, columns_given, columns_settled, table_settled, tuple_by_number, tuples_settled, settled_tuples, on_rows_seen, on_rows_given, value_decides, blocks_value, CellBlock, IsPlaceOf}, label_align.SameLaws.{tuples_decide}}, column_core.proofs.cells.Common.{pointwise_decides, inr, append-nil, flat_map-append}, frame_concat.{proofs.{BelowLaws.{many_rows}, PartLaws.{Axes, HasLevels, AreAxesOf, each_tuples, all_named, all_levels, Parts, Headings, parts_settled, numbered_labels, labels_each, levels_as}, PlaceLaws.{united_all, flat_seen, each_of}}, specs.{declared.{asked.Asked.{Asked}, parts.Naming.TheVariants.{Columns}}, Asked.{asked_value}, Parts.{parts_value, AreKnownParts, name_at, have_same_levels}, Headings.{numbered}, Beside.{met_beside, AreBlocks, IsAxisFor}, Axes.{HasLevelsOf, levels_of, named_after, IsAlike}}}, merge_concat.specs.Axes.{tuples_of_each}, cell_core.specs.declared.code.Code.TheVariants.{RepeatedLabel}, meaning_method.specs.{join.Concat.{united, are_equal, repeated_on_any, labels_concatenated, unless_repeated as unless_label, ConcatRefusal, first_axis}, Concat.{Concatenation, rows_met, labels_of_tables, table_beside, unless_label_twice, headings_beside, numbered_from, name_of_all, columns_beside, level_names_of_all}}}
use Rattle.column_core.specs.cells.Fault as fault
use Rattle.meaning_method.specs.join.Concat as join
use Rattle.row_keys.specs.Keys as numbers
use Rattle.frame_concat.proofs.PlaceLaws as seen
use Rattle.meaning_method.specs.Concat as meant

-- numbered headings, with their texts
module _ (texts : List Text) where
  some_numbered : (n : ℕ) (hs : List (Option Label)) → headings_value texts (numbered false n hs) ≡ numbered_from n (headings_value texts hs)
  some_numbered n [] = refl
  some_numbered n (None ∷ hs) = cc (some_numbered (n + 1) hs)
  some_numbered n (Some l ∷ hs) = cc (some_numbered n hs)

  every_numbered : (n : ℕ) (hs : List (Option Label)) → headings_value texts (numbered true n hs) ≡ map (λ k. Some (int (pos k))) (range_with_len n (length hs))
  every_numbered n [] = refl
  every_numbered n (h ∷ hs) = grind (arith, every_numbered (n + 1) hs)

  numbered_seen : (all : Bool) (hs : List (Option Label)) → headings_value texts (numbered all 0 hs) ≡ headings_beside all (headings_value texts hs)
  numbered_seen = grind (arith, some_numbered, every_numbered, length-map)

  all_headings_seen : (parts : List NumberedTable) → headings_value texts (flat_map (λ t. t.headings) parts) ≡ flat_map (λ t. t.headings) (parts_value texts parts)
  all_headings_seen parts = sym (flat_seen (heading_value texts) (λ t. t.headings) (table_value texts) (λ t. t.headings) (λ t. refl) parts)

numbered_some : (hs : List (Option Label)) (n : ℕ) (all : Bool) → All IsSome (numbered all n hs)
numbered_some [] n _ = All-nil _
numbered_some (h ∷ hs) n all = grind (arith, numbered_some hs (n + 1) all, numbered_some hs n all)

-- rows meet where no part repeats a label
abbrev MeetOn : List Text → List (List LabelValue) → NumberedTable → Type 0
MeetOn texts labels t = met_rows (reindexed same_tuple (labels_value texts t.labels) labels) ≡ Ok (rows_met (labels_value texts t.labels) labels)

meet_once : (texts : List Text) (labels : List (List LabelValue)) (parts : Parts) → repeated_on_any same_tuple (labels_of_tables (parts_value texts parts)) ≡ None → All (MeetOn texts labels) parts
meet_once _ _ [] _ = All-nil _
meet_once texts labels (t ∷ ts) none = All-cons (MeetOn texts labels) t ts (grind arith) (meet_once texts labels ts (grind arith))

axis_once : (texts : List Text) (axis : AxisValue) (labels : List (List Label)) (n : ℕ) (parts : Parts) → axis ≡ nameless_axis labels n → n ≡ levels_of parts → have_same_levels parts ≡ true → IsSettled labels_value texts labels → repeated_on_any same_tuple (labels_of_tables (parts_value texts parts)) ≡ None → All (IsAxisFor texts axis) parts
axis_once _ _ _ n [] _ _ _ _ _ = All-nil _
axis_once texts axis _ n (t ∷ ts) is count same given once = λ k d lt.
    record {
      levels = inr (grind (arith, length-replicate, all_levels t ts same k d lt));
      given = grind arith;
      meet = meet_once _ _ (t ∷ ts) once k d lt;
    }

-- the columns of one part more
rows_long : (rows : List (Option ℕ)) (cs : List (ColumnOf Cell)) → HaveRows (length rows) (on_rows Na rows cs)
rows_long _ [] = grind arith
rows_long rows (c ∷ cs) = grind (arith, length-map, rows_long rows cs)

-- how many columns there are
numbered_count : (all : Bool) (n : ℕ) (hs : Headings) → length (numbered all n hs) ≡ length hs
numbered_count _ n [] = refl
numbered_count all n (h ∷ hs) = grind (arith, numbered_count all (n + 1) hs, numbered_count all n hs)

abbrev pub all_numbered : Bool → Parts → Headings
all_numbered all parts = numbered all 0 (flat_map (λ t. t.headings) parts)

headings_so : (texts : List Text) (all : Bool) (parts : Parts) → headings_value texts (all_numbered all parts) ≡ headings_beside all (flat_map (λ t. t.headings) (parts_value texts parts))
headings_so = grind (arith, numbered_seen, all_headings_seen)

-- equal labels
rows_themselves : (rows : List (List LabelValue)) → pointwise same_tuple rows rows ≡ true
rows_themselves rows = (pointwise_decides (pointwise_decides value_decides) rows rows).1 refl

module _ (texts : List Text) where
  pub part_added : (t : NumberedTable) (rows : List (Option ℕ)) (before made : List CellBlock) → IsKnownTable texts t → All (IsPlaceOf (length t.labels)) rows → AreBlocks texts (length rows) before
      → All IsSingle made → columns_of made ≡ columns_of before ++ on_rows Na rows t.columns → AreBlocks texts (length rows) made
  part_added t rows _ _ known inside so_far single is = record {
    single = single;
    filled = rw is (all_append (λ c. length c.cells ≡ length rows) _ _ so_far.filled (rows_long _ _));
    given = rw is
        (all_append (λ c. AreGiven texts c.cells) _ _ so_far.given
        (search (on_rows_given, columns_given, columns_part)));
  }

  pub columns_added : (labels : List (List LabelValue)) (ts : Parts) (k : ℕ) (t : NumberedTable) (rows : List (Option ℕ)) (before made : List CellBlock) → k < length ts → t ≡ slice_index_or ts k t → rows ≡ rows_met (labels_value texts t.labels) labels
      → columns_of made ≡ columns_of before ++ on_rows Na rows t.columns → blocks_value texts before ≡ flat_map (columns_beside labels) (parts_value texts (take k ts)) → blocks_value texts made ≡ flat_map (columns_beside labels) (parts_value texts (take (k + 1) ts))
  columns_added labels ts k t rows before _ lt at met is so_far = rw (take_more ts k t lt, map-append, ← at, is, map-append, so_far, on_rows_seen, met, flat_map-append, append-nil)

  columns_count : (labels : List (List LabelValue)) (ts : Parts) → AreKnownParts texts ts → length (flat_map (columns_beside labels) (parts_value texts ts)) ≡ length (flat_map (λ t. t.headings) ts)
  columns_count _ [] _ = refl
  columns_count labels (t ∷ ts) known =
      let first : length t.headings ≡ length t.columns = (known 0 t (omega arith)).whole.headed in
      grind (arith, length-append, length-map, columns_count labels ts (All-tail (IsKnownTable texts) t ts known))

  headings_known : (all : Bool) (parts : Parts) → AreKnownParts texts parts → IsSettled headings_value texts (all_numbered all parts)
  headings_known all parts known = settled_by parts_value headings_value (λ ts. headings_beside all (flat_map (λ t. t.headings) ts)) _ parts _ (λ ts. sym (headings_so ts all parts)) (parts_settled _ _ known)

  -- the names of the levels
  level_names_so : (names : Headings) (parts : Parts) → length names ≡ levels_of parts → named_after (headings_value texts names) (length names) (parts_value texts parts) ≡ level_names_of_all (parts_value texts parts)
  level_names_so names parts fit =
      grind (arith, length-map, all_named texts parts _ fit)

  pub equal_axis : (axes : Axes) (parts : Parts) (t : NumberedTable) (axis : AxisValue) → 0 < length parts → t ≡ slice_index_or parts 0 t → AreAxesOf axes parts → are_equal numbers.same_tuple (tuples_of_each axes) ≡ true → axis ≡ axis_of t
      → IsSettled labels_value texts axis.tuples → All (IsAxisFor texts axis) parts
  equal_axis _ [] t _ some at is same copied given = grind arith
  equal_axis axes (s ∷ ss) t axis some at is same copied given = λ k d lt.
      let equal : list_all (λ t. pointwise numbers.same_tuple s.labels t.labels) ss ≡ true = cc (list_all-map (pointwise numbers.same_tuple s.labels) (λ (t : NumberedTable). t.labels) ss, each_tuples axes (s ∷ ss) is, same) in
      let all = All-cons (λ t. s.labels ≡ t.labels) s ss refl (λ k d lt. (tuples_decide _ _).0 (AllPass-from_list_all _ _ equal k d lt)) k d lt in
      let same : axis.tuples ≡ (slice_index_or (s ∷ ss) k d).labels = cc (all, copied, at) in
      grind (arith, rows_themselves)

  first_labels : (parts : Parts) (t : NumberedTable) (axis : AxisValue) → 0 < length parts → t ≡ slice_index_or parts 0 t → axis ≡ axis_of t → first_axis (labels_of_tables (parts_value texts parts)) ≡ labels_value texts axis.tuples
  first_labels [] t _ some at copied = grind arith
  first_labels (s ∷ ss) t _ some at copied = cc

-- the frame that is meant
module _ (texts : List Text) (parts : Parts) (known : AreKnownParts texts parts) (all : Bool) (axis : AxisValue) (list slice : Headings) (listed : list ≡ all_numbered all parts) (sliced : slice ≡ list) where
  abbrev seen_parts : List Table
  seen_parts = parts_value texts parts

  abbrev frame_meant : Table
  frame_meant = table_beside seen_parts all (labels_value texts axis.tuples)

  limited_by : limited frame_meant ≡ (if within_limits (length axis.tuples) (length list) then Ok (table frame_meant) else Err limit)
  limited_by = grind (arith, columns_count, numbered_count, length-map)

  pub beyond_axis : within_limits (length axis.tuples) (length list) ≡ false → limited frame_meant ≡ Err limit
  beyond_axis beyond = cc limited_by

  -- the frame that is made on an axis, with these headings
  module _ (count : ℕ) (new : AxisValue) (named : record { tuples : new.tuples ≡ axis.tuples; names : headings_value texts new.names ≡ named_after (headings_value texts axis.names) count seen_parts; given : IsSettled headings_value texts new.names }) (called : Option Label) (built : List CellBlock)
      (made_of : record { blocks : AreBlocks texts (length axis.tuples) built; columns : blocks_value texts built ≡ flat_map (columns_beside (labels_value texts axis.tuples)) seen_parts }) where
    abbrev frame : NumberedTable
    frame = table_with Frame new record { columns_name = called; labels = slice } (columns_of built)

    pub frame_whole : IsWhole frame
    frame_whole = grind (arith, numbered_count, columns_count, length-map, numbered_some)

    module _ (given : IsSettled labels_value texts axis.tuples) (levels : HasLevelsOf parts axis.names) (counted : count ≡ length axis.names) (calls : record { name : heading_value texts called ≡ name_of_all (map (name_at Columns) seen_parts); given : IsSettled heading_value texts called }) where
      frame_seen : table_value texts frame ≡ frame_meant
      frame_seen = grind (arith, level_names_so, headings_so texts all parts)

      frame_given : IsSettled table_value texts frame
      frame_given = rw (sliced, listed) (table_settled _ _ calls.given named.given (rw named.tuples given) (headings_known _ _ _ known) (columns_settled _ _ made_of.blocks.given))

      pub frame_is : within_limits (length axis.tuples) (length list) ≡ true → (t : NumberedTable) → t ≡ frame → Makes texts (Ok t) (limited frame_meant)
      frame_is = grind (arith, limited_by, frame_seen, frame_given)

module _ (texts : List Text) (distinct : AreDistinct texts) (parts : Parts) (known : AreKnownParts texts parts) where
  abbrev P : List Label → Type 0
  P = IsSettled tuple_value texts

  abbrev T : List Table
  T = parts_value texts parts

  abbrev by_number : (x y : List Label) → P x → P y → same_tuple (tuple_value texts x) (tuple_value texts y) ≡ numbers.same_tuple x y
  by_number x y f g = tuple_by_number _ x y distinct f g

  -- labels of several parts by their numbers are those by their texts
  given : All (All P) (numbered_labels parts)
  given = All-map (All P) _ _ (λ k d lt. tuples_settled _ _ (labels_part _ (slice_index_or parts k d) (known k d lt).given))

  equal_labels : are_equal same_tuple (labels_of_tables T) ≡ are_equal numbers.same_tuple (numbered_labels parts)
  equal_labels = rw labels_each (seen.equal_seen _ _ _ _ by_number _ given)

  twice_labels : repeated_on_any same_tuple (labels_of_tables T) ≡ option_map (tuple_value texts) (repeated_on_any numbers.same_tuple (numbered_labels parts))
  twice_labels = rw labels_each (seen.repeated_seen _ _ _ _ by_number _ given)

  united_labels : (inner : Bool) → united same_tuple inner (labels_of_tables T) ≡ labels_value texts (united numbers.same_tuple inner (numbered_labels parts))
  united_labels _ = rw labels_each (seen.united_seen _ _ _ _ by_number _ _ given)

  united_labels_given : (inner : Bool) → IsSettled labels_value texts (united numbers.same_tuple inner (numbered_labels parts))
  united_labels_given _ = settled_tuples _ _ (seen.united_all P _ _ _ given)

  twice_given : (label : List Label) → repeated_on_any numbers.same_tuple (numbered_labels parts) ≡ Some label → IsSettled fault_of texts (RepeatedLabel label)
  twice_given _ is = λ more. ap fault.repeated_label (seen.repeated_all P _ _ _ given is more)

  -- what the kernel answers for axes that aren't equal
  module _ (asked : Asked) (axes : Axes) (is : AreAxesOf axes parts) (apart : are_equal numbers.same_tuple (tuples_of_each axes) ≡ false) where
    abbrev C : Concatenation
    C = asked_value texts asked

    abbrev told : Result (List (List Label)) (ConcatRefusal (List Label))
    told = labels_concatenated numbers.same_tuple asked.inner (tuples_of_each axes)

    abbrev twice : Option (List Label)
    twice = repeated_on_any numbers.same_tuple (numbered_labels parts)

    abbrev all_labels : List (List Label)
    all_labels = united numbers.same_tuple asked.inner (numbered_labels parts)

    chosen : told ≡ unless_label twice all_labels
    chosen = cc (each_tuples axes parts is, apart)

    met_meant : (o : Option (List Label)) → twice ≡ o → met_beside T C ≡ unless_label_twice (option_map (tuple_value texts) o) (limited (table_beside T asked.renumbered (labels_value texts all_labels)))
    met_meant = grind (arith, twice_labels, united_labels)

    -- the labels
    module _ (labels : List (List Label)) (ok : told ≡ Ok labels) where
      opened : (twice ≡ None) × (labels ≡ all_labels)
      opened = grind (arith, chosen)

      pub met_labels : labels ≡ all_labels
      met_labels = opened.1

      met_once : repeated_on_any same_tuple (labels_of_tables T) ≡ None
      met_once = cc (twice_labels, opened.0)

      pub met_found : met_beside T C ≡ limited (table_beside T asked.renumbered (labels_value texts labels))
      met_found = cc (met_meant _ opened.0, opened.1)

      pub met_given : IsSettled labels_value texts labels
      met_given = rw opened.1 (united_labels_given _)

      pub met_axis : (axis : AxisValue) (n : ℕ) → axis ≡ nameless_axis labels n → n ≡ levels_of parts → have_same_levels parts ≡ true → All (IsAxisFor texts axis) parts
      met_axis = search (axis_once, met_given, met_once)

    -- a label that stands twice
    pub met_twice : (label : List Label) → told ≡ Err (join.repeated_label label) → Refuses texts (RepeatedLabel label) (met_beside T C)
    met_twice label is = let found : twice ≡ Some label = grind (arith, chosen) in (met_meant _ found, twice_given _ found)

    -- too many labels
    pub met_many : told ≡ Err join.too_large → met_beside T C ≡ Err limit
    met_many is =
        let opened : (twice ≡ None) × (most_rows < length all_labels) = grind (arith, chosen, nat_tests) in
        let beyond : within_limits (length (labels_value texts all_labels)) (length (table_beside T asked.renumbered (labels_value texts all_labels)).columns) ≡ false = many_rows (length (labels_value texts all_labels)) _ (grind (arith, opened.1, length-map all_labels (tuple_value texts))) in
        grind (arith, met_meant None opened.0, beyond)

  -- what is meant by equal labels and by others
  module _ (axes : Axes) (is : AreAxesOf axes parts) (asked : Asked) where
    abbrev other : Result Entry FaultValue
    other = meant.same_levels T (met_beside T (asked_value texts asked))

    beside_by : (b : Bool) → are_equal numbers.same_tuple (tuples_of_each axes) ≡ b → meant.beside T (asked_value texts asked) ≡ (if b then limited (table_beside T asked.renumbered (first_axis (labels_of_tables T))) else other)
    beside_by = grind (arith, equal_labels, each_tuples)

    pub beside_equal : (t : NumberedTable) (axis : AxisValue) → 0 < length parts → t ≡ slice_index_or parts 0 t → are_equal numbers.same_tuple (tuples_of_each axes) ≡ true → axis ≡ axis_of t → meant.beside T (asked_value texts asked) ≡ limited (table_beside T asked.renumbered (labels_value texts axis.tuples))
    beside_equal t _ some at same copied = grind (arith, beside_by _ same, first_labels)

    pub beside_met : are_equal numbers.same_tuple (tuples_of_each axes) ≡ false → meant.beside T (asked_value texts asked) ≡ (if have_same_levels parts then met_beside T (asked_value texts asked) else Err (bad_value levels))
    beside_met apart = grind (arith, beside_by _ apart, levels_as texts parts)

-- the labels of rows that meet
each_alike : (axes : Axes) (t : NumberedTable) (ts : Parts) → AreAxesOf axes (t ∷ ts) → All IsAlike axes → have_same_levels (t ∷ ts) ≡ true → All (HaveLevels (length t.level_names)) (numbered_labels (t ∷ ts))
each_alike axes t ts is alike same =
    let own : All HasLevels (map axis_of (t ∷ ts)) = All-same HasLevels _ _ (sym is) (All-map HasLevels (λ axis. axis.now) axes alike) in
    All-map (HaveLevels (length t.level_names)) (λ t. t.labels) (t ∷ ts) (λ k d lt. rw (all_levels t ts same k d lt) at (each_of HasLevels axis_of (t ∷ ts) own k d lt))

pub united_alike : (axes : Axes) (parts : Parts) (inner : Bool) → AreAxesOf axes parts → All IsAlike axes → have_same_levels parts ≡ true → HaveLevels (levels_of parts) (united numbers.same_tuple inner (numbered_labels parts))
united_alike _ [] _ = grind arith
united_alike _ (t ∷ ts) _ = search (united_all, each_alike)
