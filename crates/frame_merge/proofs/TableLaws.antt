-- The columns of joined rows, and the frame of them.
use Rattle.{frame_parts.proofs.Common.{drop_more, length-map, map-append, take_more, length-append, map-range_with_len_more, length-map-range_with_len, All-map, All-append, All-filter, length-range_with_len, slice_get_within, get_or_from_slice_get, nat_tests, ◌-◌, ◌&&◌, ◌≡◌, ◌∙◌, ◌+◌, ap, refl, sym, arith, ℕ, suc, false, List, [], ◌∷◌, ◌++◌, map, take, drop, length, slice_get, All, Option, Some, None, append_assoc, nat_eq, Result, filter, ◌^◌, ◌<◌, subst, true, slice_index_or, Ok, Err, get_or-map, range_with_len, position_or_len, IfSome, IsSome, on_rows_seen, default_seen, map-map as map_map, Cell, Na, Label, Limit, Frame, IsLonger, Text, CellValue, na_cell, datum, LabelValue, FaultValue, IsSettled, ColumnOf, Table, column_at, column_value, NumberedTable, table_value, heading_value, Entry, IsWhole, columns_value, headings_value, Makes, IsKnownTable, Refused, HeadingList, columns_of, table_of, table_settled, settled_later, seen_later, columns_part, CellBlock, AxisValue, range_axis, within_limits, limited, default_labels, common_name, heading_at}, column_core.proofs.cells.Common.{zip}, std.proofs.Common.{min, nat_le}, frame_store.specs.declared.fault.OpFault.{OpFault}, frame_select.proofs.AnswerLaws.{column_seen}, meaning_join.specs.{Pairs.{Pair, pair}, declared.{How.{How}, Validate.{Validate}}}, frame_labels.{specs.method.{Rows.{all_places}, Merge.{MergeKeys, is_key, right_key, right_places, key_cell, left_column, column_of_side, suffixed_heading, merged, merged_rows}}, proofs.{NamedLaws.{is_other, others_meant}, TableLaws.{limited_within, frame_heads}}}, frame_merge.specs.{Columns.{key_cell_at, key_cells, column_on, joined_or_left, left_column_on, merged_columns}, declared.keys.MergeKeys.{MergeKeys as NumberedKeys}, Keys.{keys_value, AreAlike}, Rows.{MeetsBy, AreRowsMet, pairs_value, repeated_in, pairs_in}, Headings.{merged_headings}}, factorize.proofs.sorting.RankLaws.{below_range}, merge_concat.specs.{declared.pairs.Pairs.{Pairs}, Pairs.{ArePairs}}}
use Rattle.frame_labels.specs.method.Merge as meant

-- one column more
pub one_more_in_range : {X : Type 0} (f : ℕ → X) (place : ℕ) (x : X) (made made' : List X) → x ≡ f place → made' ≡ made ++ x ∷ [] → made ≡ map f (range_with_len 0 place) → made' ≡ map f (range_with_len 0 (place + 1))
one_more_in_range = grind (arith, map-range_with_len_more)

pub one_more_at : {X : Type 0} (f : ℕ → X) (places : List ℕ) (k place : ℕ) (x : X) (first made made' : List X) → slice_get places k ≡ Some place → x ≡ f place → made' ≡ made ++ x ∷ [] → made ≡ first ++ map f (take k places)
    → made' ≡ first ++ map f (take (k + 1) places)
one_more_at f places k place x _ _ _ at is pushed before = rw (pushed, before, is, take_more places k 0 (slice_get_within places k place at), map-append, get_or_from_slice_get places k place 0 at, append_assoc)

-- the cells of a key, one more of them
pub one_more_key : {C : Type 0} (na : C) (left right : List C) (ls rs : List (Option ℕ)) (row : ℕ) (l r : Option ℕ) (c : C) (made made' whole : List C) → length rs ≡ length ls → slice_get ls row ≡ Some l → slice_get rs row ≡ Some r
    → c ≡ key_cell_at na left right l r → made' ≡ made ++ c ∷ [] → made ++ key_cells na left right (drop row ls) (drop row rs) ≡ whole → made' ++ key_cells na left right (drop (row + 1) ls) (drop (row + 1) rs) ≡ whole
one_more_key na left right ls rs row l r _ _ _ _ same here there is pushed before =
    let lt = slice_get_within ls row l here in
    rw (pushed, is, append_assoc) (rw (drop_more ls row None lt, drop_more rs row None (omega (arith, lt, same)), get_or_from_slice_get ls row l None here, get_or_from_slice_get rs row r None there) at before)

-- how many there are
key_count : {C : Type 0} (na : C) (left right : List C) (ls rs : List (Option ℕ)) → length rs ≡ length ls → length (key_cells na left right ls rs) ≡ length ls
key_count _ _ _ [] _ _ = refl
key_count _ _ _ (l ∷ ls) [] same = search
key_count na _ _ (l ∷ ls) (r ∷ rs) same = ap suc (key_count na _ _ ls rs (omega (arith, same)))

module _ {C : Type 0} (na : C) (l r : List (ColumnOf C)) (keys : MergeKeys) (lefts rights : List (Option ℕ)) (same : length rights ≡ length lefts) where
  abbrev IsLong : ColumnOf C → Type 0
  IsLong c = length c.cells ≡ length lefts

  left_counted : (place : ℕ) → length (left_column_on na l r keys lefts rights place).cells ≡ length lefts
  left_counted = grind (arith, key_count, length-map)

  columns_counted : (places : List ℕ) → All IsLong (merged_columns na l r keys places lefts rights)
  columns_counted places =
      All-append IsLong _ _
      (All-map IsLong (left_column_on na l r keys lefts rights) (range_with_len 0 (length l)) (λ k d lt. left_counted _))
      (All-map IsLong (column_on na r rights) places (λ k d lt. search length-map))

-- a column that is no key has none that stands for it
pub no_right : (lefts rights : List ℕ) (place : ℕ) → length rights ≡ length lefts → is_key lefts place ≡ false → slice_get rights (position_or_len (nat_eq place) lefts) ≡ None
no_right (l ∷ lefts) (r ∷ rights) place same other = grind (arith, nat_eq, slice_get, no_right lefts rights place (omega (arith, same)))
no_right [] [] _ _ _ = refl
no_right lefts rights _ same other = search

-- as they are seen
module _ (texts : List Text) where
  key_seen : (left right : List Cell) (l r : Option ℕ) → datum texts (key_cell_at Na left right l r) ≡ key_cell_at na_cell (map (datum texts) left) (map (datum texts) right) l r
  key_seen left right l r = grind (arith, get_or-map (datum texts) left, get_or-map (datum texts) right)

  keys_seen : (left right : List Cell) (ls rs : List (Option ℕ)) → map (datum texts) (key_cells Na left right ls rs) ≡ key_cells na_cell (map (datum texts) left) (map (datum texts) right) ls rs
  keys_seen _ _ [] _ = refl
  keys_seen _ _ (l ∷ ls) [] = refl
  keys_seen left right (l ∷ ls) (r ∷ rs) = search (key_seen, keys_seen left right ls rs)

  on_seen : (cs : List (ColumnOf Cell)) (rows : List (Option ℕ)) (place : ℕ) → column_value texts (column_on Na cs rows place) ≡ column_on na_cell (columns_value texts cs) rows place
  on_seen cs rows place = cc (on_rows_seen texts rows (column_at cs place ∷ []), column_seen texts cs place)

  module _ (l r : List (ColumnOf Cell)) (keys : MergeKeys) (lefts rights : List (Option ℕ)) where
    left_seen : (place : ℕ) → column_value texts (left_column_on Na l r keys lefts rights place) ≡ left_column_on na_cell (columns_value texts l) (columns_value texts r) keys lefts rights place
    left_seen place = by (right_key keys place)
      where
        by : (o : Option ℕ) → column_value texts (joined_or_left Na l r lefts rights place o) ≡ joined_or_left na_cell (columns_value texts l) (columns_value texts r) lefts rights place o
        by (Some other) = grind (arith, column_seen, keys_seen)
        by None = on_seen l _ _

    columns_seen : (places : List ℕ) → columns_value texts (merged_columns Na l r keys places lefts rights) ≡ merged_columns na_cell (columns_value texts l) (columns_value texts r) keys places lefts rights
    columns_seen places = rw (map-append, map_map, map_map, length-map) (λ i. map (λ place. left_seen place i) (range_with_len 0 (length l)) ++ map (λ place. on_seen r rights place i) places)

columns_settled : (texts : List Text) (l r : List (ColumnOf Cell)) (keys : MergeKeys) (lefts rights : List (Option ℕ)) (places : List ℕ) → IsSettled columns_value texts l → IsSettled columns_value texts r
    → IsSettled columns_value texts (merged_columns Na l r keys places lefts rights)
columns_settled = grind (arith, columns_seen)

-- as they are meant
cells_meant : (left right : List CellValue) (ps : List Pair) → key_cells na_cell left right (map (λ p. p.left) ps) (map (λ p. p.right) ps) ≡ map (key_cell left right) ps
cells_meant _ _ [] = refl
cells_meant left right (p ∷ ps) = cc (cells_meant left right ps)

left_meant : (l r : Table) (ps : List Pair) (place : ℕ) (o : Option ℕ) → joined_or_left na_cell l.columns r.columns (map (λ p. p.left) ps) (map (λ p. p.right) ps) place o ≡ meant.joined_or_left l r ps place o
left_meant = grind (arith, cells_meant)

columns_meant : (l r : Table) (keys : MergeKeys) (ps : List Pair) → merged_columns na_cell l.columns r.columns keys (right_places r keys) (map (λ p. p.left) ps) (map (λ p. p.right) ps)
    ≡ map (left_column l r keys ps) (all_places l) ++ map (column_of_side r (map (λ p. p.right) ps)) (right_places r keys)
columns_meant l r keys ps = λ i. map (λ place. left_meant l r ps place (right_key keys place) i) (all_places l) ++ map (column_of_side r (map (λ p. p.right) ps)) (right_places r keys)

-- as many numbered rows
rows_numbered : (count : ℕ) → length (range_axis count).tuples ≡ count
rows_numbered = grind (arith, length-map, length-map-range_with_len)

-- the columns of the right side are its own
rights_below : (r : Table) (keys : MergeKeys) → All (λ place. place < length r.columns) (right_places r keys)
rights_below r keys = All-filter _ (λ place. place < length r.columns) _ (below_range (length r.columns))

pub rights_inside : (texts : List Text) (r : NumberedTable) (keys : MergeKeys) (rights : List ℕ) → rights ≡ right_places (table_value texts r) keys → All (λ place. place < length r.columns) rights
rights_inside texts r keys _ is = rw is (subst (λ n. All (λ place. place < n) (right_places (table_value texts r) keys)) (length-map r.columns _) (rights_below (table_value texts r) keys))

-- each column has a label
some_suffixed : (suffix : Text) (others : List (Option LabelValue)) (h : Option LabelValue) → IsSome h → IsSome (suffixed_heading suffix others h)
some_suffixed = grind arith

module _ (l r : Table) (keys : MergeKeys) (of_left : All IsSome l.headings) (of_right : All IsSome r.headings) (left_counted : length l.headings ≡ length l.columns) (right_counted : length r.headings ≡ length r.columns) where
  some_at : (t : Table) → All IsSome t.headings → length t.headings ≡ length t.columns → (place : ℕ) → place < length t.columns → IsSome (heading_at t place)
  some_at = grind arith

  all_labelled : All IsSome (merged_headings l r keys)
  all_labelled =
      All-append IsSome _ _
      (All-map IsSome _ _ (λ k d lt.
      let place = slice_index_or (all_places l) k d in
      let some = some_at l of_left left_counted _ (below_range (length l.columns) k d lt) in
      grind (arith, some_suffixed)))
      (All-map IsSome _ _ (λ k d lt. some_suffixed _ _ _ (some_at r of_right right_counted _ (rights_below r keys k d lt))))

-- the same by numbers
module _ (texts : List Text) where
  headings_some : (hs : List (Option Label)) → All IsSome hs → All IsSome (headings_value texts hs)
  headings_some _ all = All-map IsSome _ _ (λ k d lt. grind (arith, all k d lt))

  some_headings : (hs : List (Option Label)) → All IsSome (headings_value texts hs) → All IsSome hs
  some_headings hs all = λ k d lt. grind (arith, subst IsSome (get_or-map (heading_value texts) hs k d) (all k _ (omega (arith, length-map hs (heading_value texts), lt))))

-- the rows of both sides, pair by pair
left_pairs : (ls rs : List (Option ℕ)) → length rs ≡ length ls → ls ≡ map (λ (p : Pair). p.left) (map (λ (rows : Option ℕ × Option ℕ). pair rows.0 rows.1) (zip ls rs))
left_pairs [] rs _ = refl
left_pairs (l ∷ ls) [] same = absurd (omega (arith, same))
left_pairs (l ∷ ls) (r ∷ rs) same = ap (λ more. l ∷ more) (left_pairs ls rs (omega (arith, same)))

right_pairs : (ls rs : List (Option ℕ)) → length rs ≡ length ls → rs ≡ map (λ (p : Pair). p.right) (map (λ (rows : Option ℕ × Option ℕ). pair rows.0 rows.1) (zip ls rs))
right_pairs [] [] _ = refl
right_pairs [] (r ∷ rs) same = absurd (omega (arith, same))
right_pairs (l ∷ ls) [] same = absurd (omega (arith, same))
right_pairs (l ∷ ls) (r ∷ rs) same = ap (λ more. r ∷ more) (right_pairs ls rs (omega (arith, same)))

pairs_again : (ps : List Pair) → map (λ (rows : Option ℕ × Option ℕ). pair rows.0 rows.1) (zip (map (λ (p : Pair). p.left) ps) (map (λ (p : Pair). p.right) ps)) ≡ ps
pairs_again [] = refl
pairs_again (p ∷ ps) = ap (λ more. p ∷ more) (pairs_again ps)

pairs_are : (made : Pairs) (ps : List Pair) → ArePairs made ps → pairs_value made ≡ ps
pairs_are made ps are = (λ i. map (λ rows. pair rows.0 rows.1) (zip (are.left i) (are.right i))) ∙ pairs_again ps

-- the frame that is meant, of pairs of rows
module _ (old : List Text) (l r : NumberedTable) (numbers : NumberedKeys) (made : Pairs) (known : record { left : IsKnownTable old l; right : IsKnownTable old r; frames : (l.shape ≡ Frame) × (r.shape ≡ Frame); keys : AreAlike l r numbers; rows : AreRowsMet l r made }) where
  abbrev L : Table
  L = table_value old l

  abbrev R : Table
  R = table_value old r

  abbrev keys : MergeKeys
  keys = keys_value numbers

  abbrev ps : List Pair
  ps = pairs_value made

  abbrev frame_meant : Table
  frame_meant = merged L R keys ps

  abbrev answer : Result Entry FaultValue
  answer = limited frame_meant

  rows_meant : length frame_meant.labels ≡ length ps
  rows_meant = search length-map-range_with_len

  are : ArePairs made ps
  are = record { left = left_pairs made.left made.right known.rows.same; right = right_pairs made.left made.right known.rows.same }

  -- with labels that are made
  module _ (new : List Text) (labels slice : List (Option Label)) (labelled : record { longer : IsLonger old new; given : IsSettled headings_value new labels; labels : headings_value new labels ≡ merged_headings L R keys }) (sliced : slice ≡ labels)
      (count : ℕ) (counted : count ≡ length made.left) where
    headed : length frame_meant.columns ≡ length labels
    headed = grind (arith, length-append, length-map)

    rows_are : count ≡ length ps
    rows_are = counted ∙ ap length are.left ∙ length-map ps _

    pub beyond_so : within_limits count (length labels) ≡ false → Makes new (Err (Refused Limit)) answer
    beyond_so = grind (arith, headed, rows_meant, rows_are)

    -- its columns and rows
    module _ (rights : List ℕ) (counted_right : ℕ) (kept : rights ≡ filter (is_other keys.right) (range_with_len 0 counted_right)) (columns : counted_right ≡ length r.columns) (a b called : Option Label) (a_is : a ≡ l.columns_name) (b_is : b ≡ r.columns_name) (named : record { name : heading_value old called ≡ common_name (heading_value old a) (heading_value old b); settled : IsSettled heading_value old called })
        (axis : AxisValue) (axis_is : axis ≡ range_axis count) (headings : HeadingList) (headings_are : headings ≡ record { columns_name = called; labels = slice }) (blocks : List CellBlock) (blocks_are : columns_of blocks ≡ merged_columns Na l.columns r.columns keys rights made.left made.right) where
      abbrev whole : NumberedTable
      whole = record {
        shape = Frame;
        columns_name = called;
        level_names = (range_axis count).names;
        labels = (range_axis count).tuples;
        headings = labels;
        columns = merged_columns Na l.columns r.columns keys rights made.left made.right;
      }

      rights_are : rights ≡ right_places R keys
      rights_are = others_meant old r _ _ _ kept columns

      columns_are : columns_value new (merged_columns Na l.columns r.columns keys rights made.left made.right) ≡ frame_meant.columns
      columns_are = grind (arith, are, rights_are, columns_seen, seen_later, columns_part, columns_meant)

      whole_seen : table_value new whole ≡ frame_meant
      whole_seen = λ i. record {
        shape = Frame;
        columns_name = (seen_later heading_value old new _ labelled.longer named.settled ∙ named.name ∙ (λ j. common_name (heading_value old (a_is j)) (heading_value old (b_is j)))) i;
        level_names = None ∷ [];
        labels = (default_seen new _ ∙ ap default_labels rows_are) i;
        headings = labelled.labels i;
        columns = columns_are i;
      }

      whole_settled : IsSettled table_value new whole
      whole_settled =
          table_settled _ whole (settled_later heading_value old new called labelled.longer named.settled) (λ more. refl) (λ more. search default_seen) labelled.given
          (search (columns_settled, settled_later, columns_part))

      -- the frame that is made is the one that is frame_meant
      pub made_is : within_limits count (length labels) ≡ true → (made' : NumberedTable) → made' ≡ table_of Frame axis headings blocks → Makes new (Ok made') answer
      made_is = grind (arith, limited_within, headed, rows_meant, rows_are, whole_seen, whole_settled)

      labels_some : All IsSome labels
      labels_some =
          some_headings _ _ (subst (All IsSome) (sym labelled.labels)
          (all_labelled L R _ (headings_some _ _ (known.left.whole.headings.labelled known.frames.0)) (headings_some _ _ (known.right.whole.headings.labelled known.frames.1))
          (search (length-map, known.left.whole.headed))
          (search (length-map, known.right.whole.headed))))

      -- its parts fit
      pub parts_fit : IsWhole (table_of Frame axis headings blocks)
      parts_fit =
          let same = known.rows.same in
          grind (arith, labels_some, length-map, length-append, whole_seen, rows_numbered, columns_counted, frame_heads)

-- the same of rows that are met
module _ (old : List Text) (l r : NumberedTable) (numbers : NumberedKeys) (how : How) (once : Validate) (most : ℕ) (met : Option Pairs)
    (found : MeetsBy old most (Ok met) (repeated_in once (table_value old l) (table_value old r) (keys_value numbers)) (pairs_in how (table_value old l) (table_value old r) (keys_value numbers))) where
  abbrev l_met : Table
  l_met = table_value old l

  abbrev r_met : Table
  r_met = table_value old r

  abbrev keys_met : MergeKeys
  keys_met = keys_value numbers

  abbrev pairs_met : List Pair
  pairs_met = pairs_in how l_met r_met keys_met

  abbrev frame_met : Table
  frame_met = merged l_met r_met keys_met pairs_met

  abbrev answer_met : Result Entry FaultValue
  answer_met = merged_rows l_met r_met how once keys_met

  limited_by : answer_met ≡ limited frame_met
  limited_by = grind (arith, found.0)

  pub many_so : (rights : List ℕ) (counted_right : ℕ) → rights ≡ filter (is_other keys_met.right) (range_with_len 0 counted_right) → counted_right ≡ length r.columns → (columns : ℕ) → columns ≡ min (length l.columns + length rights) (2 ^ 64 - 1)
      → ((rows : ℕ) → within_limits rows columns ≡ (nat_le rows most && nat_le columns (2 ^ 16))) → met ≡ None → Makes old (Err (Refused Limit)) answer_met
  many_so rights _ kept right_columns columns sum law is =
      let many : most < length pairs_met = rw is at found.1 in
      let others : rights ≡ right_places r_met keys_met = others_meant old r _ _ _ kept right_columns in
      let rows : length frame_met.labels ≡ length pairs_met = search length-map-range_with_len in
      let all : length frame_met.columns ≡ length l.columns + length rights = grind (arith, length-append, length-map, length-range_with_len, others) in
      let beyond : within_limits (length pairs_met) (length frame_met.columns) ≡ false = grind (arith, nat_tests, law (length pairs_met), all) in
      grind (arith, limited_by, rows, beyond)

  pub met_so : (pairs : Pairs) → met ≡ Some pairs → (new : List Text) (made : Result NumberedTable OpFault) → Makes new made (limited (merged l_met r_met keys_met (pairs_value pairs))) → Makes new made answer_met
  met_so pairs is new made makes =
      let are : ArePairs pairs pairs_met = (rw is at found.1).0 in
      rw limited_by (subst (λ ps. Makes new made (limited (merged l_met r_met keys_met ps))) (pairs_are pairs _ are) makes)
