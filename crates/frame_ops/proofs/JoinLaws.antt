-- Rows that are joined, and the table of two tables on them.
use Rattle.{
  frame_parts.{proofs.Common.{◌≡◌, ◌<◌, ◌+◌, ◌≤◌, ◌^◌, ◌&&◌, ℕ, nat_tests, LabelValue, suc, List, [], ◌∷◌, length, refl, ap, arith, Option, None, Result, Ok, Err, slice_index_or, ◌∙◌, true, false, map, sym, subst, All, length-map, All-map, slice_set, list_all, Label, AreDistinct, IsLonger, AreGiven, Text, CellValue, na_cell, Binary, FaultValue, limit, then_value, HaveLevels, range_axis, Joined, AlignsBy, lists_seen, tuple_less, IsSettled, ColumnOf, NumberedTable, heading_value, tuple_value, Table, table_value, IsWhole, Entry, same_tuple, common_name, on_rows, meets, beside, Meeting, within_limits, with_columns, labels_value, headings_value, Makes, columns_value, OpFault, table_with, block_column, table_settled, columns_part, columns_name_part, headings_part, columns_given, MakesBy, Refused, NoMemory, AxisValue, axis_of, blocks_value, AreColumns, tuple_by_number, tuples_settled, settled_tuples, made_is_meant, made_is_settled, refused_on, on_rows_given, on_rows_seen, CellBlock, IsPlaceOf}, specs.{Faults.{align_refusal}, form.Infix.{tuple_before, common_names, joined_rows, joined_columns, with_joined, joined_infix}}},
  column_core.proofs.cells.Common.{below_more},
  std.proofs.Common.{nat_le, get_or-set_other, get_or-set_same},
  label_align.{proofs.{index_core.RangeLaws.{length-range_labels}, align.{InsideLaws.{AreInside, joined_inside}, SeenLaws.{answer_seen, outer_seen}}}, specs.{align.{Faults.{AlignRefusal, met_rows}, Joins.{Entry as MetEntry, Lists, lists_of, most_rows, within, outer_within, outer_entries}}, declared.fault.AlignFault.{AlignFault, TheVariants.{DuplicateLabels, TooLarge, NoMemory as WantOfMemory}}}},
  row_keys.specs.Keys.{same_tuple as same_numbers},
  frame_ops.{specs.{Joining.{joined_value, joined_within, side_on}, declared.{naming.Naming.{Naming}, other.Other.TheVariants.{Beside}}, Namings.{headings_by, named_by, IsSettledNaming}, Pairs.{all_met, kinds_meet, columns_meant, columns_for}}, proofs.{MeetingLaws.{kinds_seen, table_meant, beside_meetings}, HeadingLaws.{named_settled}}},
}
use Rattle.frame_store.specs.tables.Value as value

-- a tuple of so many labels, whose texts were given
abbrev pub IsKept : List Text → ℕ → List Label → Type 0
IsKept texts levels tuple = (length tuple ≡ levels) × IsSettled tuple_value texts tuple

-- entries that are no more than so many are no more than a table may have rows
pub few_rows : {K : Type 0} (most : ℕ) (entries : List (MetEntry K)) (rows : Lists K) → most ≤ 2 ^ 26 → within most entries ≡ Ok rows → within most_rows entries ≡ Ok rows
few_rows = grind (arith, nat_tests)

few_joined : (most : ℕ) (entries : List (MetEntry (List LabelValue))) (rows : Lists (List LabelValue)) → most ≤ 2 ^ 26 → met_rows (within most entries) ≡ Ok rows → met_rows (within most_rows entries) ≡ Ok rows
few_joined = grind (arith, nat_tests)

-- rows that are so many at most are the rows of both tables
pub rows_found : (texts : List Text) (a b : NumberedTable) (most : ℕ) → most ≤ 2 ^ 26 → (x y : AxisValue) → x ≡ axis_of a → y ≡ axis_of b → (made : Joined)
    → joined_within most (labels_value texts x.tuples) (labels_value texts y.tuples) ≡ Ok (joined_value texts made) → (axis : AxisValue) → axis.tuples ≡ made.axis.tuples
    → joined_rows (table_value texts a).labels (table_value texts b).labels ≡ Ok (joined_value texts (record { axis = axis; left = made.left; right = made.right }))
rows_found texts a b most few x y x_is y_is made is axis same =
    let met = few_joined most (outer_entries same_tuple tuple_before (labels_value texts a.labels) (labels_value texts b.labels)) (joined_value texts made) few (rw (x_is, y_is) at is) in
    rw same met

-- the join by numbers is the join by texts
module _ (texts : List Text) (a b : List (List Label)) (distinct : AreDistinct texts) (given : IsSettled labels_value texts a) (given' : IsSettled labels_value texts b) where
  abbrev numbers : ℕ → Result (Lists (List Label)) (AlignRefusal (List Label))
  numbers most = outer_within most same_numbers (tuple_less texts) a b

  seen : (most : ℕ) → outer_within most same_tuple tuple_before (labels_value texts a) (labels_value texts b) ≡ answer_seen (tuple_value texts) (numbers most)
  seen =
      outer_seen _ _ _ _ _ _ (λ x y h k. tuple_by_number _ x y distinct h k) (λ x y h k. refl) a b
      (tuples_settled _ a given) (tuples_settled _ b given')

  pub rows_meant : (most : ℕ) (rows : Joined) → numbers most ≡ Ok (lists_seen rows) → joined_within most (labels_value texts a) (labels_value texts b) ≡ Ok (joined_value texts rows)
  rows_meant most _ is = grind (arith, seen most)

  pub rows_refused : (most : ℕ) (fault : AlignFault) → AlignsBy lists_seen (Err fault) (numbers most) → MakesBy joined_value texts (Err (align_refusal fault)) (joined_within most (labels_value texts a) (labels_value texts b))
  rows_refused _ (DuplicateLabels key) is = grind arith
  rows_refused most TooLarge is = grind (arith, seen most)
  rows_refused _ WantOfMemory _ = tt

  pub rows_inside : (most : ℕ) → most ≤ 2 ^ 26 → (levels : ℕ) → HaveLevels levels a → HaveLevels levels b → (rows : Joined) → numbers most ≡ Ok (lists_seen rows) → AreInside (IsKept texts levels) (length a) (length b) (lists_seen rows)
  rows_inside most few levels alike alike' rows is =
      let met = few_rows most (outer_entries same_numbers (tuple_less texts) a b) (lists_seen rows) few is in
      search (joined_inside, tuples_settled)

pub joined_given : (texts : List Text) (levels m n : ℕ) (rows : Joined) → AreInside (IsKept texts levels) m n (lists_seen rows) → IsSettled labels_value texts rows.axis.tuples
joined_given _ _ m n _ h = settled_tuples _ _ (λ k d lt. (h.keyed k d lt).1)

-- the names of levels, one more of them
pub one_named : (P : ℕ → Option Label → Type 0) (names names' : List (Option Label)) (level : ℕ) (name : Option Label) → names' ≡ slice_set names level name → level < length names
    → ((k : ℕ) → k < level → P k (slice_index_or names k None)) → P level name → (k : ℕ) → k < level + 1 → P k (slice_index_or names' k None)
one_named P = grind (arith, below_more, get_or-set_other, get_or-set_same)

module _ (texts : List Text) where
  -- all names are those that both sides have
  pub all_named : (names as' bs : List (Option Label)) → length names ≡ length as' → length as' ≡ length bs
      → ((k : ℕ) → k < length names → heading_value texts (slice_index_or names k None) ≡ common_name (heading_value texts (slice_index_or as' k None)) (heading_value texts (slice_index_or bs k None)))
      → headings_value texts names ≡ common_names (headings_value texts as') (headings_value texts bs)
  all_named [] [] [] same same' each = refl
  all_named [] [] (b ∷ bs) same same' each = search
  all_named [] (a ∷ as') _ same same' each = search
  all_named (n ∷ names) [] _ same same' each = search
  all_named (n ∷ names) (a ∷ as') [] same same' each = search
  all_named (n ∷ names) (a ∷ as') (b ∷ bs) same same' each =
      let here = each 0 (omega arith) in
      search (all_named names as' bs (omega (arith, same)) (omega (arith, same')) (λ k lt. each (suc k) (omega arith)))

  pub names_given : (names : List (Option Label)) → ((k : ℕ) → k < length names → IsSettled heading_value texts (slice_index_or names k None)) → IsSettled headings_value texts names
  names_given [] _ = λ more. refl
  names_given (n ∷ names) each = λ more j. each 0 (omega arith) more j ∷ names_given names (λ k lt. each (suc k) (omega arith)) more j

-- the kinds stay on other rows
pub kinds_on : (op : Binary) (l r : List (Option ℕ)) (as' bs : List (ColumnOf CellValue)) → list_all (meets op) (beside (on_rows na_cell l as') (on_rows na_cell r bs)) ≡ list_all (meets op) (beside as' bs)
kinds_on _ l r [] _ = refl
kinds_on _ l r (a ∷ as') [] = refl
kinds_on op l r (a ∷ as') (b ∷ bs) = cc (kinds_on op l r as' bs)

pub length-beside : (as' bs : List (ColumnOf CellValue)) → length bs ≡ length as' → length (beside as' bs) ≡ length as'
length-beside [] _ _ = refl
length-beside (a ∷ as') [] same = search
length-beside (a ∷ as') (b ∷ bs) same = ap suc (length-beside as' bs (omega (arith, same)))

pub rows_numbered : (count : ℕ) → length (range_axis count).tuples ≡ count
rows_numbered = grind (arith, length-map, length-range_labels)

-- rows that are more than a table of so many columns may have are beyond the limits
module _ (op : Binary) (v w t : Table) (same : length w.columns ≡ length v.columns) (kinds : list_all (meets op) (beside v.columns w.columns) ≡ true)
    (most : ℕ) (law : (rows : ℕ) → within_limits rows (length v.columns) ≡ (nat_le rows most && nat_le (length v.columns) (2 ^ 16))) where
  many_joined : (rows : Lists (List LabelValue)) → most < length rows.keys → joined_infix op v w t rows ≡ Err limit
  many_joined rows many =
      grind (arith, nat_tests, kinds_on op rows.left rows.right v.columns w.columns, length-beside, length-map, law (length rows.keys))

  many_entries : (entries : List (MetEntry (List LabelValue))) (f : FaultValue) → met_rows (within most entries) ≡ Err f → then_value (met_rows (within most_rows entries)) (joined_infix op v w t) ≡ Err f
  many_entries entries _ = grind (arith, nat_tests, many_joined (lists_of entries), length-map)

  refused_so : (texts : List Text) (fault : OpFault) → MakesBy joined_value texts (Err fault) (joined_within most v.labels w.labels) → Makes texts (Err fault) (then_value (joined_rows v.labels w.labels) (joined_infix op v w t))
  refused_so texts (Refused code) h = (many_entries (outer_entries same_tuple tuple_before v.labels w.labels) _ h.0, h.1)
  refused_so _ NoMemory _ = tt

-- and so they are of two tables whose columns the operator takes
pub rows_beyond : (op : Binary) (texts : List Text) (a b : NumberedTable) (t : Table) → length b.columns ≡ length a.columns → list_all (kinds_meet op) (all_met a (Beside b)) ≡ true
    → (most count : ℕ) → count ≡ length a.columns → ((rows : ℕ) → within_limits rows count ≡ (nat_le rows most && nat_le count (2 ^ 16)))
    → (x y : AxisValue) → x ≡ axis_of a → y ≡ axis_of b → (made : Result Joined OpFault) (fault : OpFault) → made ≡ Err fault
    → MakesBy joined_value texts made (joined_within most (labels_value texts x.tuples) (labels_value texts y.tuples))
    → Makes texts (Err fault) (then_value (joined_rows (table_value texts a).labels (table_value texts b).labels) (joined_infix op (table_value texts a) (table_value texts b) t))
rows_beyond op texts a b t columns kinds most count counted law x y x_is y_is made fault is makes =
    let v = table_value texts a in
    let w = table_value texts b in
    let same : length w.columns ≡ length v.columns = grind (arith, length-map) in
    let all : list_all (meets op) (beside v.columns w.columns) ≡ true = cc (beside_meetings texts b a.columns columns, kinds_seen op texts (all_met a (Beside b))) in
    let wide : count ≡ length v.columns = grind (arith, length-map) in
    refused_so op v w t same all most (subst (λ n. (rows : ℕ) → within_limits rows n ≡ (nat_le rows most && nat_le n (2 ^ 16))) wide law) texts fault (rw (is, x_is, y_is) at makes)

-- a side on other rows is a whole table
pub side_is_whole : (t : NumberedTable) (rows : List (Option ℕ)) → IsWhole t → IsWhole (side_on t rows)
side_is_whole t rows whole = record {
  headed = search length-map;
  filled = All-map (λ c. length c.cells ≡ length (range_axis (length rows)).tuples) _ t.columns (λ k d lt. grind (arith, length-map, rows_numbered));
  headings = whole.headings;
}

-- The table of two tables whose rows are joined.
-- the columns of the sides
module _ (op : Binary) (texts : List Text) (a b : NumberedTable) (rows : Joined) (columns : length b.columns ≡ length a.columns) where
  abbrev met_columns : List Meeting
  met_columns = joined_columns (table_value texts a) (table_value texts b) (joined_value texts rows)

  abbrev left : NumberedTable
  left = side_on a rows.left

  abbrev right : NumberedTable
  right = side_on b rows.right

  -- too many cells
  pub sides_beyond : list_all (kinds_meet op) (all_met a (Beside b)) ≡ true → within_limits (length rows.axis.tuples) (length a.columns) ≡ false → columns_meant op (length rows.axis.tuples) true met_columns ≡ Err limit
  sides_beyond kinds beyond =
      let all : list_all (meets op) met_columns ≡ true = cc (kinds_on op rows.left rows.right (columns_value texts a.columns) (columns_value texts b.columns), beside_meetings texts b a.columns columns, kinds_seen op texts (all_met a (Beside b))) in
      grind (arith, length-beside, length-map)

  -- the same of tables that are the sides
  module _ (l r : NumberedTable) (is : l ≡ left) (is' : r ≡ right) (count : length rows.left ≡ length rows.axis.tuples) where
    pub meant_of : columns_for op texts l (Beside r) ≡ columns_meant op (length rows.axis.tuples) true met_columns
    meant_of = grind (arith, rows_numbered, beside_meetings, length-map, on_rows_seen)

-- the texts of a side were given
pub side_given : (texts : List Text) (t l : NumberedTable) (rows : List (Option ℕ)) → l ≡ side_on t rows → IsWhole t → IsSettled table_value texts t → All (IsPlaceOf (length t.labels)) rows → All (λ c. AreGiven texts c.cells) l.columns
side_given _ t _ _ is whole settled inside = rw is (search (on_rows_given, columns_given, columns_part))

module _ (old new : List Text) (a b : NumberedTable) (naming : Naming) (rows : Joined) where
  abbrev v : Table
  v = table_value old a

  abbrev w : Table
  w = table_value old b

  abbrev t : Table
  t = table_value old (named_by a naming)

  -- the left table on the joined rows, as it is meant, and by its parts
  abbrev u : Table
  u = with_joined v w t (joined_value old rows)

  abbrev framed : NumberedTable
  framed = table_with a.shape rows.axis (headings_by a naming) a.columns

  module _ (op : Binary) (is : joined_rows v.labels w.labels ≡ Ok (joined_value old rows)) where
    abbrev met_meant : Result (List (ColumnOf CellValue)) FaultValue
    met_meant = columns_meant op (length rows.axis.tuples) true (joined_columns v w (joined_value old rows))

    abbrev meant : Result Entry FaultValue
    meant = then_value (joined_rows v.labels w.labels) (joined_infix op v w t)

    columns_as : then_value met_meant (λ columns. Ok (value.table (with_columns u columns))) ≡ meant
    columns_as = grind (arith, table_meant, length-map)

    -- a refusal
    pub joined_refused : (made : Result (List CellBlock) OpFault) (fault : OpFault) → made ≡ Err fault → MakesBy blocks_value new made met_meant → Makes new (Err fault) meant
    joined_refused _ fault was makes = subst (Makes new (Err fault)) columns_as (search refused_on)

    module _ (settled : IsSettled table_value old a) (name : IsSettledNaming old naming) (given : IsSettled labels_value old rows.axis.tuples) (given' : IsSettled headings_value old rows.axis.names) where
      framed_settled : IsSettled table_value old framed
      framed_settled =
          let named = named_settled _ a _ settled name in
          grind (arith, table_settled, columns_name_part, headings_part, columns_part)

      pub joined_makes : (blocks : List CellBlock) (made : NumberedTable) → made ≡ table_with a.shape rows.axis (headings_by a naming) (map block_column blocks) → headings_value old rows.axis.names ≡ common_names v.level_names w.level_names
          → IsLonger old new → MakesBy blocks_value new (Ok blocks) met_meant → AreColumns new (length rows.axis.tuples) (length a.columns) blocks → Makes new (Ok made) meant
      joined_makes _ _ made_is names longer are columns =
          rw made_is (
            sym columns_as
                ∙ (λ i. then_value met_meant (λ columns. Ok (value.table (with_columns (record t { labels = labels_value old rows.axis.tuples; level_names = sym names i }) columns))))
                ∙ made_is_meant old new framed _ _ _ longer framed_settled are,
            made_is_settled old new framed _ _ _ _ longer framed_settled columns,
          )
