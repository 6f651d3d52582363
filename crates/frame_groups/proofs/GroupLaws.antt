-- Tables that have a row for each group.
use Rattle.{
  frame_parts.proofs.Common.{arith, ◌≡◌, ◌∙◌, refl, ap, sym, ℕ, Bool, true, false, ◌&&◌, List, [], ◌∷◌, ◌++◌, map, length, All, Option, None, if◌then◌else◌, length-map, length-append, map-append, length-map-range_with_len, All-append, IsSome, list_all, Label, WrongKind, Frame, Text, CellValue, LabelValue, AreGiven, then_value, CellBlock, CellColumn, IsSettled, ColumnOf, NumberedTable, Table, table_value, heading_value, column_value, IsWhole, AxisValue, range_axis, default_labels, column_of_value, blocks_value, default_seen, table_column, AreColumnsOf, headings_value, labels_value, Refuses, columns_name_part, unless_repeated},
  frame_parts.specs.form.Finish.{first_shared},
  frame_labels.{proofs.{IndexingLaws.{labelled, headings_seen}, GroupLaws.{key_labels_settled}}, specs.{Levels.{row_labels}, method.Groups.{keys_of, groups_of, headings_of, grouped_rows, group_answer}}},
  frame_select.specs.{select.Select.{shown_as}, Selected.{headings_at}},
  factorize.specs.group.{Rows.{GroupsValue}, Reductions.{group_sizes}},
  group_by.specs.{declared.ops.GroupOp.{GroupOp}, Operations.{reduction_of}},
  frame_groups.{specs.{declared.{columns.ColumnCall.TheVariants.{Reduced}, grouping.Grouping.{Grouping}, values.Values.{Values}}, Columns.{takes_at, made_at, AreBlocks}, Grouped.{grouping_seen, values_seen}, Tables.{HasHeadings, IsAxis, group_labels, group_names, key_headings, group_headings, shared_key, group_keys}}, proofs.{ColumnLaws.{if_taken, each_is, boxed, one_more_block, one_more_value}, ShownLaws.{IsMade}, RowLaws.{headings_are, own_settled}}},
}
use Rattle.column_core.specs.Columns as kernel
use Rattle.frame_labels.specs.method.Groups as meant

-- the table of groups, whether the keys are labels or columns
abbrev headings_by : Bool → Table → List ℕ → List (Option LabelValue) → List (Option LabelValue)
headings_by b t keys hs = if b then hs else headings_of t keys ++ hs

abbrev keys_by : Bool → Table → List ℕ → List (Option LabelValue)
keys_by b t keys = if b then [] else headings_of t keys

abbrev pub group_table : Table → meant.Grouping → List (Option LabelValue) → List (ColumnOf CellValue) → Table
group_table t g hs columns =
    record {
      shape = Frame;
      columns_name = t.columns_name;
      level_names = group_names t g;
      labels = group_labels t g;
      headings = headings_by g.as_index t g.keys hs;
      columns = group_keys t g ++ columns;
    }

module _ (t : Table) (g : meant.Grouping) (single : Bool) (hs : List (Option LabelValue)) (columns : List (ColumnOf CellValue)) where
  pub grouped_is : grouped_rows t g single hs columns ≡ unless_repeated (first_shared (keys_by g.as_index t g.keys) hs) (shown_as false (single && g.as_index) (group_table t g hs columns))
  grouped_is = grind arith

-- how many rows it has
pub rows_counted : (t : Table) (g : meant.Grouping) → length (group_labels t g) ≡ length (keys_of t g)
rows_counted = grind (arith, length-map-range_with_len)

-- its headings, as they are seen
module _ (texts : List Text) (t : NumberedTable) (g : Grouping) where
  abbrev T : Table
  T = table_value texts t

  abbrev by_keys : meant.Grouping
  by_keys = grouping_seen texts g

  pub group_headings_seen : (own : List (Option Label)) → headings_by g.as_index T g.keys (headings_value texts own) ≡ headings_value texts (group_headings t g own)
  group_headings_seen own = grind (arith, map-append (heading_value texts) (headings_at t g.keys) own, headings_are texts t g.keys (headings_at t g.keys) refl)

  keys_seen : keys_by g.as_index T g.keys ≡ headings_value texts (key_headings t g)
  keys_seen = grind (arith, headings_are texts t g.keys (headings_at t g.keys) refl)

  pub key_headings_settled : IsSettled table_value texts t → IsSettled headings_value texts (key_headings t g)
  key_headings_settled = grind (arith, own_settled)

  -- no key that is a column shares its label, or one does
  pub shared_is : (hs : List (Option LabelValue)) (own : List (Option Label)) → hs ≡ headings_value texts own → first_shared (keys_by g.as_index T g.keys) hs ≡ shared_key texts t g own
  shared_is hs own is = cc (keys_seen, is)

  pub group_headings_settled : (own : List (Option Label)) → IsSettled table_value texts t → IsSettled headings_value texts own → IsSettled headings_value texts (group_headings t g own)
  group_headings_settled = grind (arith, map-append, own_settled)

  pub group_headings_counted : (own : List (Option Label)) (columns : List (ColumnOf CellValue)) → length columns ≡ length own → length (group_keys T (grouping_seen texts g) ++ columns) ≡ length (group_headings t g own)
  group_headings_counted = grind (arith, length-append, length-map)

  -- the table that is made of groups
  pub group_made : (hs : List (Option LabelValue)) (columns : List (ColumnOf CellValue)) (axis : AxisValue) (name : Option Label) (labels : List (Option Label)) (blocks : List CellBlock) (rows : ℕ)
      → IsSettled table_value texts t → name ≡ t.columns_name → IsAxis texts (group_labels T by_keys) (group_names T by_keys) axis
      → headings_by g.as_index T g.keys hs ≡ headings_value texts labels → IsSettled headings_value texts labels → blocks_value texts blocks ≡ group_keys T by_keys ++ columns → AreBlocks texts rows blocks
      → IsMade texts (group_table T by_keys hs columns) axis name labels blocks
  group_made _ columns _ _ _ _ _ settled named axis_is headed given made filled = record {
    frame = refl;
    named = cc;
    axis_is = axis_is;
    headings = headed;
    columns = made;
    name_given = rw named (columns_name_part _ t settled);
    labels_given = given;
    blocks_given = filled.given;
  }

  pub sizes_seen : (groups : GroupsValue) (c : CellColumn) (block : CellBlock) (before blocks : List CellBlock) → block ≡ boxed c → blocks ≡ before ++ block ∷ [] → kernel.column_value texts c ≡ group_sizes groups
      → groups ≡ groups_of T by_keys → blocks_value texts before ≡ group_keys T by_keys
      → blocks_value texts blocks ≡ group_keys T by_keys ++ column_of_value (group_sizes (groups_of T by_keys)) ∷ []
  sizes_seen _ c _ _ _ box pushed sized is keys =
      let own : column_value texts (table_column c) ≡ column_of_value (group_sizes (groups_of T by_keys)) = grind arith in
      grind (arith, one_more_value)

-- what is meant of a reduction, by whether the kinds are taken
module _ (texts : List Text) (t : NumberedTable) (g : Grouping) (v : Values) (op : GroupOp) where
  abbrev U : Table
  U = table_value texts t

  abbrev gs : meant.Grouping
  gs = grouping_seen texts g

  abbrev pub reduced_columns : List (ColumnOf CellValue)
  reduced_columns = map (made_at (Reduced op) (groups_of U gs) U) v.places

  abbrev pub reduced_table : Table
  reduced_table = group_table U gs (headings_of U v.places) reduced_columns

  pub reduced_meant : (b : Bool) → list_all (takes_at (Reduced op) t) v.places ≡ b → group_answer U gs (values_seen texts v) (meant.reduced (reduction_of op)) ≡ then_value (if_taken b reduced_columns) (grouped_rows U gs v.single (headings_of U v.places))
  reduced_meant b is = cc (each_is texts (Reduced op) (groups_of U gs) t v.places b is)

  pub reduced_refused : list_all (takes_at (Reduced op) t) v.places ≡ false → Refuses texts WrongKind (group_answer U gs (values_seen texts v) (meant.reduced (reduction_of op)))
  reduced_refused is = search reduced_meant

  pub reduced_shown : (own : List (Option Label)) → own ≡ headings_at t v.places → list_all (takes_at (Reduced op) t) v.places ≡ true
      → group_answer U gs (values_seen texts v) (meant.reduced (reduction_of op)) ≡ unless_repeated (shared_key texts t g own) (shown_as false (v.single && g.as_index) reduced_table)
  reduced_shown own owned is =
      reduced_meant _ is ∙ grouped_is U gs _ _ _
      ∙ ap (λ shared. unless_repeated shared (shown_as false (v.single && g.as_index) reduced_table)) (shared_is texts t g _ own (headings_are texts t v.places own owned))

  pub reduced_headings : (own labels : List (Option Label)) (count : ℕ) → own ≡ headings_at t v.places → labels ≡ group_headings t g own → count ≡ length (keys_of U gs) → HasHeadings texts labels count reduced_table
  reduced_headings own _ _ owned is counted = record {
    headings = cc (headings_are texts t v.places own owned, group_headings_seen texts t g own);
    headed = group_headings_counted _ t g own _ (grind (arith, length-map)) ∙ ap (λ l. length l) (sym is);
    rows = rows_counted U gs ∙ sym counted;
  }

pub group_labelled : (t : NumberedTable) (g : Grouping) (own : List (Option Label)) → IsWhole t → t.shape ≡ Frame → AreColumnsOf t g.keys → All IsSome own → All IsSome (group_headings t g own)
group_labelled t g own whole frame below some = grind (arith, labelled, All-append IsSome (headings_at t g.keys) own)

module _ (texts : List Text) (t : NumberedTable) (g : Grouping) (heading : Option Label) (named : heading_value texts heading ≡ meant.size_heading g.as_index) where
  abbrev S : Table
  S = table_value texts t

  abbrev s : meant.Grouping
  s = grouping_seen texts g

  abbrev pub size_column : List (ColumnOf CellValue)
  size_column = column_of_value (group_sizes (groups_of S s)) ∷ []

  abbrev pub size_table : Table
  size_table = group_table S s (meant.size_heading g.as_index ∷ []) size_column

  pub size_shown : (any : meant.Values) → group_answer S s any meant.size ≡ unless_repeated (shared_key texts t g (heading ∷ [])) (shown_as false g.as_index size_table)
  size_shown any =
      grouped_is S s true _ _
      ∙ ap (λ shared. unless_repeated shared (shown_as false g.as_index size_table)) (shared_is texts t g _ (heading ∷ []) (cc named))

  pub size_headings : (labels : List (Option Label)) (count : ℕ) → labels ≡ group_headings t g (heading ∷ []) → count ≡ length (keys_of S s) → HasHeadings texts labels count size_table
  size_headings _ _ is counted = record {
    headings = cc (named, group_headings_seen texts t g (heading ∷ []));
    headed = cc (group_headings_counted texts t g (heading ∷ []) size_column refl);
    rows = rows_counted S s ∙ sym counted;
  }

-- a block more, of the sizes of the groups
pub sizes_boxed : (texts : List Text) (groups : GroupsValue) (c : CellColumn) (block : CellBlock) (before blocks : List CellBlock) → block ≡ boxed c → blocks ≡ before ++ block ∷ [] → kernel.column_value texts c ≡ group_sizes groups → AreGiven texts c.cells
    → AreBlocks texts groups.count before → AreBlocks texts groups.count blocks
sizes_boxed _ groups c _ _ _ box pushed sized given filled = one_more_block _ _ _ _ _ _ box pushed (grind (arith, length-map, length-map-range_with_len)) given filled

pub one_settled : (texts : List Text) (h : Option Label) → IsSettled heading_value texts h → IsSettled headings_value texts (h ∷ [])
one_settled = search

-- as many rows and columns
pub axis_counted : (texts : List Text) (t : Table) (g : meant.Grouping) (axis : AxisValue) → IsAxis texts (group_labels t g) (group_names t g) axis → length axis.tuples ≡ length (keys_of t g)
axis_counted = grind (arith, length-map, rows_counted)

pub blocks_counted : (texts : List Text) (blocks : List CellBlock) (columns : List (ColumnOf CellValue)) → blocks_value texts blocks ≡ columns → length blocks ≡ length columns
blocks_counted = grind (arith, length-map)

-- the axis of keys, or of numbers
abbrev labels_by : Bool → Table → meant.Grouping → List (List LabelValue)
labels_by b t g = if b then keys_of t g else default_labels (length (keys_of t g))

abbrev names_by : Bool → Table → meant.Grouping → List (Option LabelValue)
names_by b t g = if b then headings_of t g.keys else (None ∷ [])

module _ (texts : List Text) (t : NumberedTable) (g : Grouping) (axis : AxisValue) where
  abbrev A : Table
  A = table_value texts t

  abbrev IsAxisBy : Bool → Type 0
  IsAxisBy b = IsAxis texts (labels_by b A (grouping_seen texts g)) (names_by b A (grouping_seen texts g)) axis

  pub keys_axis : (firsts : List ℕ) → IsSettled table_value texts t → g.as_index ≡ true → labels_value texts (map (row_labels t g.keys) firsts) ≡ keys_of A (grouping_seen texts g)
      → axis ≡ record { tuples = map (row_labels t g.keys) firsts; names = headings_at t g.keys } → IsAxis texts (group_labels A (grouping_seen texts g)) (group_names A (grouping_seen texts g)) axis
  keys_axis _ settled by_keys labelled is =
      let seen : IsAxisBy true = record {
        labels_seen = cc;
        names_seen = grind (arith, headings_seen);
        labels_given = grind (arith, key_labels_settled);
        names_given = grind (arith, own_settled);
      } in
      search

  pub numbers_axis : (count : ℕ) → g.as_index ≡ false → count ≡ length (keys_of A (grouping_seen texts g)) → axis ≡ range_axis count → IsAxis texts (group_labels A (grouping_seen texts g)) (group_names A (grouping_seen texts g)) axis
  numbers_axis = grind (arith, default_seen)
