-- Parts one below the other: their columns, and the table of them.
use Rattle.{
  frame_parts.proofs.{label_align.OrderLaws.{below_range}, Common.{slice_get_within, get_or_from_slice_get, same_Some, length-map, length-append, length-replicate, map-append, take_more, All-tail, All-map, All-same, All-nil, All-replicate, list_all-map, nat_tests, map-map, suc, zero, ◌≡◌, ◌∙◌, ◌<◌, ◌≤◌, ◌+◌, ◌^◌, refl, ap, sym, ℕ, true, false, List, [], ◌∷◌, ◌++◌, map, take, length, replicate, unwrap_or, slice_index_or, All, Option, Some, None, Result, Ok, Err, if◌then◌else◌, arith, Bool, slice_get, option_map, list_all, flat_map, Makes, columns_value, headings_value, table_column, columns_of, table_with, HaveRows, IsKnownTable, columns_part, columns_given, columns_settled, table_settled, na_cell, CellValue, datum, LabelValue, Text, ColumnValue, wrong_kind, FaultValue, limit, Cell, Na, Kind, Label, Shape, Series, Frame, AreDistinct, AreGiven, IsGiven, CellColumn, CellBlock, all_flat, same_kind, ColumnOf, NumberedTable, column_value, column_at, heading_value, table_value, Table, IsWhole, AreHeadings, IsSettled, Entry, kind_itself, missing_column, value_of_column, try_all, within_limits, common_name, blocks_value, AxisValue, range_with_len, length-range_with_len, then_value, All-head, heading_label, Refuses}},
  column_core.proofs.cells.Common.{sum_by-cons, length-flat_map, and_parts},
  frame_concat.{proofs.{PartLaws.{Parts, Headings, none_common, column_under_seen, kind_under_seen, rows_count, levels_count, equal_counts, same_headings_seen, repeated_seen, repeated_given}, PlaceLaws.{map_given, each_of, flat_seen}}, specs.{declared.{parts.{Sought.{Sought, TheVariants.{At, Under}}, Naming.TheVariants.{Columns}}, asked.Asked.{Asked}}, Parts.{column_sought, parts_value, AreKnownParts, AreOf, name_at, same_heading, headings_of_each, repeated_in_any}, Columns.{kind_sought, fits_kind, kinds_meet, piece_from, piece_of, cells_or_missing, stacked, columns_stacked, rows_in, all_kinds_meet}, Below.{column_made, table_made, IsSoughtIn}, Asked.{asked_value, keys_value, AreKeysFor}, Axes.{axis_seen, levels_for}}},
  std.proofs.lemmas.{List.{Quantifiers.{position-Some}, Folds.{fold_stays}, Elements.{All-from_get_or}}, Bool.{and_right}},
  cell_core.specs.declared.code.Code.TheVariants.{RepeatedLabel},
  merge_concat.specs.{declared.parts.Part.{Part}, Parts.{part_kind, part_cells, cells_below, count_below}},
  meaning_method.specs.{join.Concat.{column_below, united, are_equal, first_axis}, Concat.{columns_below, column_or_missing, placed_column_below, frame_column_below, Concatenation, rows_below, table_below, finished_below, name_of_all, frames_in_order, frames_by_label, frames_below, unless_label_twice, repeated_in_any as repeated_in_any_part}},
  frame_select.proofs.PlaceLaws.{heading_settled},
}
use Rattle.column_core.specs.cells.Fault as fault
use Rattle.frame_parts.specs.form.Finish as finish

abbrev stacked_seen : List Text → Sought → Parts → ColumnValue
stacked_seen texts sought ts = record { kind = kind_sought sought ts; cells = map (datum texts) (flat_map (cells_or_missing sought) ts) }

abbrev if_meet : {A : Type 0} → Bool → A → Result A FaultValue
if_meet b a = if b then Ok a else Err wrong_kind

abbrev cells_or : Option (ColumnOf Cell) → ℕ → List Cell
cells_or o n = unwrap_or (option_map (λ c. c.cells) o) (replicate n Na)

module _ (texts : List Text) where
  missing_seen : (n : ℕ) → map (datum texts) (replicate n Na) ≡ replicate n na_cell
  missing_seen zero = refl
  missing_seen (suc n) = cc (missing_seen n)

  -- a part's column or missing cells, as the kernel takes it and with its texts
  abbrev pub seen_or : Kind → Option (ColumnOf Cell) → ℕ → ColumnOf CellValue
  seen_or kind o n = unwrap_or (option_map (column_value texts) o) (missing_column kind n)

  cells_seen : (kind : Kind) (o : Option (ColumnOf Cell)) (n : ℕ) → (seen_or kind o n).cells ≡ map (datum texts) (cells_or o n)
  cells_seen _ None n = sym (missing_seen n)
  cells_seen _ (Some c) n = refl

  kind_fits : (kind : Kind) (o : Option (ColumnOf Cell)) (n : ℕ) → same_kind kind (seen_or kind o n).kind ≡ fits_kind kind o
  kind_fits = grind (arith, kind_itself)

  module _ (sought : Sought) where
    abbrev pub seen_in : Kind → NumberedTable → ColumnOf CellValue
    seen_in kind t = seen_or kind (column_sought sought t) (length t.labels)

    abbrev seen_value : Kind → NumberedTable → ColumnValue
    seen_value kind t = value_of_column (seen_in kind t)

    all_cells : (kind : Kind) (ts : Parts) → flat_map (λ c. c.cells) (map (seen_value kind) ts) ≡ map (datum texts) (flat_map (cells_or_missing sought) ts)
    all_cells kind ts = flat_seen (datum texts) (cells_or_missing sought) (seen_value kind) (λ c. c.cells) (λ t. cells_seen kind (column_sought sought t) (length t.labels)) ts

    others_fit : (kind : Kind) (ts : Parts) → list_all (λ other. same_kind kind other.kind) (map (seen_value kind) ts) ≡ list_all (λ t. fits_kind kind (column_sought sought t)) ts
    others_fit kind ts = list_all-map (λ other. same_kind kind other.kind) (seen_value kind) ts ∙ (λ i. list_all (λ t. kind_fits kind (column_sought sought t) (length t.labels) i) ts)

    put_together : (ts : Parts) → column_below (map (seen_value (kind_sought sought ts)) ts) ≡ (if kinds_meet ts sought then Some (stacked_seen texts sought ts) else None)
    put_together [] = refl
    put_together (t ∷ ts) =
        let K = kind_sought sought (t ∷ ts) in
        grind (arith, kind_itself, others_fit K ts, all_cells K (t ∷ ts))

    -- the column that is meant, or columns of different kinds
    columns_stacked_by : (ts : Parts) → columns_below (map (seen_in (kind_sought sought ts)) ts) ≡ if_meet (kinds_meet ts sought) (column_value texts (stacked ts sought))
    columns_stacked_by ts = grind (arith, put_together ts, map-map value_of_column (seen_in (kind_sought sought ts)) ts)

-- the columns that are sought are as long as their parts
column_long : (sought : Sought) (t : NumberedTable) → IsWhole t → (o : Option (ColumnOf Cell)) → column_sought sought t ≡ o → length (cells_or o (length t.labels)) ≡ length t.labels
column_long sought t fits None is = search length-replicate
column_long (At place) t fits (Some c) is = rw (get_or_from_slice_get t.columns place c c is) at (fits.filled place c (slice_get_within t.columns place c is))
column_long (Under h) t fits (Some c) is = grind (arith, position-Some, same_Some)

lengths : (sought : Sought) (ts : Parts) → All IsWhole ts → length (flat_map (cells_or_missing sought) ts) ≡ rows_in ts
lengths _ [] _ = refl
lengths sought (t ∷ ts) all = grind (arith, length-append, sum_by-cons (λ t. length t.labels) t ts, column_long sought t (all 0 t (omega arith)) _ refl, lengths sought ts (All-tail IsWhole t ts all))

-- the pieces of parts whose columns have one kind
piece_cells : (o : Option (ColumnOf Cell)) (n : ℕ) → part_cells (piece_from o n) ≡ cells_or o n
piece_cells None n = refl
piece_cells (Some c) n = refl

piece_fits : (kind : Kind) (o : Option (ColumnOf Cell)) (n : ℕ) → fits_kind kind o ≡ true → part_kind kind (piece_from o n) ≡ kind
piece_fits kind None n fits = refl
piece_fits kind (Some c) n fits = grind arith

all_fit : (sought : Sought) (kind : Kind) (ts : Parts) → list_all (λ t. fits_kind kind (column_sought sought t)) ts ≡ true → All (λ part. part_kind kind part ≡ kind) (map (piece_of sought) ts)
all_fit _ _ [] fit = grind arith
all_fit sought kind (t ∷ ts) fit = grind (arith, and_parts, piece_fits kind (column_sought sought t) (length t.labels), all_fit sought kind ts)

below_is : (sought : Sought) (ts : Parts) → cells_below (map (piece_of sought) ts) ≡ flat_map (cells_or_missing sought) ts
below_is _ [] = refl
below_is sought (t ∷ ts) = cc (piece_cells (column_sought sought t) (length t.labels), below_is sought ts)

module _ (sought : Sought) (ts : Parts) (pieces : List Part) where
  pub pieces_fit : (kind : Kind) → kinds_meet ts sought ≡ true → kind ≡ kind_sought sought ts → pieces ≡ map (piece_of sought) ts → All (λ part. part_kind kind part ≡ kind) pieces
  pieces_fit kind meet same are = rw (are, same) (all_fit sought (kind_sought sought ts) ts meet)

  pub pieces_counted : pieces ≡ map (piece_of sought) ts → All IsWhole ts → count_below pieces ≡ rows_in ts
  pieces_counted are all = grind (arith, are, length-flat_map part_cells (map (piece_of sought) ts), below_is sought ts, lengths sought ts all)

  pub stacked_is : (kind : Kind) (column : CellColumn) → kind ≡ kind_sought sought ts → pieces ≡ map (piece_of sought) ts → column ≡ record { kind = kind; cells = cells_below pieces } → table_column column ≡ stacked ts sought
  stacked_is kind column same are made = grind (arith, same, are, made, below_is sought ts)

-- one column more
pub one_more_stacked : (texts : List Text) (ts : Parts) (columns : List Sought) (k : ℕ) (d sought : Sought) (made made' : List CellBlock) (block : CellBlock) (column : CellColumn) → k < length columns → sought ≡ slice_index_or columns k d
    → table_column column ≡ stacked ts sought → block ≡ record { kind = column.kind; rows = length column.cells; columns = column.cells ∷ [] } → made' ≡ made ++ block ∷ []
    → blocks_value texts made ≡ columns_value texts (columns_stacked ts (take k columns)) → blocks_value texts made' ≡ columns_value texts (columns_stacked ts (take (k + 1) columns))
one_more_stacked _ _ columns k d _ _ _ _ _ lt = grind (arith, map-append, take_more columns k d lt)

module _ (texts : List Text) where
  -- the column at a place that a part has
  placed_column : (kind : Kind) (cs : List (ColumnOf Cell)) (n place : ℕ) → place < length cs → column_at (columns_value texts cs) place ≡ seen_or texts kind (slice_get cs place) n
  placed_column kind [] n place lt = grind arith
  placed_column kind (c ∷ cs) n zero lt = refl
  placed_column kind (c ∷ cs) n (suc k) lt = placed_column kind cs n k (omega (arith, lt))

  -- the columns at a place that all parts have
  placed_columns : (ts : Parts) (place : ℕ) → All (λ t. place < length t.columns) ts → placed_column_below (parts_value texts ts) place ≡ if_meet (kinds_meet ts (At place)) (column_value texts (stacked ts (At place)))
  placed_columns ts place within =
      let K = kind_sought (At place) ts in
      ap columns_below (map-map _ (table_value texts) ts ∙ map_given (λ t. place < length t.columns) _ (seen_in texts (At place) K) (λ t lt. placed_column K t.columns (length t.labels) place lt) ts within)
      ∙ columns_stacked_by texts (At place) ts

  module _ (distinct : AreDistinct texts) where
    -- the column of a heading of frames
    module _ (h : Option Label) (here : IsSettled heading_value texts h) where
      part_of_frame : (kind : Kind) (t : NumberedTable) → IsKnownTable texts t → column_or_missing (heading_value texts h) kind (table_value texts t) ≡ seen_in texts (Under h) kind t
      part_of_frame = grind (arith, unwrap_or, column_under_seen, length-map)

      frame_column : (ts : Parts) → AreKnownParts texts ts → frame_column_below (parts_value texts ts) (heading_value texts h) ≡ if_meet (kinds_meet ts (Under h)) (column_value texts (stacked ts (Under h)))
      frame_column ts known =
          (λ i. columns_below (map (column_or_missing (heading_value texts h) (kind_under_seen _ distinct h here ts known i)) (parts_value texts ts)))
          ∙ ap columns_below (map-map _ (table_value texts) ts ∙ map_given (IsKnownTable texts) _ (seen_in texts (Under h) _) (part_of_frame _) ts known)
          ∙ columns_stacked_by _ (Under h) ts

    -- the columns that are sought, or kinds that don't meet
    column_meant : (ts : Parts) (sought : Sought) → IsSoughtIn texts ts sought → AreKnownParts texts ts → column_made texts (parts_value texts ts) sought ≡ if_meet (kinds_meet ts sought) (column_value texts (stacked ts sought))
    column_meant ts (At place) within known = placed_columns ts place within
    column_meant ts (Under h) here known = frame_column h here ts known

    columns_meant : (ts : Parts) (columns : List Sought) → All (IsSoughtIn texts ts) columns → AreKnownParts texts ts
        → try_all (column_made texts (parts_value texts ts)) columns ≡ if_meet (all_kinds_meet ts columns) (columns_value texts (columns_stacked ts columns))
    columns_meant _ [] _ _ = refl
    columns_meant ts (sought ∷ columns) all known = grind (arith, column_meant ts sought (All-head (IsSoughtIn texts ts) sought columns all) known, columns_meant ts columns (All-tail (IsSoughtIn texts ts) sought columns all) known)

-- the cells that are put together were given
abbrev IsGivenColumn : List Text → ColumnOf Cell → Type 0
IsGivenColumn texts c = AreGiven texts c.cells

abbrev cells_given_or : List Text → Option (ColumnOf Cell) → ℕ → Type 0
cells_given_or texts o n = AreGiven texts (unwrap_or (option_map (λ c. c.cells) o) (replicate n Na))

module _ (texts : List Text) where
  place_given : (cs : List (ColumnOf Cell)) (n k : ℕ) → All (IsGivenColumn texts) cs → cells_given_or texts (slice_get cs k) n
  place_given [] n k _ = All-replicate (IsGiven texts) n Na tt
  place_given (c ∷ cs) n zero all = all 0 c (omega arith)
  place_given (c ∷ cs) n (suc k) all = place_given cs n k (All-tail (IsGivenColumn texts) c _ all)

  index_given : (cs : List (ColumnOf Cell)) (k : ℕ) → All (IsGivenColumn texts) cs → IsGivenColumn texts (column_at cs k)
  index_given [] k _ = All-nil _
  index_given (c ∷ cs) zero all = all 0 c (omega arith)
  index_given (c ∷ cs) (suc k) all = index_given cs k (All-tail (IsGivenColumn texts) c _ all)

  part_given : (sought : Sought) (t : NumberedTable) → IsKnownTable texts t → AreGiven texts (cells_or_missing sought t)
  part_given (At place) t known = search (place_given, columns_given, columns_part)
  part_given (Under h) t known = go _
    where
      go : (p : Option ℕ) → cells_given_or texts (option_map (column_at t.columns) p) (length t.labels)
      go None = All-replicate (IsGiven texts) _ _ tt
      go (Some k) = search (index_given, columns_given, columns_part)

-- blocks of the columns that are sought
abbrev pub AreStacked : Parts → List Sought → List CellBlock → Type 0
AreStacked parts columns blocks = (texts : List Text) → blocks_value texts blocks ≡ columns_value texts (columns_stacked parts columns)

module _ (parts : Parts) (columns : List Sought) (blocks : List CellBlock) (made : AreStacked parts columns blocks) where
  blocks_given : (texts : List Text) → AreKnownParts texts parts → IsSettled columns_value texts (columns_of blocks)
  blocks_given texts known = λ more.
      made _
      ∙ columns_settled _ _ (All-map (IsGivenColumn texts) (stacked parts) columns (λ k d lt. all_flat (IsGiven texts) (IsKnownTable texts) _ (part_given texts _) parts known)) more
      ∙ sym (made _)

  abbrev IsLong : ColumnOf CellValue → Type 0
  IsLong c = length c.cells ≡ rows_in parts

  blocks_filled : All IsWhole parts → HaveRows (rows_in parts) (columns_of blocks)
  blocks_filled whole = λ k d lt.
      sym (length-map _ (datum []))
      ∙ each_of IsLong (column_value []) (columns_of blocks) (All-same IsLong _ _ (made []) (All-map IsLong _ _ (All-map (λ c. IsLong (column_value [] c)) _ _ (λ k d lt. length-map _ _ ∙ lengths _ parts whole)))) k d lt

  blocks_count : length columns ≡ length (columns_of blocks)
  blocks_count = cc (length-map columns (stacked parts), length-map (columns_stacked parts columns) (column_value []), made [], length-map (columns_of blocks) (column_value []))

-- the columns of Series have no name
series_nameless : (texts : List Text) (ts : Parts) (name : Option Label) → AreOf Series ts → AreKnownParts texts ts → heading_value texts name ≡ name_of_all (map (name_at Columns) (parts_value texts ts)) → name ≡ None
series_nameless _ [] _ _ _ is = grind arith
series_nameless texts (t ∷ ts) _ series known is =
    let first = (known 0 t (omega arith)).whole.headings.nameless (series 0 t (omega arith)) in
    grind (arith, fold_stays common_name None none_common (map (name_at Columns) (parts_value texts ts)))

pub many_rows : (n m : ℕ) → 2 ^ 26 < n → within_limits n m ≡ false
many_rows = grind (arith, nat_tests)

-- the new table
module _ (texts : List Text) (shape : Shape) (parts : Parts) (hs : Headings) (columns : List Sought) (name : Option Label) (axis : AxisValue) (blocks : List CellBlock) (known : AreKnownParts texts parts)
    (filled : AreStacked parts columns blocks) where
  abbrev new_table : NumberedTable
  new_table = table_with shape axis record { columns_name = name; labels = hs } (columns_of blocks)

  table_given : IsSettled heading_value texts name → IsSettled axis_seen texts axis → IsSettled headings_value texts hs → IsSettled table_value texts new_table
  table_given named rowed settled =
      table_settled _ _ named (λ more. ap (λ a. a.names) (rowed more)) (λ more. ap (λ a. a.labels) (rowed more)) settled (blocks_given _ _ _ filled _ known)

  pub table_whole : AreOf shape parts → AreHeadings shape None hs → length columns ≡ length hs → heading_value texts name ≡ name_of_all (map (name_at Columns) (parts_value texts parts)) → length axis.tuples ≡ rows_in parts
      → IsWhole new_table
  table_whole of fits each named count =
      record {
        headed = sym each ∙ blocks_count parts columns blocks filled;
        filled = rw count (blocks_filled parts columns blocks filled (λ k d lt. (known k d lt).whole));
        headings = record { single = fits.single; nameless = λ series. series_nameless _ _ _ (rw series at of) known named; labelled = fits.labelled };
      }

-- what is meant by parts one below the other
module _ (texts : List Text) (distinct : AreDistinct texts) (shape : Shape) (asked : Asked) (hs : Headings) (settled : IsSettled headings_value texts hs) (parts : Parts) (some : 0 < length parts)
    (known : AreKnownParts texts parts) (fit : AreKeysFor (length parts) asked) (columns : List Sought) (each : length columns ≡ length hs) (sought : All (IsSoughtIn texts parts) columns) where
  abbrev T : List Table
  T = parts_value texts parts

  abbrev C : Concatenation
  C = asked_value texts asked

  abbrev H : List (Option LabelValue)
  H = headings_value texts hs

  abbrev told : Result Entry FaultValue
  told = table_made texts shape T C columns H

  abbrev made : Table
  made = table_below shape T C H (columns_value texts (columns_stacked parts columns))

  told_by : (b : Bool) → all_kinds_meet parts columns ≡ b → told ≡ then_value (if_meet b (columns_value texts (columns_stacked parts columns))) (λ made. finished_below (table_below shape T C H made))
  told_by b is = ap (λ r. then_value r (λ made. finished_below (table_below shape T C H made))) (columns_meant texts distinct parts columns sought known ∙ ap (λ (b : Bool). if_meet b (columns_value texts (columns_stacked parts columns))) is)

  pub none_of_parts : all_kinds_meet parts columns ≡ false → told ≡ Err wrong_kind
  none_of_parts = told_by false

  module _ (meet : all_kinds_meet parts columns ≡ true) where
    meant : told ≡ finished_below made
    meant = told_by true meet

    pub beyond_of_parts : within_limits (rows_in parts) (length hs) ≡ false → told ≡ Err limit
    beyond_of_parts = grind (arith, meant, rows_count, length-map, each)

    module _ (t : NumberedTable) (at : t ≡ slice_index_or parts 0 t) where
      levels : length made.level_names ≡ levels_for (length t.level_names) asked
      levels = levels_count _ asked.renumbered asked.keys parts t some at

      pub levels_of_parts : 4 < levels_for (length t.level_names) asked → told ≡ Err limit
      levels_of_parts = grind (arith, and_right, nat_tests, levels, meant)

      pub table_is : (new : NumberedTable) (name : Option Label) (axis : AxisValue) (blocks : List CellBlock) → within_limits (rows_in parts) (length hs) ≡ true → 1 ≤ levels_for (length t.level_names) asked → levels_for (length t.level_names) asked ≤ 4
          → heading_value texts name ≡ name_of_all (map (name_at Columns) T) → IsSettled heading_value texts name → axis_seen texts axis ≡ rows_below asked.renumbered (keys_value texts asked.keys) T → IsSettled axis_seen texts axis
          → AreStacked parts columns blocks → new ≡ table_with shape axis record { columns_name = name; labels = hs } (columns_of blocks) → Makes texts (Ok new) told
      table_is new name axis blocks within least few named name_given rowed axis_given filled is =
          (grind (arith, nat_tests, levels, meant, rows_count, length-map, each), rw is (table_given _ shape parts hs columns name _ blocks known filled name_given axis_given settled))

-- The columns that are sought of frames.

-- equal headings are of as many columns
pub placed_in : (texts : List Text) (parts : Parts) (t : NumberedTable) (columns : List Sought) (count : ℕ) → AreKnownParts texts parts → 0 < length parts → t ≡ slice_index_or parts 0 t → are_equal same_heading (headings_of_each parts) ≡ true → count ≡ length t.headings
    → columns ≡ map At (range_with_len 0 count) → All (IsSoughtIn texts parts) columns
placed_in texts parts t _ count known some at equal counted are =
    rw are (All-map (IsSoughtIn texts parts) At (range_with_len 0 count) (λ k d lt.
    let place = slice_index_or (range_with_len 0 count) k d in
    let below : place < count = below_range count k d lt in
    λ j e within. omega (arith, below, counted, equal_counts parts t some at equal j e within, (known j e within).whole.headed)))

pub under_in : (texts : List Text) (parts : Parts) (hs : Headings) (columns : List Sought) → IsSettled headings_value texts hs → columns ≡ map Under hs → All (IsSoughtIn texts parts) columns
under_in texts parts hs _ settled are = rw are (All-map (IsSoughtIn texts parts) Under hs (All-from_get_or (IsSettled heading_value texts) hs None (λ k lt. heading_settled texts hs k _ refl settled)))

-- what is tried of images
try_map : {A B X : Type 0} (f : B → Result X FaultValue) (g : A → B) (xs : List A) → try_all f (map g xs) ≡ try_all (λ x. f (g x)) xs
try_map f g [] = refl
try_map f g (x ∷ xs) = λ i. then_value (f (g x)) (λ y. then_value (try_map f g xs i) (λ ys. Ok (y ∷ ys)))

module _ (texts : List Text) (ts : List Table) (c : Concatenation) where
  placed_made : (hs : List (Option LabelValue)) (count : ℕ) (columns : List Sought) → columns ≡ map At (range_with_len 0 count) → count ≡ length hs → table_made texts Frame ts c columns hs ≡ frames_in_order ts c hs
  placed_made hs count _ are counted = cc (are, counted, try_map (column_made texts ts) At (range_with_len 0 count))

  pub labelled_made : (hs : Headings) (columns : List Sought) → columns ≡ map Under hs → table_made texts Frame ts c columns (headings_value texts hs) ≡ frames_by_label ts c (headings_value texts hs)
  labelled_made hs _ are = cc (are, try_map (column_made texts ts) Under hs, try_map (frame_column_below ts) (heading_value texts) hs)

-- the table of frames whose headings are those of the first
pub ordered_made : (texts : List Text) (parts : Parts) (c : Concatenation) (t : NumberedTable) (hs : Headings) (columns : List Sought) → 0 < length parts → t ≡ slice_index_or parts 0 t → hs ≡ t.headings → columns ≡ map At (range_with_len 0 (length hs))
    → table_made texts Frame (parts_value texts parts) c columns (headings_value texts hs) ≡ frames_in_order (parts_value texts parts) c (first_axis (headings_of_each (parts_value texts parts)))
ordered_made texts parts c t hs columns some at are sought =
    let first : headings_value texts hs ≡ first_axis (headings_of_each (parts_value texts parts)) = ap (headings_value texts) are ∙ first_seen parts some at in
    placed_made texts (parts_value texts parts) c (headings_value texts hs) (length hs) columns sought (sym (length-map hs (heading_value texts))) ∙ ap (frames_in_order (parts_value texts parts) c) first
  where
    first_seen : (parts : Parts) → 0 < length parts → t ≡ slice_index_or parts 0 t → headings_value texts t.headings ≡ first_axis (headings_of_each (parts_value texts parts))
    first_seen [] some at = grind arith
    first_seen (s ∷ ss) some at = ap (λ (t : NumberedTable). headings_value texts t.headings) at

pub placed_each : (columns : List Sought) (hs : Headings) → columns ≡ map At (range_with_len 0 (length hs)) → length columns ≡ length hs
placed_each _ hs are = rw are (simp (length-map, length-range_with_len))

-- what is meant by frames of equal headings and of others
module _ (texts : List Text) (distinct : AreDistinct texts) (parts : Parts) (known : AreKnownParts texts parts) (asked : Asked) where
  abbrev frames : List Table
  frames = parts_value texts parts

  abbrev told_of : Concatenation
  told_of = asked_value texts asked

  abbrev by_label : Result Entry FaultValue
  by_label = frames_by_label frames told_of (united finish.same_heading asked.inner (headings_of_each frames))

  abbrev apart : Option LabelValue → Result Entry FaultValue
  apart again = unless_label_twice (option_map (λ l. l ∷ []) again) by_label

  abbrev meets : Bool → Result Entry FaultValue
  meets b = if b then frames_in_order frames told_of (first_axis (headings_of_each frames)) else apart (repeated_in_any_part frames)

  pub frames_equal : are_equal same_heading (headings_of_each parts) ≡ true → frames_below frames told_of ≡ frames_in_order frames told_of (first_axis (headings_of_each frames))
  frames_equal equal = ap meets (same_headings_seen texts parts distinct known ∙ equal)

  frames_apart : are_equal same_heading (headings_of_each parts) ≡ false → (label : Option Label) → repeated_in_any parts ≡ label → frames_below frames told_of ≡ apart (heading_value texts label)
  frames_apart other label is = ap meets (same_headings_seen texts parts distinct known ∙ other) ∙ ap apart (repeated_seen texts parts distinct known ∙ ap (heading_value texts) is)

  pub frames_other : are_equal same_heading (headings_of_each parts) ≡ false → repeated_in_any parts ≡ None → frames_below frames told_of ≡ by_label
  frames_other other none = frames_apart other None none

  pub frames_repeated : are_equal same_heading (headings_of_each parts) ≡ false → (label : Label) → repeated_in_any parts ≡ Some label → Refuses texts (RepeatedLabel (label ∷ [])) (frames_below frames told_of)
  frames_repeated other label is = (frames_apart other (Some label) is, λ more. ap (λ l. fault.repeated_label (l ∷ [])) (heading_label texts _ label is (repeated_given texts parts known) more))
