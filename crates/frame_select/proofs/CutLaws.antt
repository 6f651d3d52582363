-- What a form answers with a new object.
use Rattle.{frame_parts.{proofs.Common.{◌≡◌, ℕ, List, arith, Option, Some, None, Result, Ok, take, ◌∙◌, suc, zero, ◌+◌, ◌<◌, pos, [], ◌∷◌, length, map, refl, ap, All, ◌++◌, sym, true, drop, Bool, false, ◌&&◌, Err, if◌then◌else◌, unwrap_or, subst, get_or-map, drop-cons, drop-length, get_or_from_slice_get, slice_get_within, map_more, length-map, map-append, get_or-range_with_len, length-range_with_len, fill_by_all, All-map, All-push, list_all-map, map-map, IsSome, slice_index_or, slice_get, slice_index, ◌≢◌, range_with_len, list_all, Cell, Na, Label, Kind, Int64, Rows, Shape, Series, Frame, Text, FaultValue, wrong_kind, limit, LabelValue, datum, CellValue, label_datum, int, na_cell, tabulate, IsSettled, ColumnOf, NumberedTable, table_value, heading_value, column_value, column_at, Table, no_column, tuple_value, Entry, GivenSub, IsWhole, AreHeadings, kind_itself, Value, Object, Scalar, ObjId, Store, OpFault, HeadingList, block_column, IsSingle, table_with, axis_of, Tables, with_object, table_or, tables, shown, headings_value, columns_value, FormAnswers, Makes, world, IsSettledWorld, FormsFor, World, entry_in, object_value, object_settled, columns_name_part, longer_self, table_settled, level_names_part, labels_part, columns_part, settled_by, headings_part, AxisValue, taken_axis, CellColumn, CellBlock, get_or-tabulate, limited, within_limits, same_kind, heading_at, MakesBy}, specs.form.Select.{columns_frame}}, column_core.{proofs.{cells.Common.{map-id, get_or-map as get_or-map_at, drop-map, option_and_then}, CellRows.{range-same}}, specs.Columns.{column_with}}, std.proofs.lemmas.{List.Folds.{map_fixed}, Option.{slice_get-get_or}}, frame_store.{specs.tables.Change.{cut_columns}}, indexers.{proofs.SpanLaws.{all_listed}, specs.{Picks.{pick_of}, declared.keys.Picked.{Picked}, pick.Rows.{rows_of}}}, meaning_charge.specs.{Charge.{select_charge}, select.{Keys.{Reach}, Select.{picked_result, without_leading, column_rows, rows_taken, kind_across, one_kind, cut, first_cell, row_name, row_series, row_result, as_series, shown_as, Way, way_reach, select_result}}}, frame_select.{specs.{Plans.{reach_of_plan, rows_in, levels_lost, taken_table, AreTakenFrom, CanTake, has_single_row, has_single_column, is_shared, is_sliced, unless_shared, IsPlanOf, PlansBy}, declared.{planning.{Plan.{Plan}, Taken.{Taken, TheVariants.{Slice, Listed, Under}}, Extent.{Extent}}}, Reaches.{picked_reach, columns_axis, tuples_value}, Chosen.{cells_by_place, cells_at, columns_at, chosen, chosen_under, AreSettledHeadings}, Across.{cell_across}, Selected.{as_it_is, headings_at}, Picked.{headed_by}}, proofs.{FreeLaws.{selection_within}, HeadingLaws.{heading_seen}}}}
use Rattle.frame_store.specs.tables.Value as value
use Rattle.frame_select.specs.declared.planning.Extent.TheVariants as answer

-- a live object has a table
pub live_is : (o : Option NumberedTable) → IsSome o → o ≡ Some (table_or o)
live_is = grind arith

-- a column as it is seen
module _ (texts : List Text) where
  pub column_seen : (cs : List (ColumnOf Cell)) (place : ℕ) → column_at (columns_value texts cs) place ≡ column_value texts (column_at cs place)
  column_seen cs place = get_or-map (column_value texts) cs place _

  pub table_is_settled : (tables : Tables) (id : ℕ) → IsSome (tables id) → IsSettled shown texts tables → IsSettled table_value texts (table_or (tables id))
  table_is_settled _ _ live settled = search (object_settled, live_is)

  -- what is answered with a new object
  pub new_answers : (tables tables' : Tables) (id : ObjId) (t : NumberedTable) (meant : Result Entry FaultValue) → tables id.0 ≡ None → tables' ≡ with_object tables id.0 (Some t) → IsSettled shown texts tables → meant ≡ Ok (value.table (table_value texts t))
      → FormAnswers texts (Ok (Object id)) meant (shown texts tables) (shown texts tables')
  new_answers = grind arith

  -- a table's own headings
  module _ (t : NumberedTable) (headings : HeadingList) where
    pub own_name : headings ≡ record { columns_name = t.columns_name; labels = t.headings } → IsSettled table_value texts t → IsSettled heading_value texts headings.columns_name
    own_name is settled = rw is (columns_name_part _ t settled)

    pub own_labels : headings ≡ record { columns_name = t.columns_name; labels = t.headings } → IsSettled table_value texts t → IsSettled headings_value texts headings.labels
    own_labels = grind arith

-- Rows and places of another table.

-- a list of a function of the place
pub list_is : {C : Type 0} (f : ℕ → C) (xs : List C) (a : ℕ) (d : C) → ((k : ℕ) → k < length xs → f (a + k) ≡ slice_index_or xs k d) → map f (range_with_len a (length xs)) ≡ xs
list_is f [] a d h = refl
list_is f (x ∷ xs) a d h =
    let first : a ≡ a + 0 = omega arith in
    let later : (k : ℕ) → k < length xs → f (a + 1 + k) ≡ slice_index_or xs k d = λ k lt. let e : a + 1 + k ≡ a + suc k = omega arith in ap f e ∙ h (suc k) (omega arith) in
    grind (arith, list_is f xs (a + 1) d later)

-- a list is what stands at its places
pub listed_is : {C : Type 0} (xs : List C) (d : C) → map (λ k. slice_index_or xs k d) (range_with_len 0 (length xs)) ≡ xs
listed_is xs d = list_is _ xs 0 d (λ k lt. let e : 0 + k ≡ k = omega arith in ap (λ k. slice_index_or xs k d) e)

-- one more place's
pub mapped_more : {C : Type 0} (f : ℕ → C) (places : List ℕ) (k place : ℕ) (c : C) (before after : List C) → k < length places → slice_get places k ≡ Some place → c ≡ f place
    → before ≡ map f (take k places) → after ≡ before ++ c ∷ [] → after ≡ map f (take (k + 1) places)
mapped_more f places k place _ _ _ lt at is was pushed = cc (map_more f places k 0 lt, get_or_from_slice_get places k place 0 at)

-- all rows of so many
abbrev pub all_rows : ℕ → Rows
all_rows count = record { start = 0; step = pos 1; count = count }

-- the places below a count
range_suc : (a n : ℕ) → range_with_len a (suc n) ≡ range_with_len a n ++ (a + n) ∷ []
range_suc a zero = grind arith
range_suc a (suc n) = grind (arith, range_suc (a + 1) n)

pub one_more_place : (places places' : List ℕ) (place : ℕ) → places ≡ range_with_len 0 place → places' ≡ places ++ place ∷ [] → places' ≡ range_with_len 0 (place + 1)
one_more_place = grind (arith, range_suc 0)

module _ (places : List ℕ) (count : ℕ) where
  pub places_inside : (limit : ℕ) → places ≡ range_with_len 0 count → count ≡ limit → All (λ place. place < limit) places
  places_inside = grind (arith, get_or-range_with_len, length-range_with_len)

  pub places_count : places ≡ range_with_len 0 count → length places ≡ count
  places_count is = cc (length-range_with_len 0 count)

-- the table of an object that is read
pub read_is : (object : Option NumberedTable) (source : NumberedTable) → object ≡ Some source → source ≡ table_or object
read_is _ _ is = cc

-- Plans of selections.

-- a table that loses no level
pub without_none : (t : Table) → without_leading 0 t ≡ t
without_none t = ap (λ (l : List (List LabelValue)). record t { labels = l }) (map-id _)

-- all rows of an axis are the axis
pub whole_axis : (axis : AxisValue) (rows : Rows) → rows.start ≡ 0 → rows.step ≡ pos 1 → rows.count ≡ length axis.tuples → taken_axis axis (rows_of rows) ≡ axis
whole_axis axis rows start step count =
    let listed : rows_of rows ≡ range_with_len 0 (length axis.tuples) = grind (arith, all_listed) in
    ap (taken_axis axis) listed
    ∙ ap (λ (l : List (List Label)). record axis { tuples = l }) (listed_is _ [])

-- the only place of a list
pub only_place : (places : List ℕ) (place : ℕ) → length places ≡ 1 → slice_get places 0 ≡ Some place → places ≡ place ∷ []
only_place [] _ one at = cc
only_place (p ∷ []) _ one at = search
only_place (p ∷ (q ∷ ps)) _ one at = cc

-- what is reached is what is taken
pub reached_plan : (texts : List Text) (t : NumberedTable) (meant_reach : Result Reach FaultValue) (rows columns : Picked) (plan : Plan) → meant_reach ≡ Ok (picked_reach rows columns)
    → picked_result (table_value texts t) (reach_of_plan plan) ≡ picked_result (table_value texts t) (picked_reach rows columns)
    → is_shared plan ≡ is_sliced (pick_of rows) → IsPlanOf texts t plan meant_reach
reached_plan _ _ _ _ _ _ is same shared = record { picked = cc; shared = cc }

-- Rows that are taken from a column.

-- the rows at these places are the cells there
pub chosen_seen : {T : Type 0} (kind : Kind) (cell : Option T → Cell) (n : ℕ) (row : ℕ → Option T) (places : List ℕ) → All (λ place. place < n) places
    → column_with kind cell (length places) (λ k. row (slice_index places k)) ≡ cells_by_place places (column_with kind cell n row)
chosen_seen kind cell n row places below =
    let at : ℕ → Cell = λ place. slice_index_or (tabulate n (λ k. cell (row k))) place Na in
    ap (λ (cells : List Cell). record { kind = kind; cells = cells })
    (range-same _ _ 0 _
    (λ k le lt. sym (grind (arith, get_or-tabulate)))
    ∙ sym (fill_by_all _ (map at places) _ Na (length-map places at) (λ k lt. get_or-map_at at places k 0 Na lt)))

-- a place that stands in a list
pub place_inside : (places : List ℕ) (count k place : ℕ) → All (λ p. p < count) places → k < length places → slice_get places k ≡ Some place → place < count
place_inside = grind (arith, get_or_from_slice_get)

-- one more column
pub one_more_chosen : (t : NumberedTable) (rows columns : List ℕ) (k : ℕ) (source made : CellColumn) (block : CellBlock) (blocks blocks' : List CellBlock) → k < length columns
    → column_at t.columns (slice_index_or columns k 0) ≡ record { kind = source.kind; cells = source.cells } → made ≡ cells_by_place rows source → block ≡ record { kind = made.kind; rows = length made.cells; columns = made.cells ∷ [] }
    → blocks' ≡ blocks ++ block ∷ [] → map block_column blocks ≡ columns_at rows (take k columns) t → map block_column blocks' ≡ columns_at rows (take (k + 1) columns) t
one_more_chosen t rows _ _ _ _ block blocks _ inside here is boxed pushed before =
    mapped_more (λ p. cells_at rows (column_at t.columns p)) _ _ _ (block_column block) _ _ inside (slice_get-get_or _ _ 0 inside) (grind arith) before (ap (map _) pushed ∙ map-append _ blocks (block ∷ []))

pub one_more_single : (made : CellColumn) (block : CellBlock) (blocks blocks' : List CellBlock) → block ≡ record { kind = made.kind; rows = length made.cells; columns = made.cells ∷ [] } → blocks' ≡ blocks ++ block ∷ []
    → All IsSingle blocks → All IsSingle blocks'
one_more_single _ _ blocks _ boxed pushed before = rw pushed (All-push IsSingle blocks _ before (rw boxed refl))

-- a heading for each column, and a cell for each row
pub chosen_whole : (shape : Shape) (headings : HeadingList) (rows columns : List ℕ) (t : NumberedTable) → length headings.labels ≡ length columns → AreHeadings shape headings.columns_name headings.labels → IsWhole (chosen shape headings rows columns t)
chosen_whole _ headings rows columns t headed fit =
    record {
      headed = search length-map;
      filled = All-map (λ (c : ColumnOf Cell). length c.cells ≡ length (map (λ place. slice_index_or t.labels place []) rows)) (λ p. cells_at rows (column_at t.columns p)) columns (λ k d lt. grind (arith, length-map));
      headings = fit;
    }

-- Rows that are taken from a table.

-- a slice that is cut is the rows that are chosen
pub cut_is_chosen : (shape : Shape) (axis : AxisValue) (headings : HeadingList) (rows : Rows) (columns : List ℕ) (t : NumberedTable) → axis ≡ taken_axis (axis_of t) (rows_of rows)
    → table_with shape axis headings (cut_columns Na t.columns rows columns) ≡ chosen shape headings (rows_of rows) columns t
cut_is_chosen = grind (arith, map-map)

-- what is chosen, as it is seen
taken_map : {X Y : Type 0} (f : X → Y) (xs : List X) (d : X) (rows : List ℕ) → map f (map (λ row. slice_index_or xs row d) rows) ≡ map (λ row. slice_index_or (map f xs) row (f d)) rows
taken_map f xs d rows = map-map f _ rows ∙ (λ j. map (λ row. sym (get_or-map f xs row d) j) rows)

module _ (texts : List Text) where
  pub labels_seen : (rows : List ℕ) (labels : List (List Label)) → map (tuple_value texts) (map (λ row. slice_index_or labels row []) rows) ≡ map (λ row. slice_index_or (map (tuple_value texts) labels) row []) rows
  labels_seen rows labels = taken_map (tuple_value texts) labels [] rows

  pub columns_seen : (rows columns : List ℕ) (t : NumberedTable) → map (column_value texts) (columns_at rows columns t) ≡ map (column_rows rows) (map (column_at (table_value texts t).columns) columns)
  columns_seen _ [] t = refl
  columns_seen rows (p ∷ ps) t = cc (taken_map (datum texts) (column_at t.columns p).cells Na rows, column_seen texts t.columns p, columns_seen rows ps t)

  -- all columns of some rows
  pub chosen_rows : (headings : HeadingList) (rows columns : List ℕ) (t : NumberedTable) → headings ≡ record { columns_name = t.columns_name; labels = t.headings } → columns ≡ range_with_len 0 (length t.columns)
      → table_value texts (chosen t.shape headings rows columns t) ≡ rows_taken (table_value texts t) rows
  chosen_rows headings rows columns t named all = grind (arith, length-map, listed_is (table_value texts t).columns no_column, labels_seen, columns_seen)

  -- without leading levels
  tuples_under : (count : ℕ) (tuples : List (List Label)) → map (tuple_value texts) (map (λ tuple. drop count tuple) tuples) ≡ map (drop count) (map (tuple_value texts) tuples)
  tuples_under _ [] = refl
  tuples_under count (tuple ∷ tuples) = search (drop-map, tuples_under count tuples)

  under_seen : (count : ℕ) (shape : Shape) (headings : HeadingList) (rows columns : List ℕ) (t : NumberedTable) → table_value texts (chosen_under count shape headings rows columns t) ≡ without_leading count (table_value texts (chosen shape headings rows columns t))
  under_seen = grind (arith, drop-map, tuples_under)

  -- a table that is taken is the rows and columns that are chosen, without the levels that are lost
  pub taken_seen : (shape : Shape) (headings : HeadingList) (taken : Taken) (columns : List ℕ) (t : NumberedTable) → table_value texts (taken_table shape headings taken columns t) ≡ without_leading (levels_lost taken) (table_value texts (chosen shape headings (rows_in taken) columns t))
  taken_seen _ _ (Slice rows) = search without_none
  taken_seen _ _ (Listed places) = search without_none
  taken_seen _ _ (Under places count) = search under_seen

module _ (texts : List Text) where
  pub chosen_settled : (shape : Shape) (headings : HeadingList) (rows columns : List ℕ) (t : NumberedTable) → IsSettled table_value texts t → AreSettledHeadings texts headings → IsSettled table_value texts (chosen shape headings rows columns t)
  chosen_settled _ _ rows columns t settled given =
      table_settled _ _ given.0 (level_names_part _ t settled)
      (λ more. labels_seen _ _ _ ∙ ap (λ ls. map (λ row. slice_index_or ls row []) rows) (labels_part _ t settled more) ∙ sym (labels_seen _ _ _))
      given.1
      (λ more. columns_seen _ _ _ t ∙ ap (λ cs. map (column_rows rows) (map (column_at cs) columns)) (columns_part _ t settled more) ∙ sym (columns_seen _ _ _ t))

  pub taken_settled : (shape : Shape) (headings : HeadingList) (taken : Taken) (columns : List ℕ) (t : NumberedTable) → IsSettled table_value texts t → AreSettledHeadings texts headings
      → IsSettled table_value texts (taken_table shape headings taken columns t)
  taken_settled shape headings taken columns t settled given = λ more.
      cc (taken_seen (texts ++ more) shape headings taken columns t, taken_seen texts shape headings taken columns t, chosen_settled shape headings (rows_in taken) columns t settled given more)

-- A row across columns.

-- the kinds of columns
abbrev pub kind_at : NumberedTable → ℕ → Kind
kind_at t place = (column_at t.columns place).kind

abbrev pub first_kind : NumberedTable → List ℕ → Kind
first_kind t [] = Int64
first_kind t (p ∷ ps) = kind_at t p

-- the kind after so many columns
abbrev pub kind_after : ℕ → NumberedTable → List ℕ → Kind
kind_after zero t places = Int64
kind_after (suc k) t places = first_kind t places

abbrev pub all_of : Kind → NumberedTable → List ℕ → Bool
all_of kind t places = list_all (λ p. same_kind (kind_at t p) kind) places

module _ (texts : List Text) (t : NumberedTable) where
  all_seen : (kind : Kind) (places : List ℕ) → list_all (λ c. same_kind c.kind kind) (map (column_at (table_value texts t).columns) places) ≡ all_of kind t places
  all_seen _ [] = refl
  all_seen kind (p ∷ ps) = search (column_seen, all_seen kind ps)

  first_seen : (places : List ℕ) → kind_across (map (column_at (table_value texts t).columns) places) ≡ first_kind t places
  first_seen [] = refl
  first_seen (p ∷ ps) = search column_seen

  pub one_kind_is : (places : List ℕ) → one_kind (map (column_at (table_value texts t).columns) places) ≡ (if all_of (first_kind t places) t places then Ok (first_kind t places) else Err wrong_kind)
  one_kind_is places = grind (arith, first_seen places, all_seen (first_kind t places) places)

-- the kinds from one on
module _ (t : NumberedTable) (places : List ℕ) (k place : ℕ) (at : slice_get places k ≡ Some place) where
  from_kind : (kind : Kind) → all_of kind t (drop k places) ≡ (same_kind (kind_at t place) kind && all_of kind t (drop (suc k) places))
  from_kind _ = cc (drop-cons places k 0 (slice_get_within places k place at), get_or_from_slice_get places k place 0 at)

  pub kinds_refused : (texts : List Text) (next : Kind) → next ≡ kind_at t place → same_kind next (first_kind t places) ≡ false → all_of (first_kind t places) t (drop k places) ≡ all_of (first_kind t places) t places
      → one_kind (map (column_at (table_value texts t).columns) places) ≡ Err wrong_kind
  kinds_refused texts _ is other before = grind (arith, from_kind (first_kind t places), one_kind_is texts t places)

  pub kinds_more : (next : Kind) → next ≡ kind_at t place → same_kind next (first_kind t places) ≡ true → all_of (first_kind t places) t (drop k places) ≡ all_of (first_kind t places) t places
      → all_of (first_kind t places) t (drop (k + 1) places) ≡ all_of (first_kind t places) t places
  kinds_more _ is same before = grind (arith, from_kind (first_kind t places))

  pub first_is : k ≡ 0 → first_kind t places ≡ kind_at t place
  first_is = grind arith

pub kinds_done : (texts : List Text) (t : NumberedTable) (places : List ℕ) (k : ℕ) (kind : Kind) → k ≡ length places → kind ≡ kind_after k t places → all_of (first_kind t places) t (drop k places) ≡ all_of (first_kind t places) t places
    → one_kind (map (column_at (table_value texts t).columns) places) ≡ Ok kind
kinds_done texts t places = grind (arith, one_kind_is texts t places, drop-length)

-- the kind of the columns so far
pub kind_later : (t : NumberedTable) (places : List ℕ) (k : ℕ) (kind : Kind) → 0 < k → kind ≡ kind_after k t places → kind ≡ first_kind t places
kind_later = grind arith

pub same_next : (next kind : Kind) → next ≡ kind → same_kind next kind ≡ true
same_next _ kind is = cc (kind_itself kind)

pub other_kind : (next kind first : Kind) → kind ≡ first → next ≢ kind → same_kind next first ≡ false
other_kind = grind arith

-- A row across columns as a Series.

-- rows have the kinds of their columns
pub one_kind_rows : (rows : List ℕ) (cs : List (ColumnOf CellValue)) → one_kind (map (column_rows rows) cs) ≡ one_kind cs
one_kind_rows rows cs = grind (arith, list_all-map (λ c. same_kind c.kind (kind_across cs)) (column_rows rows) cs)

-- the parts of the Series
module _ (texts : List Text) (t : NumberedTable) where
  row_labels_seen : (places : List ℕ) → All IsSome t.headings → All (λ place. place < length t.headings) places
      → map (λ h. unwrap_or h (int (pos 0)) ∷ []) (map (heading_at (table_value texts t)) places) ≡ tuples_value texts (columns_axis t places).tuples
  row_labels_seen [] _ _ = refl
  row_labels_seen (p ∷ ps) some below = grind (arith, row_labels_seen ps some (λ k d lt. below (suc k) d (omega arith)), heading_seen texts t.headings p, some p None (below 0 p (omega arith)))

  cells_seen : (row : ℕ) (places : List ℕ) → map first_cell (map (column_rows (row ∷ [])) (map (column_at (table_value texts t).columns) places)) ≡ map (datum texts) (map (cell_across t row) places)
  cells_seen _ [] = refl
  cells_seen row (p ∷ ps) = cc (cells_seen row ps, column_seen texts t.columns p, get_or-map (datum texts) (column_at t.columns p).cells row Na)

-- the name of a row: its label, or none where it has several
pub name_of_one : (texts : List Text) (tuple : List Label) (l : Label) → length tuple ≡ 1 → slice_get tuple 0 ≡ Some l → Some (label_datum texts l) ≡ row_name (tuple_value texts tuple)
name_of_one _ [] l one at = cc
name_of_one _ (m ∷ []) l one at = search
name_of_one _ (m ∷ (n ∷ ls)) l one at = cc

pub label_first : (tuples : List (List Label)) (row : ℕ) (l : Label) → option_and_then (λ tuple. slice_get tuple 0) (slice_get tuples row) ≡ Some l → slice_get (slice_index_or tuples row []) 0 ≡ Some l
label_first = grind (arith, get_or_from_slice_get)

pub name_of_several : (texts : List Text) (tuple : List Label) → length tuple ≢ 1 → None ≡ row_name (tuple_value texts tuple)
name_of_several _ [] _ = refl
name_of_several _ (l ∷ []) several = search
name_of_several _ (l ∷ (m ∷ ls)) _ = refl

-- the Series of a row
abbrev pub row_heading : Option Label → HeadingList
row_heading name = record { columns_name = None; labels = name ∷ [] }

abbrev pub row_table : NumberedTable → ℕ → Option Label → Kind → List ℕ → NumberedTable
row_table t row name kind places = table_with Series (columns_axis t places) (row_heading name) (record { kind = kind; cells = map (cell_across t row) places } ∷ [])

module _ (t : NumberedTable) (row : ℕ) (label_name : Option Label) (kind : Kind) (places : List ℕ) (some : All IsSome t.headings) (below : All (λ place. place < length t.headings) places)
    (named : (ts : List Text) → heading_value ts label_name ≡ row_name (tuple_value ts (slice_index_or t.labels row []))) where
  series_seen : (texts : List Text) → row_series (cut (table_value texts t) (row ∷ []) places) kind ≡ table_value texts (row_table t row label_name kind places)
  series_seen texts = grind (arith, row_labels_seen texts t places some below, get_or-map (tuple_value texts) t.labels row [], named texts, cells_seen texts t row places)

  row_is : (texts : List Text) → one_kind (map (column_at (table_value texts t).columns) places) ≡ Ok kind → row_result (cut (table_value texts t) (row ∷ []) places) ≡ limited (table_value texts (row_table t row label_name kind places))
  row_is texts one = grind (arith, one_kind_rows (row ∷ []) (map (column_at (table_value texts t).columns) places), series_seen texts)

  pub row_made : (texts : List Text) (made : NumberedTable) → one_kind (map (column_at (table_value texts t).columns) places) ≡ Ok kind → within_limits (length places) 1 ≡ true → made ≡ row_table t row label_name kind places → IsSettled table_value texts t
      → (row_result (cut (table_value texts t) (row ∷ []) places) ≡ Ok (value.table (table_value texts made))) × IsSettled table_value texts made
  row_made texts _ one within is settled = (
    grind (arith, row_is texts one, length-map),
    settled_by table_value table_value (λ T. row_series (cut T (row ∷ []) places) kind) _ t _ (λ ts. series_seen ts ∙ ap (table_value ts) (sym is)) settled,
  )

  pub row_beyond : (texts : List Text) → one_kind (map (column_at (table_value texts t).columns) places) ≡ Ok kind → within_limits (length places) 1 ≡ false → row_result (cut (table_value texts t) (row ∷ []) places) ≡ Err limit
  row_beyond texts one beyond = grind (arith, row_is texts one, length-map)

module _ (texts : List Text) (t : NumberedTable) where
  pub row_refused : (row : ℕ) (places : List ℕ) (why : OpFault) → MakesBy as_it_is texts (Err why) (one_kind (map (column_at (table_value texts t).columns) places))
      → Makes texts (Err why) (row_result (cut (table_value texts t) (row ∷ []) places))
  row_refused = grind (arith, one_kind_rows)

  -- Rows and columns that are cut from a table, as they are seen.

  -- the headings of columns
  headings_seen : (places : List ℕ) → headings_value texts (headings_at t places) ≡ map (heading_at (table_value texts t)) places
  headings_seen [] = refl
  headings_seen (p ∷ ps) = search (heading_seen, headings_seen ps)

pub headings_settled : (texts : List Text) (t : NumberedTable) (places : List ℕ) → IsSettled headings_value texts t.headings → IsSettled headings_value texts (headings_at t places)
headings_settled texts t places = settled_by headings_value headings_value (λ hs. map (λ p. slice_index_or hs p None) places) texts t.headings (headings_at t places) (λ ts. sym (headings_seen ts t places))

all_labelled : (t : NumberedTable) (places : List ℕ) → All IsSome t.headings → All (λ p. p < length t.headings) places → All IsSome (headings_at t places)
all_labelled t places some below = All-map IsSome (λ p. slice_index_or t.headings p None) places (λ k d lt. some _ None (below k d lt))

-- those of these columns, with a name of the columns or none
abbrev pub headings_with : Option Label → NumberedTable → List ℕ → HeadingList
headings_with name t places = record { columns_name = name; labels = headings_at t places }

-- what is chosen is what is cut
module _ (texts : List Text) (rows columns : List ℕ) (t : NumberedTable) where
  cut_seen : (shape : Shape) (name : Option Label) → table_value texts (chosen shape (headings_with name t columns) rows columns t) ≡ record (cut (table_value texts t) rows columns) { shape = shape; columns_name = heading_value texts name }
  cut_seen = grind (arith, labels_seen, headings_seen, columns_seen)

-- what is taken, as a Series
pub series_shown : (texts : List Text) (taken : Taken) (columns : List ℕ) (t : NumberedTable) (headings : HeadingList) → headings ≡ headings_with None t columns
    → table_value texts (taken_table Series headings taken columns t) ≡ as_series (without_leading (levels_lost taken) (cut (table_value texts t) (rows_in taken) columns))
series_shown texts taken columns t headings is = grind (arith, taken_seen, cut_seen texts (rows_in taken) columns t Series None)

-- all rows of some columns
rows_all : {C : Type 0} (d : C) (n : ℕ) (c : ColumnOf C) → length c.cells ≡ n → record { kind = c.kind; cells = map (λ row. slice_index_or c.cells row d) (range_with_len 0 n) } ≡ c
rows_all {C} d n c is = ap (λ (cells : List C). record { kind = c.kind; cells = cells }) (cc (listed_is c.cells d))

module _ (texts : List Text) (t : NumberedTable) where
  columns_filled : (columns : List ℕ) → IsWhole t → All (λ place. place < length t.columns) columns
      → All (λ c. length c.cells ≡ length t.labels) (map (column_at (table_value texts t).columns) columns)
  columns_filled columns whole below = All-map (λ c. length c.cells ≡ length t.labels) (column_at (table_value texts t).columns) columns (λ k d lt.
      let p = slice_index_or columns k d in grind (arith, column_seen texts t.columns p, length-map (column_at t.columns p).cells (datum texts), whole.filled p no_column (below k d lt)))

  pub all_rows_cut : (rows columns : List ℕ) → IsWhole t → All (λ place. place < length t.columns) columns → rows ≡ range_with_len 0 (length t.labels)
      → cut (table_value texts t) rows columns ≡ columns_frame (table_value texts t) columns
  all_rows_cut _ columns whole below all =
      let T = table_value texts t in
      let count : length t.labels ≡ length T.labels = search length-map in
      let labels : map (λ row. slice_index_or T.labels row []) (range_with_len 0 (length t.labels)) ≡ T.labels = cc (listed_is T.labels []) in
      ap (λ (l : List ℕ). cut T l columns) all
      ∙ (λ j. record (columns_frame T columns) { labels = labels j; columns = map_fixed (column_rows (range_with_len 0 (length t.labels))) (map (column_at T.columns) columns) (λ k d lt. rows_all na_cell _ _ (columns_filled columns whole below k d lt)) j })

-- all rows and columns under other headings
pub whole_chosen : (shape : Shape) (headings : HeadingList) (rows columns : List ℕ) (t : NumberedTable) → IsWhole t → rows ≡ range_with_len 0 (length t.labels) → columns ≡ range_with_len 0 (length t.columns)
    → chosen shape headings rows columns t ≡ headed_by shape headings t
whole_chosen _ _ _ _ t whole all each =
    let labels = listed_is t.labels [] in
    let column : ℕ → ColumnOf Cell = λ place. cells_at (range_with_len 0 (length t.labels)) (column_at t.columns place) in
    let columns_are : map column (range_with_len 0 (length t.columns)) ≡ t.columns =
    list_is _ _ 0 _ (λ k lt. let e : 0 + k ≡ k = omega arith in ap column e ∙ rows_all Na _ _ (whole.filled k _ lt)) in
    grind arith

-- a table's own headings
abbrev pub own_headings : NumberedTable → HeadingList
own_headings t = record { columns_name = t.columns_name; labels = t.headings }

pub frame_taken : (t : NumberedTable) (rows : Taken) (columns : List ℕ) (headings : HeadingList) → IsWhole t → t.shape ≡ Frame → AreTakenFrom t rows → All (λ place. place < length t.columns) columns
    → headings ≡ headings_with t.columns_name t columns → CanTake Frame headings rows columns t
frame_taken = grind (arith, all_labelled, length-map)

-- each has headings whose texts were given
module _ (texts : List Text) (t : NumberedTable) where
  module _ (columns : List ℕ) (headings : HeadingList) where
    pub series_given : headings ≡ headings_with None t columns → IsSettled table_value texts t → AreSettledHeadings texts headings
    series_given = grind (arith, headings_settled)

    pub frame_given : headings ≡ headings_with t.columns_name t columns → IsSettled table_value texts t → AreSettledHeadings texts headings
    frame_given is settled = rw is (search (columns_name_part, headings_settled, headings_part))

  pub own_given : (headings : HeadingList) → headings ≡ own_headings t → IsSettled table_value texts t → AreSettledHeadings texts headings
  own_given = search (own_name, own_labels)

  -- rows and columns of a frame
  pub frame_meant : (columns : List ℕ) (taken : Taken) (headings : HeadingList) → t.shape ≡ Frame → headings ≡ headings_with t.columns_name t columns
      → limited (table_value texts (taken_table Frame headings taken columns t)) ≡ limited (without_leading (levels_lost taken) (cut (table_value texts t) (rows_in taken) columns))
  frame_meant columns taken _ frame is = grind (arith, taken_seen, cut_seen texts (rows_in taken) columns t Frame t.columns_name)

-- What a plan answers, and a selection with it.

-- the only row is one of the table's
pub row_inside : (taken : Taken) (t : NumberedTable) (row : ℕ) → AreTakenFrom t taken → rows_in taken ≡ row ∷ [] → row < length t.labels
row_inside (Slice rows) t row below is = subst (λ (l : List ℕ). All (λ place. place < length t.labels) l) is (grind (arith, length-map, length-range_with_len, get_or-tabulate)) 0 row (omega arith)
row_inside (Listed places) t row below is = (rw is at below) 0 row (omega arith)
row_inside (Under places count) t row below is = (rw is at below.0) 0 row (omega arith)

-- the name of a single column
module _ (s t : NumberedTable) (columns : List ℕ) where
  -- the headings that were gathered from the table that was read
  pub gathered : (labels items : List (Option Label)) → s ≡ t → labels ≡ items → items ≡ headings_at s columns → labels ≡ headings_at t columns
  gathered _ _ at same is = cc

  pub gathered_with : (name : Option Label) (labels : List (Option Label)) (headings : HeadingList) → s ≡ t → name ≡ s.columns_name → labels ≡ headings_at t columns
      → headings ≡ record { columns_name = name; labels = labels } → headings ≡ headings_with t.columns_name t columns
  gathered_with = grind arith

-- what is picked by a plan, by its form
pub plan_meant : (texts : List Text) (live : Tables) (on : ObjId) (source : NumberedTable) (plan : Plan) (form : Extent) (rows columns : List ℕ) → live on.0 ≡ Some source → plan.extent ≡ form → rows_in plan.rows ≡ rows → levels_lost plan.rows ≡ 0
    → plan.columns ≡ columns → shown_as (has_single_row form) (has_single_column form) (cut (table_value texts source) rows columns) ≡ picked_result (object_value live texts on) (reach_of_plan plan)
plan_meant texts _ _ source _ form rows columns live_is form_is rows_are whole columns_are = cc (read_is _ _ live_is, without_none (cut (table_value texts source) rows columns))

-- a cell
abbrev taken_cell : ℕ → ℕ → Table → CellValue
taken_cell row place t = first_cell (column_at (cut t (row ∷ []) (place ∷ [])).columns 0)

cell_seen : (texts : List Text) (t : NumberedTable) (row place : ℕ) (c : Cell) → c ≡ slice_index_or (column_at t.columns place).cells row Na → taken_cell row place (table_value texts t) ≡ datum texts c
cell_seen texts t row place c is = cc (column_seen texts t.columns place, get_or-map (datum texts) (column_at t.columns place).cells row Na)

module _ (texts : List Text) (store : Store) where
  pub cell_made : (on : ObjId) (source : NumberedTable) (plan : Plan) (row place : ℕ) (c : Cell) → tables store on.0 ≡ Some source → IsSettledWorld (world store texts) → plan.extent ≡ answer.Cell
      → rows_in plan.rows ≡ row ∷ [] → levels_lost plan.rows ≡ 0 → plan.columns ≡ place ∷ [] → c ≡ slice_index_or (column_at source.columns place).cells row Na
      → (charge : Entry → ℕ) → FormsFor charge (Ok (Scalar c)) (picked_result (object_value (tables store) texts on) (reach_of_plan plan)) (world store texts) (world store texts)
  cell_made on source plan row place c live_is settled form rows whole columns is charge = (
    (
      cc (plan_meant texts (tables store) on source plan answer.Cell (row ∷ []) (place ∷ []) live_is form rows whole columns, cell_seen texts source row place c is),
      (refl, settled_by table_value datum (taken_cell row place) _ _ c (λ ts. cell_seen ts source row _ c is) (object_settled _ _ _ _ live_is settled)),
    ),
    longer_self _,
    settled,
    record { cells = omega arith; blocks = λ id live there apart. refl },
  )

  -- what is selected from an object
  module _ (on : Value) (id : ObjId) (source : NumberedTable) (way : Way) (first : GivenSub) (second : Option GivenSub) (is : on ≡ Object id) (live_is : tables store id.0 ≡ Some source) where
    entry_is : entry_in (world store texts) on ≡ value.table (table_value texts source)
    entry_is = grind (arith, read_is)

    pub select_made : (plan : Plan) (result : Result Value OpFault) (new : World) → PlansBy texts source (Ok plan) (way_reach way (table_value texts source) first second)
        → FormsFor (unless_shared (is_shared plan)) result (picked_result (object_value (tables store) texts id) (reach_of_plan plan)) (world store texts) new
        → FormsFor (select_charge (entry_in (world store texts) on) way first) result (select_result (entry_in (world store texts) on) way first second) (world store texts) new
    select_made plan result new planned made =
        let v = table_value texts source in
        rw entry_is (selection_within v way first second (is_shared plan) result (world store texts) new planned.shared
        (subst (λ (m : Result Entry FaultValue). FormsFor (unless_shared (is_shared plan)) result m (world store texts) new)
        (cc (read_is (tables store id.0) source live_is, planned.picked)) made))
