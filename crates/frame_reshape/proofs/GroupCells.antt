-- The groups that have an answer, with their first rows and their answers, are those that are meant.
use Rattle.{frame_parts.proofs.Common.{arith, ◌≡◌, ◌≢◌, ◌∙◌, refl, ap, sym, subst, if◌then◌else◌, then_value, ℕ, suc, zero, ◌+◌, ◌<◌, Bool, true, false, List, [], ◌∷◌, ◌++◌, map, length, take, slice_index_or, slice_get, filter_map, option_map, All, All-map, All-tail, Option, Some, None, Result, Ok, list_all, get_or-map, length-map, map-append, take_more, length-map-range_with_len, get_or_from_slice_get, slice_get_within, Cell, Text, CellValue, na_cell, datum, AreGiven, taken, tabulate, ColumnValue, FaultValue, Series, CellColumn, IsPlaceOf, IsSettled, NumberedTable, Table, column_at, no_column, table_value, value_of_column, column_of_value, made_column, tuple_value, labels_value, table_column, columns_part, columns_given}, column_core.{proofs.{cells.Common.{is_present, append-nil, get_or-map as get_or-map_at}, CellRows.{map-map}}, specs.{Columns.{column_value as seen_column}, cells.{Column.{gap_cell}, Cell.{IsGiven}}}}, multi_index.{specs.pick.Rows.{rows_where}, proofs.pick.{RowLaws.{rows_where-map, rows_more_yes, rows_more_no}, InsideLaws.{rows_inside}}}, factorize.proofs.group.ListLaws.{map_on}, factorize.specs.group.{Rows.{GroupsValue}, Reductions.{GroupReduction, reduce_groups}}, frame_store.specs.Parts.{AreRowsOf}, frame_select.{specs.{select.Select.{as_series, rows_taken}}, proofs.{AnswerLaws.{column_seen}, HeadingLaws.{heading_seen}, PickedLaws.{listed_is}}}, frame_labels.{specs.{Levels.{row_labels}, method.{Rows.{without_missing, all_places, cells_by_row}, Groups.{groups_of, keys_of, headings_of, under_keys}, Reshape.{groups_by, group_series, answered_groups, label_places}}}, proofs.{IndexingLaws.{headings_seen}, RowLaws.{by_rows}}}, frame_reshape.specs.{Groups.{answered, rows_of_groups}, Pivots.{pivoted_value}, declared.{told.Pivoted.{Pivoted}, grouping.GroupCells.{GroupCells}}}}
use Rattle.cell_core.specs.declared.cell.Cell.TheVariants as cell
use Rattle.frame_reshape.specs.Groups as words

-- groups with an answer, one more of them, and one without
abbrev is_there : Cell → Bool
is_there c = is_present (datum [] c)

pub present_cell : (c : Cell) → c ≢ cell.Na → is_present (datum [] c) ≡ true
present_cell cell.Na other = absurd (other refl)
present_cell (cell.Int z) other = refl
present_cell (cell.Bool b) other = refl
present_cell (cell.Text id) other = refl

abbrev pub if_present : {A : Type 0} → Cell → A → List A
if_present c a = if is_present (datum [] c) then (a ∷ []) else []

one_more_answer : (cells : List Cell) (k : ℕ) (c : Cell) (gaps gaps' : List (Option ℕ)) → slice_get cells k ≡ Some c → is_there c ≡ true → gaps ≡ map Some (answered (take k cells)) → gaps' ≡ gaps ++ Some k ∷ [] → gaps' ≡ map Some (answered (take (k + 1) cells))
one_more_answer cells k c gaps gaps' at there before pushed =
    let passes : is_there (slice_index_or cells k c) ≡ true = rw (get_or_from_slice_get cells k c c at) there in
    let more = rows_more_yes is_there cells k c (answered (take k cells)) (answered (take k cells) ++ k ∷ []) (slice_get_within cells k c at) refl passes refl in
    cc (map-append Some (answered (take k cells)) (k ∷ []))

no_more_answer : (cells : List Cell) (k : ℕ) (c : Cell) (gaps : List (Option ℕ)) → slice_get cells k ≡ Some c → is_there c ≡ false → gaps ≡ map Some (answered (take k cells)) → gaps ≡ map Some (answered (take (k + 1) cells))
no_more_answer cells k c gaps at missing before =
    let fails : is_there (slice_index_or cells k c) ≡ false = rw (get_or_from_slice_get cells k c c at) missing in
    cc (rows_more_no is_there cells k c (answered (take k cells)) (slice_get_within cells k c at) refl fails)

pub more_answers : (cells : List Cell) (k : ℕ) (c : Cell) (gaps gaps' : List (Option ℕ)) → slice_get cells k ≡ Some c → gaps ≡ map Some (answered (take k cells)) → gaps' ≡ gaps ++ if_present c (Some k) → gaps' ≡ map Some (answered (take (k + 1) cells))
more_answers cells k c gaps gaps' at before pushed = by (is_there c) refl
  where
    by : (b : Bool) → is_there c ≡ b → gaps' ≡ map Some (answered (take (k + 1) cells))
    by true there = one_more_answer cells k c gaps gaps' at there before (pushed ∙ ap (λ b. gaps ++ (if b then (Some k ∷ []) else [])) there)
    by false missing = no_more_answer cells k c gaps' at missing (pushed ∙ ap (λ b. gaps ++ (if b then (Some k ∷ []) else [])) missing ∙ append-nil gaps ∙ before)

pub answers_inside : (cells : List Cell) (gaps : List (Option ℕ)) → gaps ≡ map Some (answered cells) → All (IsPlaceOf (length cells)) gaps
answers_inside cells gaps is = rw is (All-map (IsPlaceOf (length cells)) Some (answered cells) (λ k d lt. rows_inside is_there cells k d lt))

-- the first rows of some groups, one more of them
more_filtered : {X Y : Type 0} (f : X → Option Y) (xs ys : List X) → filter_map f (xs ++ ys) ≡ filter_map f xs ++ filter_map f ys
more_filtered f [] ys = refl
more_filtered f (x ∷ xs) ys = grind (arith, more_filtered f xs ys)

pub more_firsts : (firsts : List ℕ) (gaps : List (Option ℕ)) (k : ℕ) (gap : Option ℕ) (rows rows' : List ℕ) → slice_get gaps k ≡ Some gap → rows ≡ rows_of_groups firsts (take k gaps) → rows' ≡ rows ++ rows_of_groups firsts (gap ∷ []) → rows' ≡ rows_of_groups firsts (take (k + 1) gaps)
more_firsts firsts gaps k gap rows _ at before pushed =
    cc (take_more gaps k gap (slice_get_within gaps k gap at), get_or_from_slice_get gaps k gap gap at, more_filtered (option_map (λ group. slice_index_or firsts group 0)) (take k gaps) (gap ∷ []))

pub gap_inside : (n : ℕ) (gaps : List (Option ℕ)) (k : ℕ) (gap : Option ℕ) → All (IsPlaceOf n) gaps → slice_get gaps k ≡ Some gap → IsPlaceOf n gap
gap_inside n gaps k gap all at = subst (IsPlaceOf n) (get_or_from_slice_get gaps k gap gap at) (all k gap (slice_get_within gaps k gap at))

-- groups that are there
module _ (groups : List ℕ) where
  pub rows_picked : (firsts : List ℕ) → rows_of_groups firsts (map Some groups) ≡ map (λ group. slice_index_or firsts group 0) groups
  rows_picked firsts = picked groups
    where
      picked : (groups : List ℕ) → rows_of_groups firsts (map Some groups) ≡ map (λ group. slice_index_or firsts group 0) groups
      picked [] = refl
      picked (g ∷ gs) = cc (picked gs)

  pub cells_picked : (cells : List Cell) → taken cell.Na cells (map Some groups) ≡ map (λ group. slice_index_or cells group cell.Na) groups
  cells_picked cells = picked groups
    where
      picked : (groups : List ℕ) → taken cell.Na cells (map Some groups) ≡ map (λ group. slice_index_or cells group cell.Na) groups
      picked [] = refl
      picked (g ∷ gs) = cc (picked gs)

-- the rows of a Series without a missing cell
one_present : (c : CellValue) → list_all is_present (c ∷ []) ≡ is_present c
one_present = grind arith

each_there : (texts : List Text) (c : Cell) → is_present (datum texts c) ≡ is_there c
each_there texts cell.Na = refl
each_there texts (cell.Int z) = refl
each_there texts (cell.Bool b) = refl
each_there texts (cell.Text id) = refl

complete_rows : (cells : List CellValue) (n : ℕ) → n ≡ length cells → rows_where (list_all is_present) 0 (tabulate n (λ row. slice_index_or cells row na_cell ∷ [])) ≡ rows_where is_present 0 cells
complete_rows cells n is =
    let rows : tabulate n (λ row. slice_index_or cells row na_cell ∷ []) ≡ map (λ c. c ∷ []) cells =
    sym (map-map (λ row. slice_index_or cells row na_cell) (λ c. c ∷ []) _) ∙ ap (map (λ c. c ∷ [])) (ap (λ m. tabulate m (λ row. slice_index_or cells row na_cell)) is ∙ listed_is cells na_cell) in
    ap (rows_where (list_all is_present) 0) rows ∙ rows_where-map (λ c. Unit {0}) (list_all is_present) is_present (λ c. c ∷ []) (λ c u. one_present c) 0 cells (λ k d lt. tt)

rows_with_answers : (texts : List Text) (cells : List Cell) → rows_where is_present 0 (map (datum texts) cells) ≡ answered cells
rows_with_answers texts cells = rows_where-map (λ c. Unit {0}) is_present is_there (datum texts) (λ c u. each_there texts c) 0 cells (λ k d lt. tt)

-- as many cells as groups
counted_by : (op : GroupReduction) (groups : GroupsValue) (a made : ColumnValue) → reduce_groups op groups a ≡ Ok made → length made.cells ≡ groups.count
counted_by op groups a made is = grind (arith, length-map-range_with_len)

module _ (texts : List Text) (t : NumberedTable) (p : Pivoted) (op : GroupReduction) where
  abbrev T : Table
  T = table_value texts t

  abbrev keys : List ℕ
  keys = label_places (pivoted_value p)

  abbrev answer : Result Table FaultValue
  answer = answered_groups T (pivoted_value p) op

  module _ (groups : GroupsValue) (are : groups ≡ groups_of T (groups_by keys)) (a : CellColumn) (at : column_at t.columns p.values ≡ table_column a) where
    column_meant : value_of_column (column_at T.columns p.values) ≡ seen_column texts a
    column_meant = cc (column_seen texts t.columns p.values)

    module _ (reduced : CellColumn) (is : reduce_groups op groups (seen_column texts a) ≡ Ok (seen_column texts reduced)) where
      pub reduced_count : length reduced.cells ≡ groups.count
      reduced_count = sym (length-map reduced.cells (datum texts)) ∙ counted_by op groups (seen_column texts a) (seen_column texts reduced) is

      abbrev series : Table
      series = as_series (under_keys T (groups_by keys) (headings_of T (p.values ∷ [])) (column_of_value (seen_column texts reduced) ∷ []))

      series_is : group_series T keys p.values op ≡ Ok series
      series_is =
          let each : made_column (reduce_groups op (groups_of T (groups_by keys)) (value_of_column (column_at T.columns p.values))) ≡ Ok (column_of_value (seen_column texts reduced)) = cc (column_meant) in
          grind arith

      abbrev there : List ℕ
      there = answered reduced.cells

      labels_counted : length (keys_of T (groups_by keys)) ≡ length (map (datum texts) reduced.cells)
      labels_counted = cc (reduced_count, length-map reduced.cells (datum texts))

      rows_meant : rows_where (list_all is_present) 0 (cells_by_row series (all_places series)) ≡ there
      rows_meant = ap (rows_where (list_all is_present) 0) (by_rows series (all_places series)) ∙ complete_rows (map (datum texts) reduced.cells) _ labels_counted ∙ rows_with_answers texts reduced.cells

      answer_is : answer ≡ Ok (rows_taken series there)
      answer_is = ap (λ r. then_value r (λ s. Ok (without_missing s))) series_is ∙ ap (λ rows. Ok (rows_taken series rows)) rows_meant

      module _ (firsts : List ℕ) (labelled : labels_value texts (map (row_labels t keys) firsts) ≡ keys_of T (groups_by keys)) (counted : length firsts ≡ groups.count) where
        there_below : All (λ group. group < length firsts) there
        there_below = λ k d lt. omega (arith, rows_inside is_there reduced.cells k d lt, reduced_count, counted)

        label_picked : (group : ℕ) → group < length firsts → tuple_value texts (row_labels t keys (slice_index_or firsts group 0)) ≡ slice_index_or (keys_of T (groups_by keys)) group []
        label_picked group lt = sym (get_or-map_at (λ row. tuple_value texts (row_labels t keys row)) firsts group 0 [] lt) ∙ ap (λ labels. slice_index_or labels group []) (sym (map-map (row_labels t keys) (tuple_value texts) firsts) ∙ labelled)

        labels_picked : labels_value texts (map (row_labels t keys) (map (λ group. slice_index_or firsts group 0) there)) ≡ map (λ group. slice_index_or (keys_of T (groups_by keys)) group []) there
        labels_picked =
            map-map (row_labels t keys) (tuple_value texts) _ ∙ map-map (λ group. slice_index_or firsts group 0) (λ row. tuple_value texts (row_labels t keys row)) there
            ∙ map_on (λ group. group < length firsts) _ _ label_picked there there_below

        cell_picked : (group : ℕ) → datum texts (slice_index_or reduced.cells group cell.Na) ≡ slice_index_or (map (datum texts) reduced.cells) group na_cell
        cell_picked group = sym (get_or-map (datum texts) reduced.cells group cell.Na)

        cells_seen : map (datum texts) (map (λ group. slice_index_or reduced.cells group cell.Na) there) ≡ map (λ group. slice_index_or (map (datum texts) reduced.cells) group na_cell) there
        cells_seen = map-map _ (datum texts) there ∙ (λ i. map (λ group. cell_picked group i) there)

        -- what is made is what is meant
        module _ (gaps : List (Option ℕ)) (gaps_are : gaps ≡ map Some there) (made : GroupCells) (rows_are : made.rows ≡ rows_of_groups firsts gaps) (kind_is : made.cells.kind ≡ reduced.kind) (cells_are : made.cells.cells ≡ taken cell.Na reduced.cells gaps) where
          rows_so : made.rows ≡ map (λ group. slice_index_or firsts group 0) there
          rows_so = cc (rows_picked there firsts)

          cells_so : made.cells.cells ≡ map (λ group. slice_index_or reduced.cells group cell.Na) there
          cells_so = cc (cells_picked there reduced.cells)

          pub groups_meant : answer ≡ Ok (words.group_series t p texts made)
          groups_meant = answer_is ∙ (λ i. Ok (sym same i))
            where
              same : words.group_series t p texts made ≡ rows_taken series there
              same = λ i. record {
                shape = Series;
                columns_name = None;
                level_names = headings_seen texts t keys i;
                labels = (ap (λ rows. labels_value texts (map (row_labels t keys) rows)) rows_so ∙ labels_picked) i;
                headings = sym (heading_seen texts t.headings p.values) i ∷ [];
                columns = record { kind = kind_is i; cells = (ap (map (datum texts)) cells_so ∙ cells_seen) i } ∷ [];
              }

          pub counts_agree : length made.cells.cells ≡ length made.rows
          counts_agree = ap length cells_so ∙ length-map there _ ∙ sym (ap length rows_so ∙ length-map there _)

          pub rows_in_table : AreRowsOf t firsts → AreRowsOf t made.rows
          rows_in_table inside = rw rows_so (All-map (λ row. row < length t.labels) (λ group. slice_index_or firsts group 0) there (λ k d lt. inside _ _ (there_below k d lt)))

-- a column of the table was given
pub place_given : (texts : List Text) (t : NumberedTable) (place : ℕ) (c : CellColumn) → IsSettled table_value texts t → place < length t.columns → column_at t.columns place ≡ table_column c → AreGiven texts c.cells
place_given _ t place c settled lt here = rw here at (columns_given _ _ (columns_part _ t settled) place no_column lt)

-- cells that are taken of given ones were given
index_given : (texts : List Text) (cells : List Cell) (k : ℕ) → AreGiven texts cells → IsGiven texts (slice_index_or cells k cell.Na)
index_given texts [] k all = tt
index_given texts (c ∷ cs) zero all = all 0 c (omega arith)
index_given texts (c ∷ cs) (suc k) all = index_given texts cs k (All-tail (IsGiven texts) c cs all)

gap_given : (texts : List Text) (cells : List Cell) (gap : Option ℕ) → AreGiven texts cells → IsGiven texts (gap_cell cell.Na cells gap)
gap_given texts cells None all = tt
gap_given texts cells (Some k) all = index_given texts cells k all

pub taken_given : (texts : List Text) (cells : List Cell) (gaps : List (Option ℕ)) → AreGiven texts cells → AreGiven texts (taken cell.Na cells gaps)
taken_given texts cells gaps all = All-map (IsGiven texts) (gap_cell cell.Na cells) gaps (λ k d lt. gap_given texts cells _ all)
