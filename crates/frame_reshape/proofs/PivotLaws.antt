-- Rows that are spread by the cells of columns: the labels of the index, and those of the columns.
use Rattle.{frame_parts.proofs.Common.{arith, ◌≡◌, ◌∙◌, ap, refl, sym, ℕ, suc, ◌+◌, ◌≤◌, true, nat_lt, List, [], ◌∷◌, ◌++◌, map, length, slice_index_or, Option, None, Result, Ok, nat_tests, length-map, length-append, map-append, get_or_push, headings_part, Label, Text, label_datum, LabelValue, na, CellValue, FaultValue, then_value, HaveLevels, IsSettled, ColumnOf, NumberedTable, Table, column_at, table_value, column_value, heading_value, tuple_value, Entry, labels_value, headings_value, Makes, OpFault}, column_core.{proofs.cells.Common.{remove, take_at, drop_all, append-nil}, specs.Columns.{CellColumn}}, frame_select.{specs.Selected.{heading_of, headings_at}, proofs.{AnswerLaws.{column_seen}}}, frame_labels.{specs.{Levels.{row_labels}, method.Reshape.{label_places, labels_besides, labels_on, spread_result, pivoted, pivot_of, under_cells, answered_groups, pivot_table_of}}, proofs.{IndexingLaws.{all_rows, tuples_seen, headings_seen, headings_settled, rows_alike, labels_count}, GroupLaws.{key_labels_settled}}}, factorize.specs.{Keys.{levels_of}, group.Reductions.{GroupReduction}}, frame_reshape.{specs.{Pivots.{pivoted_value, IsPivoted}, Spreads.{AreEntries}, Groups.{group_series}, declared.{told.Pivoted.{Pivoted}, grouping.GroupCells.{GroupCells}}}}}

-- a list without its last item, and that item
remove_last : {X : Type 0} (xs : List X) (x : X) (n : ℕ) → length xs ≡ n → remove (xs ++ x ∷ []) n ≡ xs
remove_last xs x n is = cc (take_at xs (x ∷ []) n is, drop_all (suc n) (xs ++ x ∷ []) (omega (arith, length-append xs (x ∷ []), is)), append-nil xs)

module _ (texts : List Text) (t : NumberedTable) (index : List ℕ) (column : ℕ) where
  abbrev whole : ℕ → List LabelValue
  whole row = tuple_value texts (row_labels t (index ++ column ∷ []) row)

  abbrev front : ℕ → List LabelValue
  front row = tuple_value texts (row_labels t index row)

  abbrev last : ℕ → List LabelValue
  last row = tuple_value texts (row_labels t (column ∷ []) row)

  split : (row : ℕ) → whole row ≡ front row ++ last row
  split row = rw (map-append, map-append, map-append) refl

  front_count : (row : ℕ) → length (front row) ≡ length index
  front_count row = length-map (row_labels t index row) (label_datum texts) ∙ labels_count t index row

  pub besides : (rows : List ℕ) → map (λ labels. remove labels (length index)) (labels_value texts (map (row_labels t (index ++ column ∷ [])) rows)) ≡ labels_value texts (map (row_labels t index) rows)
  besides [] = refl
  besides (r ∷ rs) = cc (split r, remove_last (front r) (slice_index_or (last r) 0 na) (length index) (front_count r), besides rs)

  pub on_last : (rows : List ℕ) → map (λ labels. slice_index_or labels (length index) na ∷ []) (labels_value texts (map (row_labels t (index ++ column ∷ [])) rows)) ≡ labels_value texts (map (row_labels t (column ∷ [])) rows)
  on_last [] = refl
  on_last (r ∷ rs) = cc (split r, get_or_push (front r) (slice_index_or (last r) 0 na) na (length index) (front_count r), on_last rs)

  names_split : headings_value texts (headings_at t (index ++ column ∷ [])) ≡ headings_value texts (headings_at t index) ++ heading_value texts (heading_of t column) ∷ []
  names_split = rw (map-append, map-append) refl

  names_count : length (headings_value texts (headings_at t index)) ≡ length index
  names_count = length-map (headings_at t index) (heading_value texts) ∙ length-map index (heading_of t)

  pub names_besides : remove (headings_value texts (headings_at t (index ++ column ∷ []))) (length index) ≡ headings_value texts (headings_at t index)
  names_besides = cc (names_split, remove_last (headings_value texts (headings_at t index)) (heading_value texts (heading_of t column)) (length index) names_count)

  pub name_last : slice_index_or (headings_value texts (headings_at t (index ++ column ∷ []))) (length index) None ≡ heading_value texts (heading_of t column)
  name_last = cc (names_split, get_or_push (headings_value texts (headings_at t index)) (heading_value texts (heading_of t column)) None (length index) names_count)

-- what is meant of a Series of these rows
module _ (texts : List Text) (t : NumberedTable) (p : Pivoted) where
  abbrev places : List ℕ
  places = label_places (pivoted_value p)

  places_count : length places ≡ length p.index + 1
  places_count = length-append p.index (p.columns ∷ [])

  abbrev pub spread_by : List ℕ → ColumnOf CellValue → Result Entry FaultValue
  spread_by rows c =
      spread_result (labels_value texts (map (row_labels t p.index) rows)) (labels_value texts (map (row_labels t (p.columns ∷ [])) rows)) (headings_value texts (headings_at t p.index)) (heading_value texts (heading_of t p.columns)) c

  pub spread_is : (s : Table) (rows : List ℕ) (c : ColumnOf CellValue) → nat_lt (length p.index) 4 ≡ true → s.labels ≡ labels_value texts (map (row_labels t places) rows) → s.level_names ≡ headings_value texts (headings_at t places) → s.columns ≡ c ∷ []
      → pivoted (pivoted_value p) s ≡ spread_by rows c
  spread_is s rows c few labels names columns =
      let within : pivoted (pivoted_value p) s ≡ spread_result (labels_besides s (length p.index)) (labels_on s (length p.index)) (remove s.level_names (length p.index)) (slice_index_or s.level_names (length p.index) None) (column_at s.columns 0) =
      grind (arith, nat_tests, places_count) in
      let n = length p.index in
      let rest = ap (map (λ l. remove l n)) labels ∙ besides texts t p.index p.columns rows in
      let last = ap (map (λ l. slice_index_or l n na ∷ [])) labels ∙ on_last texts t p.index p.columns rows in
      let own = ap (λ ns. remove ns n) names ∙ names_besides texts t p.index p.columns in
      let name = ap (λ ns. slice_index_or ns n None) names ∙ name_last texts t p.index p.columns in
      within ∙ (λ i. spread_result (rest i) (last i) (own i) (name i) (column_at (columns i) 0))

  -- of all rows
  pub pivot_is : (c : CellColumn) → nat_lt (length p.index) 4 ≡ true → column_at t.columns p.values ≡ record { kind = c.kind; cells = c.cells } → pivot_of (table_value texts t) (pivoted_value p) ≡ spread_by (all_rows t) (column_value texts record { kind = c.kind; cells = c.cells })
  pivot_is c few at =
      spread_is (under_cells (table_value texts t) places p.values) (all_rows t) (column_value texts record { kind = c.kind; cells = c.cells }) few (sym (tuples_seen texts t places)) (sym (headings_seen texts t places))
      (ap (λ d. d ∷ []) (column_seen texts t.columns p.values ∙ ap (column_value texts) at))

  -- of groups
  pub table_is : (op : GroupReduction) (g : GroupCells) → nat_lt (length p.index) 4 ≡ true → answered_groups (table_value texts t) (pivoted_value p) op ≡ Ok (group_series t p texts g)
      → pivot_table_of (table_value texts t) op (pivoted_value p) ≡ spread_by g.rows (column_value texts record { kind = g.cells.kind; cells = g.cells.cells })
  table_is op g few answered =
      ap (λ r. then_value r (pivoted (pivoted_value p))) answered
      ∙ spread_is (group_series t p texts g) g.rows (column_value texts record { kind = g.cells.kind; cells = g.cells.cells }) few refl refl refl

  -- the labels of rows are entries
  pub are_entries : (rows : List ℕ) (count : ℕ) → IsSettled table_value texts t → IsPivoted t p → nat_lt (length p.index) 4 ≡ true → count ≡ length rows → AreEntries texts count (length p.index) (map (row_labels t p.index) rows) (map (row_labels t (p.columns ∷ [])) rows)
  are_entries rows count settled told few is = record {
    some = told.some;
    few = grind (arith, nat_tests);
    keys = rows_alike t p.index rows _ refl;
    labels = rows_alike t (p.columns ∷ []) rows _ refl;
    count = length-map rows (row_labels t p.index) ∙ sym is;
    count' = length-map rows (row_labels t (p.columns ∷ [])) ∙ sym is;
    given = key_labels_settled texts t p.index rows settled;
    given' = key_labels_settled texts t (p.columns ∷ []) rows settled;
  }

-- how many levels keys have; where there is none, one is counted
pub levels_alike : (levels : ℕ) (tuples : List (List Label)) → HaveLevels levels tuples → HaveLevels (levels_of tuples) tuples
levels_alike levels [] alike = λ k d lt. absurd (omega (arith, lt))
levels_alike levels (x ∷ xs) alike =
    let same : levels_of (x ∷ xs) ≡ levels = alike 0 x (omega arith) in
    rw same alike

pub levels_few : (levels most : ℕ) (tuples : List (List Label)) → HaveLevels levels tuples → levels ≤ most → 1 ≤ most → levels_of tuples ≤ most
levels_few levels most [] alike few some = some
levels_few levels most (x ∷ xs) alike few some = omega (arith, alike 0 x (omega arith), few)

-- what is made of labels that are read is what is meant of them
abbrev pub Made : List Text → List (Option Label) → Option Label → CellColumn → Result NumberedTable OpFault → List (List Label) → List (List Label) → Type 0
Made texts names name c made rest labels =
    Makes texts made (spread_result (labels_value texts rest) (labels_value texts labels) (headings_value texts names) (heading_value texts name) (column_value texts record { kind = c.kind; cells = c.cells }))

module _ (texts : List Text) (t : NumberedTable) (p : Pivoted) (settled : IsSettled table_value texts t) (told : IsPivoted t p) (few : nat_lt (length p.index) 4 ≡ true) (rows : List ℕ) (rest labels : List (List Label)) (rest_are : rest ≡ map (row_labels t p.index) rows) (labels_are : labels ≡ map (row_labels t (p.columns ∷ [])) rows)
    (names : List (Option Label)) (named : names ≡ headings_at t p.index) where
  rest_alike : HaveLevels (length p.index) rest
  rest_alike = rows_alike t p.index rows rest rest_are

  pub rest_levels : HaveLevels (levels_of rest) rest
  rest_levels = levels_alike (length p.index) rest rest_alike

  pub rest_few : levels_of rest ≤ 3
  rest_few =
      let most : length p.index ≤ 3 = grind (arith, nat_tests) in
      levels_few (length p.index) 3 rest rest_alike most (omega arith)

  pub labels_one : HaveLevels 1 labels
  labels_one = rows_alike t (p.columns ∷ []) rows labels labels_are

  pub names_given : IsSettled headings_value texts names
  names_given = rw named (headings_settled texts t p.index (headings_part texts t settled))

  pub entries_are : (count : ℕ) → count ≡ length rows → AreEntries texts count (length names) rest labels
  entries_are count is =
      let levels : length names ≡ length p.index = ap length named ∙ length-map p.index (heading_of t) in
      rw (levels, rest_are, labels_are) (are_entries texts t p rows count settled told few is)

  pub made_so : (name : Option Label) (c : CellColumn) (made : Result NumberedTable OpFault) → name ≡ heading_of t p.columns → Made texts names name c made rest labels → Makes texts made (spread_by texts t p rows (column_value texts record { kind = c.kind; cells = c.cells }))
  made_so name c made is makes = rw (← rest_are, ← labels_are, ← named, ← is) makes
