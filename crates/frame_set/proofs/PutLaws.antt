-- Columns that are put into a frame.
use Rattle.{frame_parts.proofs.Common.{column_seen, map-map, length-map, length-set, length-append, All-head, All-tail, All-map, nat_tests, ◌≡◌, ◌∙◌, ap, ℕ, ◌<◌, List, [], ◌∷◌, ◌++◌, length, map, refl, sym, subst, arith, All, Some, None, Result, Ok, ◌≢◌, IsSome, fold, ColumnOf, NumberedTable, Table, table_value, tuple_value, IsSettled, put_at, with_column, IsWhole, Cell, Na, Label, Shape, Text, CellValue, LabelValue, label_datum, AreGiven, FaultValue, then_value, AxisValue, CellColumn, missing_column, HeadingList, HaveRows, table_with, Tables, with_object, labels_value, headings_value, columns_value, map-put_at, table_settled, columns_name_part, headings_part, columns_part, column_settled}, frame_store.specs.tables.Table.{TableOf}, frame_parts.specs.form.Select.{places_of_label}, multi_index.proofs.pick.InsideLaws.{rows_inside}, frame_select.specs.select.Set.{or_last, places_to_put, put_result, with_rows}, frame_set.{specs.Assigned.{count_after, table_column, put_places, missing_cells, with_axis, with_places}, proofs.ColumnLaws.{map-replicate, length-replicate}}}
use Rattle.frame_parts.specs.form.Finish as finish

-- a column in several places

pub put_each : {L C : Type 0} (t : TableOf L C) (places : List ℕ) (label : L) (c : ColumnOf C)
    → with_places t places label c ≡ record t { headings = fold (λ hs place. put_at hs place (Some label)) t.headings places; columns = fold (λ cs place. put_at cs place c) t.columns places }
put_each t [] label c = refl
put_each t (place ∷ places) label c = put_each (with_column t place (Some label) c) places label c

pub labels_kept : {L C : Type 0} (t : TableOf L C) (places : List ℕ) (label : L) (c : ColumnOf C) → (with_places t places label c).labels ≡ t.labels
labels_kept {L} {C} t places label c = ap (λ (u : TableOf L C). u.labels) (put_each t places label c)

-- those that are there stay as many
pub count_put : {X : Type 0} (xs : List X) (x : X) (places : List ℕ) → All (λ place. place < length xs) places → length (fold (λ ys place. put_at ys place x) xs places) ≡ length xs
count_put xs x [] below = refl
count_put xs x (place ∷ places) below =
    let same : length (put_at xs place x) ≡ length xs = grind (arith, nat_tests, length-set, All-head (λ p. p < length xs) place places below) in
    let later : All (λ p. p < length (put_at xs place x)) places = subst (λ n. All (λ p. p < n) places) (sym same) (All-tail (λ p. p < length xs) place places below) in
    count_put (put_at xs place x) x places later ∙ same

count_put_or_last : {X : Type 0} (xs : List X) (x : X) (found : List ℕ) → All (λ place. place < length xs) found → length (fold (λ ys place. put_at ys place x) xs (or_last (length xs) found)) ≡ count_after (length xs) (length found)
count_put_or_last xs x [] below = grind (arith, nat_tests, length-append)
count_put_or_last xs x (place ∷ places) below = grind (arith, nat_tests, count_put xs x (place ∷ places) below)

module _ (t : Table) (l : LabelValue) (c : ColumnOf CellValue) (headed : length t.headings ≡ length t.columns) where
  abbrev found : List ℕ
  found = places_of_label t.headings l

  columns_after_put : length (with_places t (places_to_put t l) l c).columns ≡ count_after (length t.headings) (length found)
  columns_after_put =
      let below : All (λ place. place < length t.columns) found = subst (λ n. All (λ place. place < n) found) headed (rows_inside (finish.same_heading (Some l)) t.headings) in
      ap (λ (u : Table). length u.columns) (put_each t (places_to_put t l) l c)
      ∙ ap (λ n. length (fold (λ cs place. put_at cs place c) t.columns (or_last n found))) headed
      ∙ count_put_or_last t.columns c found below
      ∙ ap (λ n. count_after n (length found)) (sym headed)

abbrev pub put_there : Table → LabelValue → ColumnOf CellValue → List ℕ → Result Table FaultValue
put_there t l c places = Ok (with_places t places l c)

pub put_by : (t : Table) (l : LabelValue) (c : ColumnOf CellValue) → length t.headings ≡ length t.columns → put_result t l c ≡ then_value (put_places (length t.labels) t l) (put_there t l c)
put_by t l c headed = grind (arith, columns_after_put t l c headed, put_each t (places_to_put t l) l c)

pub put_seen : (texts : List Text) (t : NumberedTable) (label : Label) (c : ColumnOf CellValue) (rows : ℕ) → IsWhole t → rows ≡ length t.labels
    → put_result (table_value texts t) (label_datum texts label) c ≡ then_value (put_places rows (table_value texts t) (label_datum texts label)) (put_there (table_value texts t) (label_datum texts label) c)
put_seen texts t label c _ whole is = cc (put_by (table_value texts t) (label_datum texts label) c (search length-map), length-map t.labels (tuple_value texts))

one_seen : (texts : List Text) (t : NumberedTable) (place : ℕ) (label : Label) (c : CellColumn)
    → with_column (table_value texts t) place (Some (label_datum texts label)) (column_seen texts c) ≡ table_value texts (with_column t place (Some label) (table_column c))
one_seen = search map-put_at

pub places_seen : (texts : List Text) (t : NumberedTable) (places : List ℕ) (label : Label) (c : CellColumn)
    → with_places (table_value texts t) places (label_datum texts label) (column_seen texts c) ≡ table_value texts (with_places t places label (table_column c))
places_seen texts t [] label c = refl
places_seen texts t (place ∷ places) label c =
    ap (λ (u : Table). with_places u places (label_datum texts label) (column_seen texts c)) (one_seen texts t place label c)
    ∙ places_seen texts (with_column t place (Some label) (table_column c)) places label c

pub put_meant : (texts : List Text) (t : NumberedTable) (places : List ℕ) (rows : ℕ) (label : Label) (c : CellColumn) (u : NumberedTable) → IsWhole t → rows ≡ length t.labels → put_places rows (table_value texts t) (label_datum texts label) ≡ Ok places
    → u ≡ with_places t places label (table_column c) → put_result (table_value texts t) (label_datum texts label) (column_seen texts c) ≡ Ok (table_value texts u)
put_meant texts t places rows label c u whole count placed is = grind (arith, put_seen texts t label (column_seen texts c) rows whole count, places_seen texts t places label c)

one_settled : (texts : List Text) (t : NumberedTable) (place : ℕ) (label : Label) (c : ColumnOf Cell) → IsSettled table_value texts t → IsSettled label_datum texts label → AreGiven texts c.cells → IsSettled table_value texts (with_column t place (Some label) c)
one_settled texts t place _ c settled named given more =
    let part : columns_value (texts ++ more) (put_at t.columns place c) ≡ columns_value texts (put_at t.columns place c) = search (map-put_at, columns_part, column_settled) in
    grind (arith, map-put_at, settled more, named more)

pub put_settled : (texts : List Text) (t : NumberedTable) (places : List ℕ) (label : Label) (c : ColumnOf Cell) → IsSettled table_value texts t → IsSettled label_datum texts label → AreGiven texts c.cells → IsSettled table_value texts (with_places t places label c)
put_settled texts t [] label c settled named given = settled
put_settled texts t (place ∷ places) label c settled named given = put_settled texts (with_column t place (Some label) c) places label c (one_settled texts t place label c settled named given) named given

-- a frame with rows of missing cells
missing_seen : (texts : List Text) (n : ℕ) (columns : List (ColumnOf Cell)) → columns_value texts (map (missing_cells n) columns) ≡ map (λ c. missing_column c.kind n) columns
missing_seen = search (map-map, map-replicate)

pub rows_seen : (texts : List Text) (t : NumberedTable) (axis : AxisValue) → with_rows (table_value texts t) (labels_value texts axis.tuples) (headings_value texts axis.names) ≡ table_value texts (with_axis t axis)
rows_seen = grind (arith, length-map, map-map, missing_seen)

pub rows_settled : (texts : List Text) (t : NumberedTable) (axis : AxisValue) → IsSettled table_value texts t → IsSettled labels_value texts axis.tuples → IsSettled headings_value texts axis.names → IsSettled table_value texts (with_axis t axis)
rows_settled = search (table_settled, columns_name_part, headings_part, missing_seen)

missing_rows : (n : ℕ) (columns : List (ColumnOf Cell)) → HaveRows n (map (missing_cells n) columns)
missing_rows n columns = All-map (λ c. length c.cells ≡ n) (missing_cells n) columns (λ k d lt. length-replicate n Na)

abbrev pub own_headings : NumberedTable → HeadingList
own_headings t = record { columns_name = t.columns_name; labels = t.headings }

pub rows_whole : (t : NumberedTable) (shape : Shape) (axis : AxisValue) (headings : HeadingList) (columns : List (ColumnOf Cell)) (n : ℕ) → IsWhole t → shape ≡ t.shape → headings ≡ own_headings t → n ≡ length axis.tuples → columns ≡ map (missing_cells n) t.columns
    → IsWhole (table_with shape axis headings columns)
rows_whole = grind (arith, length-map, missing_rows)

-- a table that takes the place of another one

pub table_there : (old new : Tables) (id : ℕ) (t : NumberedTable) → new ≡ with_object old id (Some t) → new id ≡ Some t
table_there = grind (arith, nat_tests)

pub another : (tables : Tables) (on fresh : ℕ) → IsSome (tables on) → tables fresh ≡ None → on ≢ fresh
another = grind arith

pub kept_there : (old new : Tables) (id other : ℕ) (t : NumberedTable) → new ≡ with_object old id (Some t) → other ≢ id → new other ≡ old other
kept_there = grind (arith, nat_tests)

pub replaced : (old added new : Tables) (on grown : ℕ) (t : NumberedTable) → IsSome (old on) → old grown ≡ None → added ≡ with_object old grown (Some t)
    → new ≡ with_object (with_object added on (added grown)) grown None → new ≡ with_object old on (Some t)
replaced = grind (arith, nat_tests)
