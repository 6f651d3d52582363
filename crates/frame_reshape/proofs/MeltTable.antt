-- The frame that `melt` makes is the one that is meant.
use Rattle.{frame_parts.proofs.Common.{◌≡◌, ◌∙◌, ap, refl, sym, subst, arith, ℕ, suc, zero, ◌<◌, ◌≤◌, ◌^◌, pos, true, false, List, [], ◌∷◌, ◌++◌, map, length, replicate, flat_map, All, Option, None, IsSome, Result, Ok, Err, nat_tests, append_assoc, map-append, length-map, length-append, length-replicate, get_or-map, length-map-range_with_len, All-map, All-append, All-cons, All-nil, Cell, Label, Kind, Frame, Limit, WrongKind, IsLonger, Text, datum, CellValue, FaultValue, then_value, int, CellBlock, AxisValue, range_axis, default_labels, default_seen, IsSettled, ColumnOf, NumberedTable, Table, table_value, column_value, heading_value, tuple_value, column_at, IsWhole, Entry, table, OpFault, Refused, HeadingList, columns_of, single_block, table_column, CellColumn, table_of, table_settled, settled_by, settled_later, seen_later, IsKnownTable, columns_value, headings_value, cells_value, Makes, MakesBy, column_listed, within_limits, limited, refused_on}, column_core.proofs.{cells.Common.{◌*◌}, CellRows.{map-map}}, frame_select.proofs.AnswerLaws.{column_seen}, frame_labels.{specs.method.{Concat.{columns_below}, Reshape.{value_labels, label_column, melted_headings, melted, melt_of}}, proofs.{TableLaws.{limited_within, frame_heads}, IndexingLaws.{labelled, headings_seen}}}, frame_reshape.{specs.{Checks.{kinds_at, are_one}, Melts.{heading_cell, heading_cells, label_cells, kept_column, melted_value, IsMelted}, declared.melting.Melted.{Melted}}, proofs.MeltCells.{first_kind, below, below_meant, below_count, rows_of_columns, headings_meant}}}
use Rattle.frame_labels.specs.method.Reshape as meant

-- the columns of the frame, and as they are seen
abbrev pub melted_columns : NumberedTable → Melted → Kind → List (ColumnOf Cell)
melted_columns t m kind = map (kept_column t (length m.values)) m.kept ++ record { kind = kind; cells = label_cells t m.values } ∷ below t m.values ∷ []

abbrev below_value : Table → List ℕ → ColumnOf CellValue
below_value v places = record { kind = first_kind (map (λ place. (column_at v.columns place).kind) places); cells = flat_map (λ place. (column_at v.columns place).cells) places }

abbrev columns_meant : Table → Melted → Kind → List (ColumnOf CellValue)
columns_meant v m kind = map (meant.kept_column v m.values) m.kept ++ label_column v record { kind = kind; cells = map (meant.heading_cell v) m.values } ∷ below_value v m.values ∷ []

module _ (texts : List Text) where
  repeats_seen : (cells : List Cell) (place : ℕ) (values : List ℕ) → map (datum texts) (flat_map (λ value. cells) (replicate (length values) place)) ≡ flat_map (λ value. map (datum texts) cells) values
  repeats_seen cells place [] = refl
  repeats_seen cells place (v ∷ vs) = cc (map-append (datum texts) cells (flat_map (λ value. cells) (replicate (length vs) place)), repeats_seen cells place vs)

  kept_seen : (t : NumberedTable) (values : List ℕ) (place : ℕ) → column_value texts (kept_column t (length values) place) ≡ meant.kept_column (table_value texts t) values place
  kept_seen t values place =
      let seen : column_value texts (column_at t.columns place) ≡ column_at (table_value texts t).columns place = sym (column_seen texts t.columns place) in
      let cells = repeats_seen (column_at t.columns place).cells place values ∙ ap (λ (c : ColumnOf CellValue). flat_map (λ value. c.cells) values) seen in
      λ i. record { kind = (seen i).kind; cells = cells i }

  one_repeated : (n : ℕ) (c : Cell) → map (datum texts) (replicate n c) ≡ replicate n (datum texts c)
  one_repeated zero c = refl
  one_repeated (suc n) c = cc (one_repeated n c)

  each_repeated : (n : ℕ) (cells : List Cell) → map (datum texts) (flat_map (replicate n) cells) ≡ flat_map (replicate n) (cells_value texts cells)
  each_repeated n [] = refl
  each_repeated n (c ∷ cs) = cc (map-append (datum texts) (replicate n c) (flat_map (replicate n) cs), one_repeated n c, each_repeated n cs)

  labels_seen : (t : NumberedTable) (values : List ℕ) → map (datum texts) (label_cells t values) ≡ flat_map (replicate (length (table_value texts t).labels)) (map (meant.heading_cell (table_value texts t)) values)
  labels_seen t values =
      each_repeated (length t.labels) (heading_cells t values) ∙ (λ i. flat_map (replicate (sym (length-map t.labels (tuple_value texts)) i)) (headings_meant texts t values i))

  kinds_seen : (t : NumberedTable) (places : List ℕ) → kinds_at t places ≡ map (λ place. (column_at (table_value texts t).columns place).kind) places
  kinds_seen t [] = refl
  kinds_seen t (p ∷ ps) = cc (column_seen texts t.columns p, kinds_seen t ps)

  cells_seen : (t : NumberedTable) (places : List ℕ) → map (datum texts) (below t places).cells ≡ (below_value (table_value texts t) places).cells
  cells_seen t [] = refl
  cells_seen t (p ∷ ps) = cc (column_seen texts t.columns p, cells_seen t ps, map-append (datum texts) (column_at t.columns p).cells (below t ps).cells)

  pub columns_seen : (t : NumberedTable) (m : Melted) (kind : Kind) → columns_value texts (melted_columns t m kind) ≡ columns_meant (table_value texts t) m kind
  columns_seen t m kind =
      rw (map-append, map-map) (λ i. map (λ place. kept_seen t m.values place i) m.kept ++ record { kind = kind; cells = labels_seen t m.values i } ∷ record { kind = first_kind (kinds_seen t m.values i); cells = cells_seen t m.values i } ∷ [])

-- the columns that stay, the labels and the cells, one behind the other
pub columns_made : (t : NumberedTable) (m : Melted) (kind : Kind) (first mid blocks : List CellBlock) (labels cells : CellColumn) (one two : CellBlock) → columns_of first ≡ map (kept_column t (length m.values)) m.kept → labels ≡ record { kind = kind; cells = label_cells t m.values }
    → one ≡ single_block (table_column labels) → mid ≡ first ++ one ∷ [] → table_column cells ≡ below t m.values → two ≡ single_block (table_column cells) → blocks ≡ mid ++ two ∷ [] → columns_of blocks ≡ melted_columns t m kind
columns_made t m kind first mid blocks labels cells one two kept labelled box pushed melted box' pushed' =
    let whole : columns_of blocks ≡ (columns_of first ++ table_column labels ∷ []) ++ table_column cells ∷ [] = rw (pushed', pushed, map-append, map-append, box, box') refl in
    let named : table_column labels ≡ record { kind = kind; cells = label_cells t m.values } = ap table_column labelled in
    whole ∙ (λ i. (kept i ++ named i ∷ []) ++ melted i ∷ []) ∙ append_assoc (map (kept_column t (length m.values)) m.kept) (record { kind = kind; cells = label_cells t m.values } ∷ []) (below t m.values ∷ [])

-- how many cells each has
repeated_count : {A : Type 0} (cells : List A) (place n rows : ℕ) → length cells ≡ rows → length (flat_map (λ value. cells) (replicate n place)) ≡ n * rows
repeated_count cells place zero rows is = omega arith
repeated_count cells place (suc n) rows is = omega (arith, length-append cells (flat_map (λ value. cells) (replicate n place)), repeated_count cells place n rows is, is)

labels_count : {A : Type 0} (n : ℕ) (cells : List A) → length (flat_map (replicate n) cells) ≡ length cells * n
labels_count n [] = omega arith
labels_count n (c ∷ cs) = omega (arith, length-append (replicate n c) (flat_map (replicate n) cs), length-replicate n c, labels_count n cs)

abbrev HasRows : ℕ → ColumnOf Cell → Type 0
HasRows rows c = length c.cells ≡ rows

pub columns_filled : (t : NumberedTable) (m : Melted) (kind : Kind) → IsWhole t → IsMelted t m → All (HasRows (length m.values * length t.labels)) (melted_columns t m kind)
columns_filled t m kind whole there =
    let rows = length m.values * length t.labels in
    let labels : ColumnOf Cell = record { kind = kind; cells = label_cells t m.values } in
    All-append (HasRows rows) (map (kept_column t (length m.values)) m.kept) (labels ∷ below t m.values ∷ [])
    (All-map (HasRows rows) (kept_column t (length m.values)) m.kept (λ k d lt. repeated_count _ _ _ _ (rows_of_columns t m.kept whole there.kept k d lt)))
    (All-cons (HasRows rows) labels (below t m.values ∷ []) (labels_count (length t.labels) (heading_cells t m.values) ∙ ap (λ n. n * length t.labels) (length-map m.values (heading_cell t)))
    (All-cons (HasRows rows) (below t m.values) [] (below_count (length t.labels) t m.values (rows_of_columns t m.values whole there.values)) (All-nil (HasRows rows))))

-- not too many
pub rows_few : (rows each columns count : ℕ) → count ≡ rows * each → within_limits count columns ≡ true → each * rows ≤ 2 ^ 26
rows_few rows each columns count is within =
    let few : count ≤ 2 ^ 26 = grind (arith, nat_tests) in
    omega arith

pub below_few : (t : NumberedTable) (m : Melted) → IsWhole t → IsMelted t m → length m.values * length t.labels ≤ 2 ^ 26 → length (below t m.values).cells ≤ 2 ^ 26
below_few t m whole there few = omega (arith, few, below_count (length t.labels) t m.values (rows_of_columns t m.values whole there.values))

-- labels that there are
headings_some : (texts : List Text) (hs : List (Option Label)) → All IsSome hs → All IsSome (headings_value texts hs)
headings_some texts hs all = All-map IsSome _ _ (λ k d lt. grind (arith, all k d lt))

some_headings : (texts : List Text) (hs : List (Option Label)) → All IsSome (headings_value texts hs) → All IsSome hs
some_headings texts hs all = λ k d lt. grind (arith, subst IsSome (get_or-map (heading_value texts) hs k d) (all k _ (omega (arith, length-map hs (heading_value texts), lt))))

pub labels_some : (old new : List Text) (t : NumberedTable) (kept : List ℕ) (labels : List (Option Label)) → IsWhole t → t.shape ≡ Frame → All (λ place. place < length t.columns) kept → headings_value new labels ≡ melted_headings (table_value old t) kept → All IsSome labels
labels_some old new t kept labels whole frame there is =
    let own = rw (headings_seen old t kept) at (headings_some old _ (labelled t kept (whole.headings.labelled frame) (rw (sym whole.headed) at there))) in
    some_headings new labels (subst (All IsSome) (sym is) (All-append IsSome _ _ own (grind arith)))

-- as many rows as are numbered
rows_numbered : (count : ℕ) → length (range_axis count).tuples ≡ count
rows_numbered = grind (arith, length-map, length-map-range_with_len)

-- a refusal of the labels, or of kinds that aren't one
module _ (texts : List Text) (t : NumberedTable) (m : Melted) where
  pub labels_refused : (made : Result Kind OpFault) (fault : OpFault) → made ≡ Err fault → MakesBy (column_listed (heading_cells t m.values)) texts made (value_labels (table_value texts t) m.values) → Makes texts (Err fault) (melt_of (table_value texts t) (melted_value m))
  labels_refused made fault is makes = refused_on (column_listed (heading_cells t m.values)) texts (value_labels (table_value texts t) m.values) _ made fault is makes

  pub kinds_refused : (labels : ColumnOf CellValue) → value_labels (table_value texts t) m.values ≡ Ok labels → are_one (kinds_at t m.values) ≡ false → Makes texts (Err (Refused WrongKind)) (melt_of (table_value texts t) (melted_value m))
  kinds_refused labels told other = grind (arith, below_meant texts t m.values false other)

-- the frame of labels that were made
module _ (old new : List Text) (t : NumberedTable) (m : Melted) (known : IsKnownTable old t) (frame : t.shape ≡ Frame) (there : IsMelted t m) (kind : Kind) (told : value_labels (table_value old t) m.values ≡ Ok (column_listed (heading_cells t m.values) old kind)) (one : are_one (kinds_at t m.values) ≡ true)
    (longer : IsLonger old new) (labels slice : List (Option Label)) (given : IsSettled headings_value new labels) (labels_are : headings_value new labels ≡ melted_headings (table_value old t) m.kept) (sliced : slice ≡ labels) where
  abbrev T : Table
  T = table_value old t

  abbrev answer : Result Entry FaultValue
  answer = melt_of T (melted_value m)

  abbrev frame_meant : Table
  frame_meant = melted T (melted_value m) (column_listed (heading_cells t m.values) old kind) (column_value old (below t m.values))

  answer_is : answer ≡ limited frame_meant
  answer_is =
      ap (λ r. then_value r (λ labels. then_value (columns_below (map (column_at T.columns) m.values)) (λ cells. limited (melted T (melted_value m) labels cells)))) told
      ∙ ap (λ r. then_value r (λ cells. limited (melted T (melted_value m) (column_listed (heading_cells t m.values) old kind) cells))) (below_meant old t m.values true one)

  rows_meant : length frame_meant.labels ≡ length m.values * length t.labels
  rows_meant = length-map-range_with_len (λ row. int (pos row) ∷ []) 0 (length m.values * length T.labels) ∙ ap (λ n. length m.values * n) (length-map t.labels (tuple_value old))

  -- as many labels as columns
  labels_counted : length labels ≡ length (melted_columns t m kind)
  labels_counted = grind (arith, length-append, length-map)

  headed : length frame_meant.columns ≡ length slice
  headed = grind (arith, length-append, length-map)

  pub beyond_so : within_limits (length t.labels * length m.values) (length slice) ≡ false → Makes new (Err (Refused Limit)) answer
  beyond_so beyond =
      let many : within_limits (length frame_meant.labels) (length frame_meant.columns) ≡ false = rw (rows_meant, headed) (grind arith) in
      grind (arith, answer_is)

  -- its columns and rows
  module _ (count : ℕ) (counted : count ≡ length t.labels * length m.values) (within : within_limits count (length slice) ≡ true) (axis : AxisValue) (axis_is : axis ≡ range_axis count) (headings : HeadingList) (headings_are : headings ≡ record { columns_name = None; labels = slice }) (blocks : List CellBlock)
      (blocks_are : columns_of blocks ≡ melted_columns t m kind) where
    abbrev whole : NumberedTable
    whole = record {
      shape = Frame;
      columns_name = None;
      level_names = (range_axis count).names;
      labels = (range_axis count).tuples;
      headings = labels;
      columns = melted_columns t m kind;
    }

    rows_are : count ≡ length m.values * length T.labels
    rows_are =
        let turned : length t.labels * length m.values ≡ length m.values * length t.labels = omega arith in
        counted ∙ turned ∙ ap (λ n. length m.values * n) (sym (length-map t.labels (tuple_value old)))

    columns_are : columns_value new (melted_columns t m kind) ≡ frame_meant.columns
    columns_are =
        let own : frame_meant.columns ≡ columns_meant T m kind =
        λ i. map (meant.kept_column T m.values) m.kept ++ label_column T record { kind = kind; cells = headings_meant old t m.values i } ∷ record { kind = first_kind (kinds_seen old t m.values i); cells = cells_seen old t m.values i } ∷ [] in
        columns_seen new t m kind ∙ ap (λ v. columns_meant v m kind) (seen_later table_value old new t longer known.given) ∙ sym own

    whole_seen : table_value new whole ≡ frame_meant
    whole_seen = λ i. record {
      shape = Frame;
      columns_name = None;
      level_names = None ∷ [];
      labels = (default_seen new _ ∙ ap default_labels rows_are) i;
      headings = labels_are i;
      columns = columns_are i;
    }

    whole_settled : IsSettled table_value new whole
    whole_settled =
        table_settled _ whole (λ more. refl) (λ more. refl) (λ more. default_seen _ _ ∙ sym (default_seen _ _)) given
        (settled_by table_value columns_value (λ v. columns_meant v m kind) new t (melted_columns t m kind) (λ ts. sym (columns_seen ts t m kind)) (settled_later table_value old new t longer known.given))

    -- the frame that is made is the one that is meant
    pub made_is : (made : NumberedTable) → made ≡ table_of Frame axis headings blocks → Makes new (Ok made) answer
    made_is made is =
        let whole_is : made ≡ whole = cc in
        (answer_is ∙ limited_within frame_meant count (length slice) (grind (arith, rows_meant)) headed within ∙ ap (λ v. Ok (table v)) (sym whole_seen) ∙ ap (λ n. Ok (table (table_value new n))) (sym whole_is), rw whole_is whole_settled)

    -- its parts fit
    pub parts_fit : IsWhole (table_of Frame axis headings blocks)
    parts_fit =
        let same : table_of Frame axis headings blocks ≡ whole = cc in
        let some = labels_some old new t m.kept labels known.whole frame there.kept labels_are in
        rw same (record {
          headed = labels_counted;
          filled = rw (rows_numbered count ∙ rows_are ∙ ap (λ n. length m.values * n) (length-map t.labels (tuple_value old))) (columns_filled t m kind known.whole there);
          headings = frame_heads _ labels some;
        })
