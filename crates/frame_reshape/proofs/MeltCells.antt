-- Cells that `melt` puts together: labels of columns as cells, and columns one below the other.
use Rattle.{frame_parts.proofs.Common.{◌≡◌, ◌∙◌, ap, refl, sym, arith, ℕ, suc, zero, ◌+◌, ◌<◌, ◌≤◌, ◌^◌, pos, Bool, true, false, List, [], ◌∷◌, ◌++◌, map, take, length, replicate, slice_get, slice_index_or, unwrap_or, flat_map, list_all, Option, Some, None, Result, Ok, Err, if◌then◌else◌, nat_lt, and_parts, nat_tests, map-append, length-map, length-append, length-replicate, take_more, get_or_from_slice_get, slice_get_within, All, All-head, All-tail, All-replicate, IsWhole, NoMemory, Cell, Label, Kind, Int64, Text, datum, label_datum, CellValue, holds, CellColumn, ColumnOf, NumberedTable, table_value, column_value, heading_value, column_at, table_column, cells_value, column_listed, most_rows, same_kind, kind_itself, IsKindOf, wrong_kind, CellBlock, single_block, columns_of, block_column, value_of_column, list_column, AreColumnsOf}, column_core.{proofs.{cells.Common.{cases_lt, inl, inr, get_or_past, append-nil, flat_map-append, ◌*◌}, CellRows.{map-map}}, specs.Columns.{column_value as seen_column}}, std.proofs.lemmas.List.{get_or-replicate}, std.proofs.lemmas.Option.{slice_get-map}, frame_select.proofs.{HeadingLaws.{heading_seen}, AnswerLaws.{column_seen}, PickedLaws.{mapped_more}}, frame_labels.specs.{Labels.{column_tuple}, LevelColumns.{cell_of}, method.{Levels.{label_cell}, Concat.{columns_below}, Reshape.{value_labels}}}, reshape.specs.{Answers.{ReshapesBy}, declared.fault.ReshapeFault.{ReshapeFault}, shapes.{Reshape.{melted}, join.Concat.{ConcatRefusal, column_below, column_within_limit}}}, frame_reshape.specs.{Checks.{kinds_at, are_one, refusal}, Melts.{heading_cell, heading_cells, kept_column}}}
use Rattle.cell_core.specs.declared.cell.Cell.TheVariants as cell
use Rattle.cell_core.specs.declared.cell.Kind.TheVariants.{Text as string}
use Rattle.cell_core.specs.declared.cell.Label.TheVariants as label
use Rattle.frame_labels.specs.method.Reshape as meant
use Rattle.reshape.specs.declared.fault.ReshapeFault.TheVariants as reshape

-- cells that are the same by all texts are the same

-- texts of which a number has one, and no greater number has
abbrev upto : ℕ → List Text
upto i = replicate (suc i) (0 ∷ [])

told_apart : (i j : ℕ) → i < j → slice_index_or (upto i) i [] ≡ slice_index_or (upto i) j [] → ⊥
told_apart i j lt same =
    let one : Text = 0 ∷ [] in
    let first : slice_index_or (upto i) i [] ≡ one = get_or-replicate (suc i) i one [] (omega arith) in
    let other : slice_index_or (upto i) j [] ≡ [] = get_or_past (upto i) j [] (omega (arith, length-replicate (suc i) one)) in
    cc

text_same : (i j : ℕ) → ((texts : List Text) → slice_index_or texts i [] ≡ slice_index_or texts j []) → i ≡ j
text_same i j same = elim (cases_lt i j) [
  | inl lt ↦ absurd (told_apart i j lt (same (upto i)))
  | inr le ↦ elim (cases_lt j i) [
    | inl lt ↦ absurd (told_apart j i lt (sym (same (upto j))))
    | inr ge ↦ omega arith
  ]
]

cell_same : (a b : Cell) → ((texts : List Text) → datum texts a ≡ datum texts b) → a ≡ b
cell_same (cell.Text i) (cell.Text j) same =
    let number : i.0 ≡ j.0 = text_same i.0 j.0 (λ texts. cc (same texts)) in
    grind arith
cell_same cell.Na cell.Na same = refl
cell_same (cell.Int z) (cell.Int w) same = cc (same [])
cell_same (cell.Bool x) (cell.Bool y) same = cc (same [])
cell_same a b same = cc (same [])

pub cells_same : (as' bs : List Cell) → ((texts : List Text) → map (datum texts) as' ≡ map (datum texts) bs) → as' ≡ bs
cells_same [] [] same = refl
cells_same (a ∷ as') (b ∷ bs) same = cc (cell_same a b (λ texts. cc (same texts)), cells_same as' bs (λ texts. cc (same texts)))
cells_same as' bs same = cc (same [])

-- the labels of columns as cells
heading_told : (h : Option Label) (l : Label) → column_tuple h ≡ l ∷ [] → unwrap_or h (label.Int (pos 0)) ≡ l
heading_told None l is = cc
heading_told (Some h) l is = cc

pub heading_is : (t : NumberedTable) (places : List ℕ) (k place : ℕ) (h : Option Label) (l : Label) (c : Cell) → slice_get places k ≡ Some place → h ≡ slice_index_or t.headings place None → column_tuple h ≡ l ∷ [] → c ≡ cell_of l
    → slice_get (heading_cells t places) k ≡ Some c
heading_is t places k place h l _ at is tuple made = cc (slice_get-map (heading_cell t) places k, heading_told h l tuple)

cell_seen : (texts : List Text) (l : Label) → datum texts (cell_of l) ≡ label_cell (label_datum texts l)
cell_seen = grind arith

or_zero : (texts : List Text) (h : Option Label) → datum texts (cell_of (unwrap_or h (label.Int (pos 0)))) ≡ label_cell (unwrap_or (heading_value texts h) (label_datum texts (label.Int (pos 0))))
or_zero texts None = refl
or_zero texts (Some l) = cell_seen texts l

heading_meant : (texts : List Text) (t : NumberedTable) (place : ℕ) → datum texts (heading_cell t place) ≡ meant.heading_cell (table_value texts t) place
heading_meant texts t place = cc (or_zero texts (slice_index_or t.headings place None), heading_seen texts t.headings place)

pub headings_meant : (texts : List Text) (t : NumberedTable) (places : List ℕ) → cells_value texts (heading_cells t places) ≡ map (meant.heading_cell (table_value texts t)) places
headings_meant texts t places = simp (map-map, heading_meant)

-- the column of these labels, of which there is one at least, or none
pub labels_listed : (texts : List Text) (t : NumberedTable) (values : List ℕ) → 0 < length values → value_labels (table_value texts t) values ≡ list_column (cells_value texts (heading_cells t values))
labels_listed texts t [] some = absurd (omega (arith, some))
labels_listed texts t (v ∷ vs) some = cc (headings_meant texts t (v ∷ vs))

pub none_listed : (texts : List Text) (t : NumberedTable) (values : List ℕ) → length values ≡ 0 → value_labels (table_value texts t) values ≡ Ok (column_listed (heading_cells t values) texts string)
none_listed texts t [] none = refl
none_listed texts t (v ∷ vs) none = absurd (omega (arith, none))

-- a cell of a list that a kind holds
held_at : (test : CellValue → Bool) (f : Cell → CellValue) (cells : List Cell) (k : ℕ) (c : Cell) → list_all test (map f cells) ≡ true → slice_get cells k ≡ Some c → test (f c) ≡ true
held_at test f [] k c all at = cc
held_at test f (x ∷ xs) zero c all at =
    let first : test (f x) ≡ true = (and_parts _ _ all).0 in
    cc
held_at test f (x ∷ xs) (suc k) c all at = held_at test f xs k c (and_parts _ _ all).1 at

pub cell_held : (cells : List Cell) (kind : Kind) (k : ℕ) (c : Cell) → IsKindOf cells kind → slice_get cells k ≡ Some c → (texts : List Text) → holds kind (datum texts c) ≡ true
cell_held cells kind k c held at texts = held_at (holds kind) (datum texts) cells k c (held texts) at

-- one column more
pub one_more_column : (f : ℕ → ColumnOf Cell) (places : List ℕ) (k place : ℕ) (c : CellColumn) (block : CellBlock) (blocks blocks' : List CellBlock) → slice_get places k ≡ Some place → table_column c ≡ f place → block ≡ single_block (table_column c) → blocks' ≡ blocks ++ block ∷ []
    → columns_of blocks ≡ map f (take k places) → columns_of blocks' ≡ map f (take (k + 1) places)
one_more_column f places k place c block blocks blocks' at is box pushed before =
    mapped_more f places k place (table_column c) (columns_of blocks) (columns_of blocks') (slice_get_within places k place at) at is before (cc (map-append block_column blocks (block ∷ [])))

-- what is made of one item more
pub one_more_flat : {X Y : Type 0} (f : X → List Y) (xs : List X) (k : ℕ) (x : X) → slice_get xs k ≡ Some x → flat_map f (take (k + 1) xs) ≡ flat_map f (take k xs) ++ f x
one_more_flat f xs k x at = cc (take_more xs k x (slice_get_within xs k x at), get_or_from_slice_get xs k x x at, flat_map-append f (take k xs) (x ∷ []), append-nil (f x))

-- the labels so far, each so many times, with one more
pub one_more_label : (kind : Kind) (n rows k : ℕ) (cells : List Cell) (c : Cell) (before after : CellColumn) → slice_get cells k ≡ Some c → rows ≡ n → before ≡ record { kind = kind; cells = flat_map (replicate n) (take k cells) }
    → after ≡ record { kind = before.kind; cells = before.cells ++ replicate rows c } → after ≡ record { kind = kind; cells = flat_map (replicate n) (take (k + 1) cells) }
one_more_label kind n rows k cells c before after at many was pushed =
    pushed ∙ (λ i. record { kind = (was i).kind; cells = (was i).cells ++ replicate (many i) c }) ∙ (λ i. record { kind = kind; cells = sym (one_more_flat (replicate n) cells k c at) i })

-- columns one below the other

-- the kind of the first of some columns; of none it is that of whole numbers
abbrev pub first_kind : List Kind → Kind
first_kind [] = Int64
first_kind (kind ∷ kinds) = kind

-- the columns at these places, one below the other
abbrev pub below : NumberedTable → List ℕ → ColumnOf Cell
below t places = record { kind = first_kind (kinds_at t places); cells = flat_map (λ place. (column_at t.columns place).cells) places }

module _ (texts : List Text) where
  flat_seen : {X : Type 0} (f : X → List Cell) (xs : List X) → flat_map (λ x. map (datum texts) (f x)) xs ≡ map (datum texts) (flat_map f xs)
  flat_seen f [] = refl
  flat_seen f (x ∷ xs) = cc (flat_seen f xs, map-append (datum texts) (f x) (flat_map f xs))

  kinds_alike : (kind : Kind) (t : NumberedTable) (places : List ℕ) → list_all (λ other. same_kind kind other.kind) (map (λ place. value_of_column (column_value texts (column_at t.columns place))) places) ≡ list_all (same_kind kind) (kinds_at t places)
  kinds_alike kind t [] = refl
  kinds_alike kind t (p ∷ ps) = cc (kinds_alike kind t ps)

  cells_below : (t : NumberedTable) (places : List ℕ) → flat_map (λ part. part.cells) (map (λ place. value_of_column (column_value texts (column_at t.columns place))) places) ≡ map (datum texts) (below t places).cells
  cells_below t [] = refl
  cells_below t (p ∷ ps) = cc (cells_below t ps, map-append (datum texts) (column_at t.columns p).cells (flat_map (λ place. (column_at t.columns place).cells) ps))

  below_by : (t : NumberedTable) (places : List ℕ) (one : Bool) → are_one (kinds_at t places) ≡ one
      → column_below (map (λ place. value_of_column (column_value texts (column_at t.columns place))) places) ≡ (if one then Some (value_of_column (column_value texts (below t places))) else None)
  below_by t [] one is = grind arith
  below_by t (p ∷ ps) one is = grind (arith, kinds_alike (column_at t.columns p).kind t ps, cells_below t (p ∷ ps))

  -- those of a kernel
  refs_seen : (t : NumberedTable) (places : List ℕ) (parts : List CellColumn) → map table_column parts ≡ map (column_at t.columns) places → map (seen_column texts) parts ≡ map (λ place. value_of_column (column_value texts (column_at t.columns place))) places
  refs_seen t [] [] are = refl
  refs_seen t (p ∷ ps) (c ∷ cs) are =
      let first : table_column c ≡ column_at t.columns p = cc in
      let rest : map table_column cs ≡ map (column_at t.columns) ps = cc in
      λ i. value_of_column (column_value texts (first i)) ∷ refs_seen t ps cs rest i
  refs_seen t ps cs are = cc

  pub melted_by : (t : NumberedTable) (places : List ℕ) (parts : List CellColumn) (one : Bool) → map table_column parts ≡ map (column_at t.columns) places → are_one (kinds_at t places) ≡ one
      → ◌≡◌ {A = Result _ (ConcatRefusal (List Label))} (melted (map (seen_column texts) parts)) (column_within_limit (if one then Some (value_of_column (column_value texts (below t places))) else None))
  melted_by t places parts one are is = cc (refs_seen t places parts are, below_by t places one is)

  -- those of the table that is meant
  places_seen : (t : NumberedTable) (places : List ℕ) → map value_of_column (map (column_at (table_value texts t).columns) places) ≡ map (λ place. value_of_column (column_value texts (column_at t.columns place))) places
  places_seen t [] = refl
  places_seen t (p ∷ ps) = cc (column_seen texts t.columns p, places_seen t ps)

  pub below_meant : (t : NumberedTable) (places : List ℕ) (one : Bool) → are_one (kinds_at t places) ≡ one → columns_below (map (column_at (table_value texts t).columns) places) ≡ (if one then Ok (column_value texts (below t places)) else Err wrong_kind)
  below_meant t places one is = grind (arith, places_seen t places, below_by t places one is)

-- as many cells as the columns have together
abbrev pub HasCells : ℕ → NumberedTable → ℕ → Type 0
HasCells rows t place = length (column_at t.columns place).cells ≡ rows

pub below_count : (rows : ℕ) (t : NumberedTable) (places : List ℕ) → All (HasCells rows t) places → length (below t places).cells ≡ length places * rows
below_count rows t [] all = omega arith
below_count rows t (p ∷ ps) all =
    let first : length (column_at t.columns p).cells ≡ rows = All-head (HasCells rows t) p ps all in
    omega (arith, length-append (column_at t.columns p).cells (below t ps).cells, first, below_count rows t ps (All-tail (HasCells rows t) p ps all))

same_ok : {A E : Type 0} (a b : A) → ◌≡◌ {A = Result A E} (Ok a) (Ok b) → a ≡ b
same_ok a b is = cc

-- what the kernel makes of columns of one kind and not too many cells, and no refusal but for want of memory
module _ (t : NumberedTable) (places : List ℕ) (parts : List CellColumn) (are : map table_column parts ≡ map (column_at t.columns) places) (one : are_one (kinds_at t places) ≡ true) (few : length (below t places).cells ≤ 2 ^ 26) where
  melted_is : (texts : List Text) → ◌≡◌ {A = Result _ (ConcatRefusal (List Label))} (melted (map (seen_column texts) parts)) (Ok (value_of_column (column_value texts (below t places))))
  melted_is texts =
      let few : nat_lt most_rows (length (map (datum texts) (below t places).cells)) ≡ false = grind (arith, nat_tests, length-map) in
      cc (melted_by texts t places parts true are one)

  pub below_made : (made : CellColumn) → ((texts : List Text) → ReshapesBy (seen_column texts) (Ok made) (melted (map (seen_column texts) parts))) → table_column made ≡ below t places
  below_made made told =
      let seen = λ (texts : List Text). same_ok (seen_column texts made) (value_of_column (column_value texts (below t places))) (sym (told texts) ∙ melted_is texts) in
      let kind : made.kind ≡ (below t places).kind = ap (λ c. c.kind) (seen []) in
      let cells : made.cells ≡ (below t places).cells = cells_same made.cells (below t places).cells (λ texts. ap (λ c. c.cells) (seen texts)) in
      λ i. record { kind = kind i; cells = cells i }

  pub below_refused : (fault : ReshapeFault) → ((texts : List Text) → ReshapesBy {A = CellColumn} (seen_column texts) (Err fault) (melted (map (seen_column texts) parts))) → refusal fault ≡ NoMemory
  below_refused (reshape.Duplicates labels) told = absurd (told [])
  below_refused reshape.MixedKinds told = cc (told [], melted_is [])
  below_refused reshape.TooLarge told = cc (told [], melted_is [])
  below_refused reshape.NoMemory told = refl

-- one column so many times
same_kinds : (t : NumberedTable) (place n : ℕ) → list_all (same_kind (column_at t.columns place).kind) (kinds_at t (replicate n place)) ≡ true
same_kinds t place zero = refl
same_kinds t place (suc n) = cc (kind_itself (column_at t.columns place).kind, same_kinds t place n)

pub one_of_kind : (t : NumberedTable) (place n : ℕ) → are_one (kinds_at t (replicate n place)) ≡ true
one_of_kind t place zero = refl
one_of_kind t place (suc n) = same_kinds t place n

same_cells : (t : NumberedTable) (place n : ℕ) → flat_map (λ place. (column_at t.columns place).cells) (replicate n place) ≡ (kept_column t n place).cells
same_cells t place zero = refl
same_cells t place (suc n) = cc (same_cells t place n)

pub kept_is : (t : NumberedTable) (place n : ℕ) → 0 < n → below t (replicate n place) ≡ kept_column t n place
kept_is t place zero some = absurd (omega (arith, some))
kept_is t place (suc n) some = λ i. record { kind = (column_at t.columns place).kind; cells = same_cells t place (suc n) i }

-- the rows of a column that is read
pub rows_known : (t : NumberedTable) (place n rows : ℕ) (parts : List CellColumn) → 0 < n → map table_column parts ≡ map (column_at t.columns) (replicate n place) → All (λ column. length column.cells ≡ rows) parts → length (column_at t.columns place).cells ≡ rows
rows_known t place zero rows parts some are all = absurd (omega (arith, some))
rows_known t place (suc n) rows [] some are all = cc
rows_known t place (suc n) rows (c ∷ cs) some are all = cc (All-head (λ column. length column.cells ≡ rows) c cs all)

-- the cells of columns of a table
pub repeated_rows : (t : NumberedTable) (place n rows : ℕ) → length (column_at t.columns place).cells ≡ rows → All (HasCells rows t) (replicate n place)
repeated_rows t place n rows is = All-replicate (HasCells rows t) n place is

pub rows_of_columns : (t : NumberedTable) (places : List ℕ) → IsWhole t → AreColumnsOf t places → All (HasCells (length t.labels) t) places
rows_of_columns t places whole there = λ k d lt. whole.filled _ _ (there k d lt)

pub repeated_below : (t : NumberedTable) (place n : ℕ) → place < length t.columns → AreColumnsOf t (replicate n place)
repeated_below t place n lt = All-replicate (λ place. place < length t.columns) n place lt

-- the column that stays is the one that is meant, of columns that are borrowed
module _ (t : NumberedTable) (place n : ℕ) (places : List ℕ) (refs parts : List CellColumn) (some : 0 < n) (repeated : places ≡ replicate n place) (are : map table_column refs ≡ map (column_at t.columns) places) (rows : All (λ column. length column.cells ≡ length t.labels) refs)
    (lent : parts ≡ refs) (few : n * length t.labels ≤ 2 ^ 26) where
  refs_are : map table_column refs ≡ map (column_at t.columns) (replicate n place)
  refs_are = cc

  parts_are : map table_column parts ≡ map (column_at t.columns) (replicate n place)
  parts_are = cc

  few_below : length (below t (replicate n place)).cells ≤ 2 ^ 26
  few_below =
      let all = repeated_rows t place n (length t.labels) (rows_known t place n (length t.labels) refs some refs_are rows) in
      let count : length (below t (replicate n place)).cells ≡ n * length t.labels = below_count (length t.labels) t (replicate n place) all ∙ ap (λ k. k * length t.labels) (length-replicate n place) in
      omega (arith, few, count)

  pub kept_made : (made : CellColumn) → ((texts : List Text) → ReshapesBy (seen_column texts) (Ok made) (melted (map (seen_column texts) parts))) → table_column made ≡ kept_column t n place
  kept_made made told = below_made t (replicate n place) parts parts_are (one_of_kind t place n) few_below made told ∙ kept_is t place n some

  pub kept_refused : (fault : ReshapeFault) → ((texts : List Text) → ReshapesBy {A = CellColumn} (seen_column texts) (Err fault) (melted (map (seen_column texts) parts))) → refusal fault ≡ NoMemory
  kept_refused fault told = below_refused t (replicate n place) parts parts_are (one_of_kind t place n) few_below fault told
