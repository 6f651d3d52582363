-- What the constructors make.
use Rattle.std.specs.Prelude.{◌≡◌, ◌≤◌, ℕ, nat_le, Bool, false, List, [], ◌∷◌, map, length, replicate, codes, Option, Some, None, option_map, Result, Ok, Err, All, if◌then◌else◌}
use Rattle.std.specs.List.{list_all}
use Rattle.meaning_align.specs.cell_core.declared.cell.Kind.{Kind}
use Rattle.meaning_align.specs.cell_core.declared.cell.Kind.TheVariants.{Int64, Boolean, Text as string}
use Rattle.meaning_align.specs.cell_core.declared.grid.Shape.TheVariants.{Series, Frame}
use Rattle.meaning_tables.specs.cells.Text.{Text, same_text}
use Rattle.meaning_tables.specs.cells.Cell.{CellValue, text_cell, LabelValue}
use Rattle.meaning_tables.specs.cells.Cast.{cast_column}
use Rattle.meaning_tables.specs.cells.Operator.{cell_label}
use Rattle.meaning_tables.specs.cells.Fault.{FaultValue, wrong_kind, limit, then_value}
use Rattle.meaning_tables.specs.Table.{ColumnOf, Table}
use Rattle.meaning_tables.specs.Value.{Entry, Given, GivenList, GivenPairs, cell, table, no_given, more_given, no_entries, more_entries, nothing, one, row, many, entries, list_in, dict_in, scalar_in}
use Rattle.meaning_form.specs.Given.{same_label, each, is_scalar}
use Rattle.meaning_form.specs.Finish.{limited, default_labels, value_of_column, made_column, try_all}
use Rattle.meaning_form.specs.Select.{cells_of, labels_of}
use Rattle.meaning_form.specs.Set.{list_column, of_length}

-- the kind of a name; a text that names none is refused before
abbrev pub kind_named : Text → Kind
kind_named t = if same_text t (codes "boolean") then Boolean else if same_text t (codes "string") then string else Int64

abbrev pub cast_to : Option Kind → ColumnOf CellValue → Result (ColumnOf CellValue) FaultValue
cast_to None c = Ok c
cast_to (Some kind) c = made_column (cast_column kind (value_of_column c))

-- the kind that a text names; none where it isn't given
abbrev pub kind_given : Option CellValue → Option Kind
kind_given (Some (text_cell t)) = Some (kind_named t)
kind_given c = None

-- the labels of a row: the one that a scalar is, or those of a tuple
abbrev pub row_labels : Given → List LabelValue
row_labels (one (cell c)) = cell_label c ∷ []
row_labels (row parts) = labels_of parts
row_labels (one (table t)) = []
row_labels nothing = []
row_labels (many parts) = []
row_labels (entries pairs) = []

abbrev pub index_labels : GivenList → List (List LabelValue)
index_labels no_given = []
index_labels (more_given g rest) = row_labels g ∷ index_labels rest

-- how many levels labels have: as many as the first row has labels, and one where there is no row
abbrev pub level_count : {L : Type 0} → List (List L) → ℕ
level_count [] = 1
level_count (labels ∷ rest) = length labels

-- levels without names for these labels
abbrev pub nameless : {L : Type 0} → List (List L) → List (Option L)
nameless labels = replicate (level_count labels) None

-- each row has a label for each level, of which there is one at least
pub record AreAlike {L : Type 0} (labels : List (List L)) : Type 0 where
  pub some : 1 ≤ level_count labels
  pub each : All (λ tuple. length tuple ≡ level_count labels) labels

-- labels of at most four levels
abbrev pub few_levels : {A : Type 0} → List (List LabelValue) → Result A FaultValue → Result A FaultValue
few_levels labels rest = if nat_le (level_count labels) 4 then rest else Err limit

-- the labels that are given, which must be as many as there are rows; else 0, 1 and so on
abbrev pub with_index : ℕ → Option GivenList → (List (List LabelValue) → Result Entry FaultValue) → Result Entry FaultValue
with_index rows None go = go (default_labels rows)
with_index rows (Some parts) go = of_length rows (length (index_labels parts)) (few_levels (index_labels parts) (go (index_labels parts)))

abbrev pub series_table : Option LabelValue → List (List LabelValue) → ColumnOf CellValue → Table
series_table name labels c =
    record {
      shape = Series;
      columns_name = None;
      level_names = nameless labels;
      labels = labels;
      headings = name ∷ [];
      columns = c ∷ [];
    }

abbrev pub frame_table : List (List LabelValue) → List LabelValue → List (ColumnOf CellValue) → Table
frame_table labels headings columns =
    record {
      shape = Frame;
      columns_name = None;
      level_names = nameless labels;
      labels = labels;
      headings = map (λ l. Some l) headings;
      columns = columns;
    }

-- goes on with what an argument is, if it is of the form
abbrev pub on : {A B : Type 0} → Option A → (A → Result B FaultValue) → Result B FaultValue
on None go = Err wrong_kind
on (Some a) go = go a

-- `pd.Series`: mixed kinds, the cast, the number of labels, and that of their levels are tested in this order
abbrev pub series_of : GivenList → Option GivenList → Option LabelValue → Option Kind → Result Entry FaultValue
series_of values index name kind =
    then_value (list_column (cells_of values)) (λ c. then_value (cast_to kind c) (λ c. with_index (length c.cells) index (λ labels. limited (series_table name labels c))))

abbrev pub series_result : List Given → Result Entry FaultValue
series_result (values ∷ index ∷ name ∷ dtype ∷ []) = on (list_in values) (λ parts. series_of parts (list_in index) (option_map cell_label (scalar_in name)) (kind_given (scalar_in dtype)))
-- no other number of arguments is bound
series_result gs = Err wrong_kind

-- the pairs with one more: a key that stands already keeps its place and gets the later value
abbrev pub with_pair : List (LabelValue × Given) → LabelValue → Given → List (LabelValue × Given)
with_pair [] k v = (k, v) ∷ []
with_pair (p ∷ ps) k v = if same_label k p.0 then (p.0, v) ∷ ps else p ∷ with_pair ps k v

abbrev pub pairs_onto : List (LabelValue × Given) → GivenPairs → List (LabelValue × Given)
pairs_onto ps no_entries = ps
pairs_onto ps (more_entries k v rest) = pairs_onto (with_pair ps k v) rest

-- the pairs of a dict: a key given twice keeps its first place and its last value
abbrev pub pairs_in : GivenPairs → List (LabelValue × Given)
pairs_in pairs = pairs_onto [] pairs

abbrev pub is_scalar_list : LabelValue × Given → Bool
is_scalar_list (l, many parts) = each is_scalar parts
is_scalar_list (l, one v) = false
is_scalar_list (l, nothing) = false
is_scalar_list (l, row parts) = false
is_scalar_list (l, entries pairs) = false

abbrev pub cells_given : Given → List CellValue
cells_given (many parts) = cells_of parts
cells_given (one v) = []
cells_given nothing = []
cells_given (row parts) = []
cells_given (entries pairs) = []

-- all as long as expected, or a ValueError of the first that isn't
abbrev pub all_of_length : ℕ → List (ColumnOf CellValue) → Result Entry FaultValue → Result Entry FaultValue
all_of_length expected [] rest = rest
all_of_length expected (c ∷ cs) rest = of_length expected (length c.cells) (all_of_length expected cs rest)

abbrev pub labels_given : Option GivenList → List (List LabelValue)
labels_given None = []
labels_given (Some parts) = index_labels parts

-- the frame of these columns; without columns the rows are those of the index
abbrev pub frame_with : List LabelValue → List (ColumnOf CellValue) → Option GivenList → Result Entry FaultValue
frame_with headings [] index = few_levels (labels_given index) (limited (frame_table (labels_given index) headings []))
frame_with headings (c ∷ cs) index = all_of_length (length c.cells) cs (with_index (length c.cells) index (λ labels. limited (frame_table labels headings (c ∷ cs))))

-- `pd.DataFrame`: lists of scalars, mixed kinds, lengths, the number of labels, and that of their levels are tested in
-- this order
abbrev pub frame_of : List (LabelValue × Given) → Option GivenList → Result Entry FaultValue
frame_of pairs index =
    if list_all is_scalar_list pairs
    then then_value (try_all (λ p. list_column (cells_given p.1)) pairs) (λ columns. frame_with (map (λ p. p.0) pairs) columns index)
    else Err wrong_kind

abbrev pub frame_result : List Given → Result Entry FaultValue
frame_result (columns ∷ index ∷ []) = on (dict_in columns) (λ pairs. frame_of (pairs_in pairs) (list_in index))
frame_result gs = Err wrong_kind
