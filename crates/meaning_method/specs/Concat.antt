-- `pd.concat`: Series and frames one below the other, or side by side.
use Rattle.std.specs.Prelude.{ℕ, ◌+◌, pos, nat_eq, Bool, true, false, not, List, [], ◌∷◌, map, length, fold, slice_index_or, unwrap_or, codes, Option, Some, None, option_map, Result, Ok, Err, if◌then◌else◌}
use Rattle.std.specs.List.{list_all, flat_map, position, range_with_len}
use Rattle.std.specs.Ordering.{int_eq}
use Rattle.std.specs.Cmp.Lexicographic.{pointwise}
use Rattle.meaning_call.specs.cell_core.declared.cell.Kind.{Kind}
use Rattle.meaning_call.specs.cell_core.declared.cell.Kind.TheVariants.{Int64}
use Rattle.meaning_call.specs.cell_core.declared.grid.Shape.{Shape}
use Rattle.meaning_call.specs.cell_core.declared.grid.Shape.TheVariants.{Series, Frame}
use Rattle.meaning_call.specs.cells.Text.{same_text}
use Rattle.meaning_call.specs.cells.Cell.{CellValue, na_cell, LabelValue, int}
use Rattle.meaning_call.specs.cells.Fault.{FaultValue, wrong_kind, bad_value, argument, levels, repeated_label, then_value}
use Rattle.meaning_group.specs.align.Targets.{rows_of_targets}
use Rattle.meaning_shapes.specs.join.Concat.{column_below, united, are_equal, repeated_on_any, first_axis, labels_under}
use Rattle.meaning_shapes.specs.join.Pairs.{or_else}
use Rattle.meaning_select.specs.tables.Table.{ColumnOf, Table, column_at}
use Rattle.meaning_select.specs.tables.Value.{Entry, Given, GivenList, NamedGiven, no_given, more_given, list_in, object_in}
use Rattle.meaning_call.specs.declared.Function.TheVariants as function
use Rattle.meaning_call.specs.Signature.{function_parameters}
use Rattle.meaning_call.specs.Binding.{bound_of, on_bound, whole_in, truth_in, text_in}
use Rattle.meaning_call.specs.form.Finish.{limited, first_repeated, default_labels, same_heading, value_of_column, column_of_value, missing_column, try_all}
use Rattle.meaning_call.specs.form.Infix.{same_tuple, common_name, on_rows}
use Rattle.meaning_call.specs.form.Make.{on}
use Rattle.meaning_call.specs.form.Select.{labels_of}
use Rattle.meaning_call.specs.form.Set.{of_length}
use Rattle.meaning_method.specs.Levels.{on_levels}

-- what is told besides the axis: whether only what all parts have stays, whether the labels along the axis are 0, 1 and
-- so on, and a label for each part
pub record Concatenation : Type 0 where
  pub inner : Bool
  pub renumbered : Bool
  pub keys : Option (List LabelValue)

-- the objects of a list
abbrev pub tables_from : Option Table → List Table → List Table
tables_from None rest = rest
tables_from (Some t) rest = t ∷ rest

abbrev pub tables_of : GivenList → List Table
tables_of no_given = []
tables_of (more_given g rest) = tables_from (object_in g) (tables_of rest)

-- a name that all have
abbrev pub name_of_all : List (Option LabelValue) → Option LabelValue
name_of_all [] = None
name_of_all (name ∷ names) = fold common_name name names

-- the names of the first part's levels, where the other has them too
abbrev pub kept_names : List (Option LabelValue) → List (Option LabelValue) → List (Option LabelValue)
kept_names (a ∷ as') (b ∷ bs) = common_name a b ∷ kept_names as' bs
kept_names (a ∷ as') [] = None ∷ kept_names as' []
kept_names [] bs = []

abbrev pub level_names_of_all : List Table → List (Option LabelValue)
level_names_of_all [] = []
level_names_of_all (t ∷ ts) = fold kept_names t.level_names (map (λ other. other.level_names) ts)

abbrev pub columns_name_of_all : List Table → Option LabelValue
columns_name_of_all ts = name_of_all (map (λ t. t.columns_name) ts)

-- whether all have as many levels as the first
abbrev pub have_same_levels : List Table → Bool
have_same_levels [] = true
have_same_levels (t ∷ ts) = list_all (λ other. nat_eq (length t.level_names) (length other.level_names)) ts

abbrev pub labels_of_tables : List Table → List (List (List LabelValue))
labels_of_tables ts = map (λ t. t.labels) ts

-- the rows of the answer: their labels, and the names of the levels
pub record RowAxis : Type 0 where
  pub labels : List (List LabelValue)
  pub names : List (Option LabelValue)

-- the labels of all rows, one part after the other: with keys in one level more, which is the first and has no name
abbrev pub rows_below : Bool → Option (List LabelValue) → List Table → RowAxis
rows_below true keys ts = record { labels = default_labels (length (flat_map (λ labels. labels) (labels_of_tables ts))); names = None ∷ [] }
rows_below false None ts = record { labels = flat_map (λ labels. labels) (labels_of_tables ts); names = level_names_of_all ts }
rows_below false (Some keys) ts = record { labels = labels_under keys (labels_of_tables ts); names = None ∷ level_names_of_all ts }

-- columns one below the other, which must be of one kind
abbrev pub columns_below : List (ColumnOf CellValue) → Result (ColumnOf CellValue) FaultValue
columns_below columns = on (column_below (map value_of_column columns)) (λ c. Ok (column_of_value c))

-- the column of a label in a part, if it has one
abbrev pub column_under : Option LabelValue → Table → Option (ColumnOf CellValue)
column_under h t = option_map (column_at t.columns) (position (same_heading h) t.headings)

-- the kind of the first part's column that there is
abbrev pub kind_under : Option LabelValue → List Table → Kind
kind_under h [] = Int64
kind_under h (t ∷ ts) = unwrap_or (option_map (λ c. c.kind) (column_under h t)) (kind_under h ts)

-- a part's column of a label, or missing cells of the kind
abbrev pub column_or_missing : Option LabelValue → Kind → Table → ColumnOf CellValue
column_or_missing h kind t = unwrap_or (column_under h t) (missing_column kind (length t.labels))

-- the column of a label in all parts
abbrev pub frame_column_below : List Table → Option LabelValue → Result (ColumnOf CellValue) FaultValue
frame_column_below ts h = columns_below (map (column_or_missing h (kind_under h ts)) ts)

abbrev pub is_series : Shape → Bool
is_series Series = true
is_series Frame = false

abbrev pub table_below : Shape → List Table → Concatenation → List (Option LabelValue) → List (ColumnOf CellValue) → Table
table_below shape ts c headings columns =
    record {
      shape = shape;
      columns_name = columns_name_of_all ts;
      level_names = (rows_below c.renumbered c.keys ts).names;
      labels = (rows_below c.renumbered c.keys ts).labels;
      headings = headings;
      columns = columns;
    }

-- a table of four levels at most, within the limits
abbrev pub finished_below : Table → Result Entry FaultValue
finished_below t = on_levels (length t.level_names) (limited t)

-- Series one below the other, under a name that all have
abbrev pub series_below : List Table → Concatenation → Result Entry FaultValue
series_below ts c =
    then_value (columns_below (map (λ t. column_at t.columns 0) ts))
    (λ column. finished_below (table_below Series ts c (name_of_all (map (λ t. slice_index_or t.headings 0 None) ts) ∷ []) (column ∷ [])))

-- frames one below the other, under these headings: f makes a column of each of these
abbrev pub frame_of_columns : {A : Type 0} → List Table → Concatenation → List (Option LabelValue) → (A → Result (ColumnOf CellValue) FaultValue) → List A → Result Entry FaultValue
frame_of_columns ts c headings f xs = then_value (try_all f xs) (λ columns. finished_below (table_below Frame ts c headings columns))

abbrev pub headings_of_tables : List Table → List (List (Option LabelValue))
headings_of_tables ts = map (λ t. t.headings) ts

-- frames whose lists of columns are equal: columns meet by position
abbrev pub placed_column_below : List Table → ℕ → Result (ColumnOf CellValue) FaultValue
placed_column_below ts place = columns_below (map (λ t. column_at t.columns place) ts)

abbrev pub frames_in_order : List Table → Concatenation → List (Option LabelValue) → Result Entry FaultValue
frames_in_order ts c headings = frame_of_columns ts c headings (placed_column_below ts) (range_with_len 0 (length headings))

-- frames of other columns: one for each label that a part has, or that all have
abbrev pub frames_by_label : List Table → Concatenation → List (Option LabelValue) → Result Entry FaultValue
frames_by_label ts c headings = frame_of_columns ts c headings (frame_column_below ts) headings

-- of the first part that repeats a label of its columns, the first such label
abbrev pub repeated_in_any : List Table → Option LabelValue
repeated_in_any [] = None
repeated_in_any (t ∷ ts) = or_else (first_repeated t.headings) (repeated_in_any ts)

-- a label that stands twice where each may stand once
abbrev pub unless_label_twice : {A : Type 0} → Option (List LabelValue) → Result A FaultValue → Result A FaultValue
unless_label_twice None rest = rest
unless_label_twice (Some label) rest = Err (repeated_label label)

-- Frames one below the other. Columns meet by position where all lists are equal, and else by labels that stand once in
-- each part.
abbrev pub frames_below : List Table → Concatenation → Result Entry FaultValue
frames_below ts c =
    if are_equal same_heading (headings_of_tables ts) then frames_in_order ts c (first_axis (headings_of_tables ts))
    else unless_label_twice (option_map (λ l. l ∷ []) (repeated_in_any ts)) (frames_by_label ts c (united same_heading c.inner (headings_of_tables ts)))

abbrev pub are_series : List Table → Bool
are_series ts = list_all (λ t. is_series t.shape) ts

abbrev pub are_frames : List Table → Bool
are_frames ts = list_all (λ t. not (is_series t.shape)) ts

-- tables of other numbers of levels are refused
abbrev pub same_levels : List Table → Result Entry FaultValue → Result Entry FaultValue
same_levels ts rest = if have_same_levels ts then rest else Err (bad_value levels)

-- one below the other: Series alone, or frames alone
abbrev pub below : List Table → Concatenation → Result Entry FaultValue
below ts c =
    if are_series ts then same_levels ts (series_below ts c)
    else if are_frames ts then same_levels ts (frames_below ts c)
    else Err wrong_kind

-- the labels of all columns; the names of Series are such labels, and nameless ones are numbered from 0 on
abbrev pub numbered_from : ℕ → List (Option LabelValue) → List (Option LabelValue)
numbered_from n [] = []
numbered_from n (None ∷ hs) = Some (int (pos n)) ∷ numbered_from (n + 1) hs
numbered_from n (Some l ∷ hs) = Some l ∷ numbered_from n hs

abbrev pub first_numbers : ℕ → List (Option LabelValue)
first_numbers count = map (λ n. Some (int (pos n))) (range_with_len 0 count)

abbrev pub headings_beside : Bool → List (Option LabelValue) → List (Option LabelValue)
headings_beside true hs = first_numbers (length hs)
headings_beside false hs = numbered_from 0 hs

-- a part's row for each label of the answer: all in order where the labels are its own
abbrev pub rows_met : List (List LabelValue) → List (List LabelValue) → List (Option ℕ)
rows_met own labels = if pointwise same_tuple own labels then map Some (range_with_len 0 (length own)) else rows_of_targets same_tuple own labels

abbrev pub columns_beside : List (List LabelValue) → Table → List (ColumnOf CellValue)
columns_beside labels t = on_rows na_cell (rows_met t.labels labels) t.columns

-- the columns of all parts on rows of these labels
abbrev pub table_beside : List Table → Bool → List (List LabelValue) → Table
table_beside ts renumbered labels =
    record {
      shape = Frame;
      columns_name = columns_name_of_all ts;
      level_names = level_names_of_all ts;
      labels = labels;
      headings = headings_beside renumbered (flat_map (λ t. t.headings) ts);
      columns = flat_map (columns_beside labels) ts;
    }

-- side by side: equal labels of rows stay, and else rows meet by labels that stand once in each part
abbrev pub beside : List Table → Concatenation → Result Entry FaultValue
beside ts c =
    if are_equal same_tuple (labels_of_tables ts) then limited (table_beside ts c.renumbered (first_axis (labels_of_tables ts)))
    else same_levels ts (unless_label_twice (repeated_on_any same_tuple (labels_of_tables ts))
    (limited (table_beside ts c.renumbered (united same_tuple c.inner (labels_of_tables ts)))))

-- a label for each part, where there are labels; the rows of the answer have labels of their own then
abbrev pub with_keys : ℕ → Bool → Bool → Option (List LabelValue) → Result Entry FaultValue → Result Entry FaultValue
with_keys count across renumbered None rest = rest
with_keys count across true (Some keys) rest = Err (bad_value argument)
with_keys count true false (Some keys) rest = Err wrong_kind
with_keys count false false (Some keys) rest = of_length count (length keys) rest

abbrev pub along : Bool → List Table → Concatenation → Result Entry FaultValue
along true ts c = beside ts c
along false ts c = below ts c

-- no part is a ValueError
abbrev pub concatenated : Bool → List Table → Concatenation → Result Entry FaultValue
concatenated across [] c = Err (bad_value argument)
concatenated across ts c = with_keys (length ts) across c.renumbered c.keys (along across ts c)

abbrev pub is_across : Given → Bool
is_across axis = unwrap_or (option_map (λ z. int_eq z (pos 1)) (whole_in axis)) false

abbrev pub is_inner : Given → Bool
is_inner join = unwrap_or (option_map (λ t. same_text t (codes "inner")) (text_in join)) false

abbrev pub concat_result : List Given → Result Entry FaultValue
concat_result (objects ∷ axis ∷ join ∷ renumbered ∷ keys ∷ []) =
    on (list_in objects) (λ parts. on (truth_in renumbered)
    (λ b. concatenated (is_across axis) (tables_of parts) record { inner = is_inner join; renumbered = b; keys = option_map labels_of (list_in keys) }))
-- no other number of arguments is bound
concat_result gs = Err wrong_kind

abbrev pub concat_call : List NamedGiven → Result Entry FaultValue
concat_call gs = on_bound (bound_of (function_parameters function.Concat) gs) concat_result
