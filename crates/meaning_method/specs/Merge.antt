-- `merge`: the rows of two frames whose keys are equal.
use Rattle.std.specs.Prelude.{ℕ, nat_eq, nat_lt, Bool, false, ◌||◌, List, [], ◌∷◌, ◌++◌, map, filter, filter_map, length, slice_get, codes, is_some, Option, Some, None, option_map, Result, Ok, Err, if◌then◌else◌}
use Rattle.std.specs.List.{list_any, position_or_len}
use Rattle.std.specs.Cmp.Lexicographic.{pointwise}
use Rattle.meaning_call.specs.cell_core.declared.cell.Kind.{Kind}
use Rattle.meaning_call.specs.cell_core.declared.grid.Shape.TheVariants.{Frame}
use Rattle.meaning_call.specs.cells.Text.{Text, same_text}
use Rattle.meaning_call.specs.cells.Cell.{CellValue, na_cell, LabelValue, text}
use Rattle.meaning_call.specs.cells.Column.{gap_cell, taken}
use Rattle.meaning_call.specs.cells.Reduce.{distinct}
use Rattle.meaning_call.specs.cells.Fault.{FaultValue, wrong_kind, bad_value, key_kinds, bad_merge, no_common, limit, then_value}
use Rattle.meaning_shapes.specs.join.declared.How.{How}
use Rattle.meaning_shapes.specs.join.declared.How.TheVariants as how
use Rattle.meaning_shapes.specs.join.declared.Validate.{Validate}
use Rattle.meaning_shapes.specs.join.Pairs.{Pair, RepeatedKey, repeated_key, key_pairs}
use Rattle.meaning_select.specs.tables.Table.{ColumnOf, Table, column_at}
use Rattle.meaning_select.specs.tables.Value.{Entry, Given, nothing, object_in}
use Rattle.meaning_call.specs.Binding.{text_in}
use Rattle.meaning_call.specs.form.Finish.{limited, default_labels, same_heading, same_kind}
use Rattle.meaning_call.specs.form.Infix.{same_tuple, tuple_before, common_name}
use Rattle.meaning_call.specs.form.Make.{on}
use Rattle.meaning_call.specs.form.Select.{first_columns, unless_several, heading_at}
use Rattle.meaning_method.specs.Rows.{all_places, labels_in, places_besides}
use Rattle.meaning_method.specs.Groups.{row_keys, headings_of}
use Rattle.meaning_method.specs.Levels.{label_cell}
use Rattle.meaning_method.specs.Texts.{cell_text}

-- the columns of either frame whose cells are the keys, as many of the left as of the right, in pairs
pub record MergeKeys : Type 0 where
  pub left : List ℕ
  pub right : List ℕ

-- the labels of columns that both have, each once, in the order of the left
abbrev pub common_headings : Table → Table → List (Option LabelValue)
common_headings l r = distinct same_heading (filter (λ h. list_any (same_heading h) r.headings) l.headings)

-- each column of a frame has a label
abbrev pub common_labels : Table → Table → List LabelValue
common_labels l r = filter_map (λ h. h) (common_headings l r)

-- The columns of these labels. None is absent, on the left and then on the right; and then none has several columns, on the
-- left and then on the right.
abbrev pub keys_named : Table → Table → List LabelValue → Result MergeKeys FaultValue
keys_named l r labels =
    then_value (first_columns l labels) (λ left. then_value (first_columns r labels)
    (λ right. unless_several l labels (unless_several r labels (Ok record { left = left; right = right }))))

abbrev pub keys_under : Table → Table → List LabelValue → Result MergeKeys FaultValue
keys_under l r [] = Err no_common
keys_under l r labels = keys_named l r labels

-- the columns that `on` names; without it those of common labels
abbrev pub keys_on : Table → Table → Given → Result MergeKeys FaultValue
keys_on l r nothing = keys_under l r (common_labels l r)
keys_on l r labels = keys_named l r (labels_in labels)

abbrev pub kinds_at : Table → List ℕ → List Kind
kinds_at t places = map (λ place. (column_at t.columns place).kind) places

-- as many kinds on both sides, pair by pair the same
abbrev pub are_same_kinds : List Kind → List Kind → Bool
are_same_kinds as' bs = pointwise same_kind as' bs

-- keys of the same kinds on both sides, of four labels at most
abbrev pub checked_keys : Table → Table → MergeKeys → Result MergeKeys FaultValue
checked_keys l r keys =
    if are_same_kinds (kinds_at l keys.left) (kinds_at r keys.right) then (if nat_lt 4 (length keys.left) then Err limit else Ok keys) else Err (bad_value key_kinds)

abbrev pub keys_of_merge : Table → Table → Given → Result MergeKeys FaultValue
keys_of_merge l r labels = then_value (keys_on l r labels) (checked_keys l r)

-- a suffix behind the text as which a scalar is printed
abbrev pub with_suffix : Text → Option LabelValue → Option LabelValue
with_suffix suffix h = option_map (λ l. text (cell_text (label_cell l) ++ suffix)) h

-- a label that columns of both sides have, neither of them a key, gets a suffix
abbrev pub suffixed_heading : Text → List (Option LabelValue) → Option LabelValue → Option LabelValue
suffixed_heading suffix others h = if list_any (same_heading h) others then with_suffix suffix h else h

-- the columns of the right side in the answer
abbrev pub right_places : Table → MergeKeys → List ℕ
right_places r keys = places_besides r keys.right

abbrev pub is_key : List ℕ → ℕ → Bool
is_key keys place = list_any (nat_eq place) keys

abbrev pub left_heading : Table → Table → MergeKeys → ℕ → Option LabelValue
left_heading l r keys place =
    if is_key keys.left place then heading_at l place else suffixed_heading (codes "_x") (headings_of r (right_places r keys)) (heading_at l place)

abbrev pub right_heading : Table → Table → MergeKeys → ℕ → Option LabelValue
right_heading l r keys place = suffixed_heading (codes "_y") (headings_of l (places_besides l keys.left)) (heading_at r place)

-- the cells of a side, missing where a row doesn't come from it
abbrev pub column_of_side : Table → List (Option ℕ) → ℕ → ColumnOf CellValue
column_of_side t rows place = record { kind = (column_at t.columns place).kind; cells = taken na_cell (column_at t.columns place).cells rows }

-- the cell of a key comes from the side that has the row
abbrev pub key_cell : List CellValue → List CellValue → Pair → CellValue
key_cell left right p = if is_some p.left then gap_cell na_cell left p.left else gap_cell na_cell right p.right

abbrev pub joined_key_column : Table → Table → List Pair → ℕ → ℕ → ColumnOf CellValue
joined_key_column l r pairs place other =
    record { kind = (column_at l.columns place).kind; cells = map (key_cell (column_at l.columns place).cells (column_at r.columns other).cells) pairs }

-- the key of the right side that stands for a column of the left, where that is a key
abbrev pub right_key : MergeKeys → ℕ → Option ℕ
right_key keys place = slice_get keys.right (position_or_len (nat_eq place) keys.left)

-- a column of the left side, with the key of the right that stands for it, if there is one
abbrev pub joined_or_left : Table → Table → List Pair → ℕ → Option ℕ → ColumnOf CellValue
joined_or_left l r pairs place None = column_of_side l (map (λ p. p.left) pairs) place
joined_or_left l r pairs place (Some other) = joined_key_column l r pairs place other

abbrev pub left_column : Table → Table → MergeKeys → List Pair → ℕ → ColumnOf CellValue
left_column l r keys pairs place = joined_or_left l r pairs place (right_key keys place)

-- the columns of the left side, then those of the right side that are no keys; the rows are numbered
abbrev pub merged : Table → Table → MergeKeys → List Pair → Table
merged l r keys pairs =
    record {
      shape = Frame;
      columns_name = common_name l.columns_name r.columns_name;
      level_names = None ∷ [];
      labels = default_labels (length pairs);
      headings = map (left_heading l r keys) (all_places l) ++ map (right_heading l r keys) (right_places r keys);
      columns = map (left_column l r keys pairs) (all_places l) ++ map (column_of_side r (map (λ p. p.right) pairs)) (right_places r keys);
    }

-- a side on which a key stands twice, where each may stand once
abbrev pub unless_twice : {A : Type 0} → Option (RepeatedKey (List LabelValue)) → Result A FaultValue → Result A FaultValue
unless_twice None rest = rest
unless_twice (Some repeated) rest = Err (bad_merge repeated.side repeated.key)

-- the rows that have equal keys, as a frame
abbrev pub merged_rows : Table → Table → How → Validate → MergeKeys → Result Entry FaultValue
merged_rows l r h once keys =
    unless_twice (repeated_key same_tuple once (row_keys l keys.left) (row_keys r keys.right))
    (limited (merged l r keys (key_pairs same_tuple tuple_before h (row_keys l keys.left) (row_keys r keys.right))))

-- what `how` says; one of the four names is given
abbrev pub how_named : Text → How
how_named t = if same_text t (codes "left") then how.Left else if same_text t (codes "right") then how.Right else if same_text t (codes "outer") then how.Outer else how.Inner

-- the sides on which `validate` lets no key stand twice
abbrev pub validate_named : Text → Validate
validate_named t =
    record {
      left = same_text t (codes "one_to_one") || same_text t (codes "1:1") || same_text t (codes "one_to_many") || same_text t (codes "1:m");
      right = same_text t (codes "one_to_one") || same_text t (codes "1:1") || same_text t (codes "many_to_one") || same_text t (codes "m:1");
    }

-- none where it isn't given
abbrev pub validate_in : Option Text → Validate
validate_in None = record { left = false; right = false }
validate_in (Some t) = validate_named t

-- `left.merge(right, how, on, validate)`: the keys with their kinds and number, then repeated keys and the limits
abbrev pub merge_result : Table → List Given → Result Entry FaultValue
merge_result l (right ∷ h ∷ labels ∷ once ∷ []) =
    on (object_in right) (λ r. on (text_in h) (λ t. then_value (keys_of_merge l r labels) (merged_rows l r (how_named t) (validate_in (text_in once)))))
-- no other number of arguments is bound
merge_result l gs = Err wrong_kind
