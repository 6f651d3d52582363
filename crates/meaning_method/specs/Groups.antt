-- What a call behind `groupby` answers.
use Rattle.std.specs.Prelude.{ℕ, nat_eq, nat_lt, Bool, true, false, ◌&&◌, List, [], ◌∷◌, ◌++◌, map, length, codes, Option, Some, None, Result, Ok, Err, if◌then◌else◌}
use Rattle.meaning_call.specs.cell_core.declared.grid.Shape.{Shape}
use Rattle.meaning_call.specs.cell_core.declared.grid.Shape.TheVariants.{Series, Frame}
use Rattle.meaning_call.specs.cells.Text.{Text, same_text}
use Rattle.meaning_call.specs.cells.Cell.{CellValue, LabelValue, text}
use Rattle.meaning_call.specs.cells.Column.{ColumnValue, ColumnFault}
use Rattle.meaning_call.specs.cells.Operator.{cell_label}
use Rattle.meaning_call.specs.cells.Fault.{FaultValue, no_attribute, wrong_kind, bad_value, argument, limit, then_value}
use Rattle.meaning_select.specs.tables.Table.{ColumnOf, Table, column_at}
use Rattle.meaning_select.specs.tables.Value.{Entry, cell, table, Given, GivenList, NamedGiven, scalar_in, list_in}
use Rattle.meaning_call.specs.declared.Method.TheVariants.{Other}
use Rattle.meaning_call.specs.declared.OtherMethod.TheVariants.{Groupby}
use Rattle.meaning_call.specs.declared.Parameter.{Parameter}
use Rattle.meaning_call.specs.declared.ParameterName.TheVariants as name
use Rattle.meaning_call.specs.declared.Accepted.TheVariants as accepted
use Rattle.meaning_call.specs.Signature.{needed, parameters_of}
use Rattle.meaning_call.specs.Binding.{Bound, not_taken, not_listed, bound, bound_of, each, is_scalar, truth_in, text_in}
use Rattle.meaning_call.specs.form.Finish.{limited, first_shared, unless_repeated, default_labels, value_of_column, column_of_value, made_column, try_all}
use Rattle.meaning_call.specs.form.Select.{argument_column, argument_columns, heading_at, labels_of}
use Rattle.meaning_call.specs.form.Make.{on}
use Rattle.meaning_select.specs.Select.{shown_as}
use Rattle.meaning_group.specs.Keys.{tuple_rules, group_keys, group_codes}
use Rattle.meaning_group.specs.Rows.{GroupsValue}
use Rattle.meaning_group.specs.Reductions as groups
use Rattle.meaning_group.specs.Reductions.{GroupReduction, reduced_cells, reduce_groups, transform_groups, cumsum_groups, group_sizes, group_places}
use Rattle.meaning_method.specs.Rows.{cells_by_row, labels_in, places_besides}

-- what `groupby` is told: the columns whose cells are the keys, whether groups stand in the order of their keys,
-- whether keys with an NA are dropped, and whether the keys are the labels of the rows
pub record Grouping : Type 0 where
  pub keys : List ℕ
  pub sorted : Bool
  pub dropna : Bool
  pub as_index : Bool

-- the columns of which something is made, and whether one label alone names them
pub record Values : Type 0 where
  pub places : List ℕ
  pub single : Bool

-- what is made of groups: a cell for each group, or one for each row
pub data GroupCall : Type 0 where
  reduced : GroupReduction → GroupCall
  size : GroupCall
  transformed : GroupReduction → GroupCall
  cumsum : GroupCall
  cumcount : GroupCall

-- the key of each row, and of each group
abbrev pub row_keys : Table → List ℕ → List (List LabelValue)
row_keys t keys = map (map cell_label) (cells_by_row t keys)

abbrev pub keys_of : Table → Grouping → List (List LabelValue)
keys_of t g = group_keys tuple_rules g.sorted g.dropna (row_keys t g.keys)

-- the group of each row
abbrev pub groups_of : Table → Grouping → GroupsValue
groups_of t g = record { count = length (keys_of t g); codes = group_codes tuple_rules g.sorted g.dropna (row_keys t g.keys) }

-- what f makes of each of these columns, or the first fault
abbrev pub each_of : Table → (ColumnValue → Result ColumnValue ColumnFault) → List ℕ → Result (List (ColumnOf CellValue)) FaultValue
each_of t f places = try_all (λ place. made_column (f (value_of_column (column_at t.columns place)))) places

-- the keys are the labels of the rows
abbrev pub under_keys : Table → Grouping → List (Option LabelValue) → List (ColumnOf CellValue) → Table
under_keys t g headings columns =
    record {
      shape = Frame;
      columns_name = t.columns_name;
      level_names = map (heading_at t) g.keys;
      labels = keys_of t g;
      headings = headings;
      columns = columns;
    }

-- the keys as a column: the rows of a group have one key, so that the first cell is the group's
abbrev pub key_column : Table → Grouping → ℕ → ColumnOf CellValue
key_column t g place = record { kind = (column_at t.columns place).kind; cells = reduced_cells groups.first (groups_of t g) (column_at t.columns place).cells }

-- the keys are columns, before the others, and the rows are numbered
abbrev pub beside_keys : Table → Grouping → List (Option LabelValue) → List (ColumnOf CellValue) → Table
beside_keys t g headings columns =
    record {
      shape = Frame;
      columns_name = t.columns_name;
      level_names = None ∷ [];
      labels = default_labels (length (keys_of t g));
      headings = map (heading_at t) g.keys ++ headings;
      columns = map (key_column t g) g.keys ++ columns;
    }

-- a row for each group; no other column has the label of a key that is a column
abbrev pub grouped_rows : Table → Grouping → Bool → List (Option LabelValue) → List (ColumnOf CellValue) → Result Entry FaultValue
grouped_rows t g single headings columns =
    if g.as_index then shown_as false single (under_keys t g headings columns)
    else unless_repeated (first_shared (map (heading_at t) g.keys) headings) (limited (beside_keys t g headings columns))

-- the rows as they are, under other columns
abbrev pub same_rows : Table → Bool → List (Option LabelValue) → List (ColumnOf CellValue) → Result Entry FaultValue
same_rows t single headings columns = shown_as false single (record t { headings = headings; columns = columns })

-- sizes have no name where they are a Series
abbrev pub size_heading : Bool → Option LabelValue
size_heading true = None
size_heading false = Some (text (codes "size"))

-- the headings of the columns at these places
abbrev pub headings_of : Table → List ℕ → List (Option LabelValue)
headings_of t places = map (heading_at t) places

abbrev pub group_answer : Table → Grouping → Values → GroupCall → Result Entry FaultValue
group_answer t g v (reduced op) = then_value (each_of t (reduce_groups op (groups_of t g)) v.places) (grouped_rows t g v.single (headings_of t v.places))
group_answer t g v size = grouped_rows t g true (size_heading g.as_index ∷ []) (column_of_value (group_sizes (groups_of t g)) ∷ [])
group_answer t g v (transformed op) = then_value (each_of t (transform_groups op (groups_of t g)) v.places) (same_rows t v.single (headings_of t v.places))
group_answer t g v cumsum = then_value (each_of t (cumsum_groups (groups_of t g)) v.places) (same_rows t v.single (headings_of t v.places))
group_answer t g v cumcount = same_rows t true (None ∷ []) (column_of_value (group_places (groups_of t g)) ∷ [])

-- what bound arguments say, or what all calls refuse
abbrev pub of_bound : {A : Type 0} → (List Given → Result A FaultValue) → Bound → Result A FaultValue
of_bound read not_taken = Err wrong_kind
of_bound read not_listed = Err (bad_value argument)
of_bound read (bound gs) = read gs

-- a key at least, which a list that is taken has; labels have four levels at most
abbrev pub as_keys : Bool → List ℕ → Result (List ℕ) FaultValue
as_keys as_index keys = if nat_eq (length keys) 0 then Err wrong_kind else if as_index && nat_lt 4 (length keys) then Err limit else Ok keys

-- the columns that `by` names
abbrev pub keys_in : Table → Bool → Given → Result (List ℕ) FaultValue
keys_in t as_index by = then_value (argument_columns t (labels_in by)) (as_keys as_index)

abbrev pub grouping_in : Table → List Given → Result Grouping FaultValue
grouping_in t (by ∷ sort ∷ dropna ∷ as_index ∷ []) =
    on (truth_in sort) (λ s. on (truth_in dropna) (λ d. on (truth_in as_index) (λ a. then_value (keys_in t a by) (λ keys. Ok record { keys = keys; sorted = s; dropna = d; as_index = a }))))
-- no other number of arguments is bound
grouping_in t gs = Err wrong_kind

-- the arguments of `groupby`
abbrev pub grouping_of : Table → List NamedGiven → Result Grouping FaultValue
grouping_of t by = of_bound (grouping_in t) (bound_of (parameters_of (Other Groupby)) by)

-- the columns that brackets name: that of a label, or those of a list of labels
abbrev pub values_named : Table → Option CellValue → Option GivenList → Result Values FaultValue
values_named t (Some c) parts = then_value (argument_column t (cell_label c)) (λ place. Ok record { places = place ∷ []; single = true })
values_named t None (Some parts) = if each is_scalar parts then then_value (argument_columns t (labels_of parts)) (λ places. Ok record { places = places; single = false }) else Err wrong_kind
values_named t None None = Err wrong_kind

-- without brackets they are all columns but the keys
abbrev pub values_in : Table → List ℕ → Option Given → Result Values FaultValue
values_in t keys None = Ok record { places = places_besides t keys; single = false }
values_in t keys (Some g) = values_named t (scalar_in g) (list_in g)

-- the reduction that a name means
abbrev pub reduction_named : Text → Option GroupReduction
reduction_named t =
    if same_text t (codes "sum") then Some groups.sum
    else if same_text t (codes "min") then Some groups.min
    else if same_text t (codes "max") then Some groups.max
    else if same_text t (codes "count") then Some groups.count
    else if same_text t (codes "nunique") then Some groups.nunique
    else if same_text t (codes "first") then Some groups.first
    else if same_text t (codes "last") then Some groups.last
    else None

-- what `transform` is told: the name of a reduction
abbrev pub transform_parameters : List Parameter
transform_parameters = needed name.Name accepted.Text ∷ []

abbrev pub transform_of : Option GroupReduction → Result GroupCall FaultValue
transform_of None = Err (bad_value argument)
transform_of (Some op) = Ok (transformed op)

abbrev pub transform_in : List Given → Result GroupCall FaultValue
transform_in (name ∷ []) = on (text_in name) (λ t. transform_of (reduction_named t))
transform_in gs = Err wrong_kind

-- the calls without arguments
abbrev pub reduced_or : Option GroupReduction → Option GroupCall
reduced_or None = None
reduced_or (Some op) = Some (reduced op)

abbrev pub plain_call : Text → Option GroupCall
plain_call t =
    if same_text t (codes "size") then Some size
    else if same_text t (codes "cumsum") then Some cumsum
    else if same_text t (codes "cumcount") then Some cumcount
    else reduced_or (reduction_named t)

abbrev pub without_arguments : {A : Type 0} → Option A → Text → List NamedGiven → Result A FaultValue
without_arguments None name gs = Err (no_attribute name)
without_arguments (Some call) name gs = of_bound (λ given. Ok call) (bound_of [] gs)

-- the last call
abbrev pub group_call_of : Text → List NamedGiven → Result GroupCall FaultValue
group_call_of name gs = if same_text name (codes "transform") then of_bound transform_in (bound_of transform_parameters gs) else without_arguments (plain_call name) name gs

-- the arguments of `groupby`, then the brackets, then the last call, then what it makes
abbrev pub grouped_frame : Table → List NamedGiven → Option Given → Text → List NamedGiven → Result Entry FaultValue
grouped_frame t by brackets name gs =
    then_value (grouping_of t by) (λ g. then_value (values_in t g.keys brackets) (λ v. then_value (group_call_of name gs) (group_answer t g v)))

-- a Series has no groups
abbrev pub grouped_of : Shape → Table → List NamedGiven → Option Given → Text → List NamedGiven → Result Entry FaultValue
grouped_of Series t by brackets name gs = Err (no_attribute (codes "groupby"))
grouped_of Frame t by brackets name gs = grouped_frame t by brackets name gs

-- nor has a scalar
abbrev pub grouped_result : Entry → List NamedGiven → Option Given → Text → List NamedGiven → Result Entry FaultValue
grouped_result (cell c) by brackets name gs = Err (no_attribute (codes "groupby"))
grouped_result (table t) by brackets name gs = grouped_of t.shape t by brackets name gs
