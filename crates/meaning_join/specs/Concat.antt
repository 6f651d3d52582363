-- Columns one below the other, and the labels of several axes.
use Rattle.std.specs.Prelude.{Bool, true, false, nat_lt, if◌then◌else◌, List, [], ◌∷◌, ◌++◌, map, filter, length, Option, Some, None, Result, Ok, Err}
use Rattle.std.specs.List.{list_any, list_all, flat_map}
use Rattle.std.specs.Cmp.Lexicographic.{pointwise}
use Rattle.meaning_align.specs.cell_core.declared.cell.Kind.TheVariants.{Int64}
use Rattle.meaning_tables.specs.cells.Column.{ColumnValue}
use Rattle.meaning_tables.specs.cells.Reduce.{distinct}
pub use Rattle.meaning_tables.specs.Table.{same_kind}
use Rattle.meaning_align.specs.Joins.{most_rows}
use Rattle.meaning_align.specs.Targets.{first_repeated}
use Rattle.meaning_join.specs.Pairs.{or_else}

-- why nothing is put together
pub data ConcatRefusal (K : Type 0) : Type 0 where
  -- two columns are of different kinds
  mixed_kinds : ConcatRefusal K
  -- a label stands twice on an axis where each may stand once
  repeated_label : K → ConcatRefusal K
  -- there are more rows or cells than a table may have
  too_large : ConcatRefusal K

-- the cells of columns of one kind, one below the other; of no column there are none
abbrev pub column_below : List ColumnValue → Option ColumnValue
column_below [] = Some record { kind = Int64; cells = [] }
column_below (c ∷ cs) =
    if list_all (λ other. same_kind c.kind other.kind) cs then Some record { kind = c.kind; cells = flat_map (λ part. part.cells) (c ∷ cs) } else None

abbrev pub column_within_limit : {K : Type 0} → Option ColumnValue → Result ColumnValue (ConcatRefusal K)
column_within_limit None = Err mixed_kinds
column_within_limit (Some c) = if nat_lt most_rows (length c.cells) then Err too_large else Ok c

abbrev pub rows_concatenated : {K : Type 0} → List ColumnValue → Result ColumnValue (ConcatRefusal K)
rows_concatenated parts = column_within_limit (column_below parts)

-- what stands in any of the lists, each once in the order of first sight; or what stands in all of them, in the order
-- of the first
abbrev pub united : {K : Type 0} → (K → K → Bool) → Bool → List (List K) → List K
united same inner [] = []
united same true (first ∷ others) = filter (λ k. list_all (list_any (same k)) others) first
united same false lists = distinct same (flat_map (λ list. list) lists)

-- all have the labels of the first, row by row
abbrev pub are_equal : {K : Type 0} → (K → K → Bool) → List (List K) → Bool
are_equal same [] = true
are_equal same (first ∷ others) = list_all (pointwise same first) others

-- of the first axis on which a label stands twice, the first such label
abbrev pub repeated_on_any : {K : Type 0} → (K → K → Bool) → List (List K) → Option K
repeated_on_any same [] = None
repeated_on_any same (axis ∷ axes) = or_else (first_repeated same axis) (repeated_on_any same axes)

abbrev pub labels_within_limit : {K : Type 0} → List K → Result (List K) (ConcatRefusal K)
labels_within_limit labels = if nat_lt most_rows (length labels) then Err too_large else Ok labels

abbrev pub unless_repeated : {K : Type 0} → Option K → List K → Result (List K) (ConcatRefusal K)
unless_repeated None labels = labels_within_limit labels
unless_repeated (Some label) labels = Err (repeated_label label)

-- the labels of the first axis; of none there are none
abbrev pub first_axis : {K : Type 0} → List (List K) → List K
first_axis [] = []
first_axis (axis ∷ axes) = axis

-- the labels of axes that are put side by side: equal ones stay, and else no axis repeats a label
abbrev pub labels_concatenated : {K : Type 0} → (K → K → Bool) → Bool → List (List K) → Result (List K) (ConcatRefusal K)
labels_concatenated same inner axes = if are_equal same axes then labels_within_limit (first_axis axes) else unless_repeated (repeated_on_any same axes) (united same inner axes)

-- the labels of each part behind the label of the part
abbrev pub labels_under : {L : Type 0} → List L → List (List (List L)) → List (List L)
labels_under (key ∷ keys) (labels ∷ more) = map (λ tuple. key ∷ tuple) labels ++ labels_under keys more
labels_under keys more = []
