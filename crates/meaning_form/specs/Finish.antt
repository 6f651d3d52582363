-- What answers have in common: labels that stand again, and the limits.
use Rattle.std.specs.Prelude.{ℕ, pos, Bool, true, false, List, [], ◌∷◌, ◌++◌, map, length, replicate, unwrap_or, Option, Some, None, Result, Ok, Err, if◌then◌else◌}
use Rattle.std.specs.List.{list_any, range_with_len}
use Rattle.meaning_align.specs.cell_core.declared.grid.Shape.TheVariants.{Series}
use Rattle.meaning_tables.specs.cells.Cell.{Kind, CellValue, na_cell, LabelValue, int}
use Rattle.meaning_tables.specs.cells.Column.{ColumnValue, ColumnFault, kind_mismatch, zero_division, not_cast}
use Rattle.meaning_tables.specs.cells.Fault.{FaultValue, wrong_kind, bad_value, repeated, cast, zero_divide, limit, then_value}
use Rattle.meaning_tables.specs.Table.{ColumnOf, Table}
use Rattle.meaning_tables.specs.Value.{Entry, table}
pub use Rattle.meaning_tables.specs.Table.{same_kind}
pub use Rattle.meaning_tables.specs.Valid.{within_limits}
use Rattle.meaning_form.specs.Given.{same_label}

abbrev pub limited_table : Table → Result Table FaultValue
limited_table t = if within_limits (length t.labels) (length t.columns) then Ok t else Err limit

-- a new table, unless it is beyond the limits
abbrev pub limited : Table → Result Entry FaultValue
limited t = then_value (limited_table t) (λ t. Ok (table t))

abbrev pub same_heading : Option LabelValue → Option LabelValue → Bool
same_heading None None = true
same_heading (Some a) (Some b) = same_label a b
same_heading a b = false

-- the first of these labels that stands again, at a later place or among others
abbrev pub first_shared : List (Option LabelValue) → List (Option LabelValue) → Option LabelValue
first_shared [] others = None
first_shared (h ∷ hs) others = if list_any (same_heading h) (hs ++ others) then h else first_shared hs others

-- the first label that stands again at a later place
abbrev pub first_repeated : List (Option LabelValue) → Option LabelValue
first_repeated hs = first_shared hs []

abbrev pub unless_repeated : {A : Type 0} → Option LabelValue → Result A FaultValue → Result A FaultValue
unless_repeated None rest = rest
unless_repeated (Some l) rest = Err (bad_value (repeated (l ∷ [])))

-- a column of a table as the kernels see it, and back
abbrev pub value_of_column : ColumnOf CellValue → ColumnValue
value_of_column c = record { kind = c.kind; cells = c.cells }

abbrev pub column_of_value : ColumnValue → ColumnOf CellValue
column_of_value c = record { kind = c.kind; cells = c.cells }

-- why a kernel makes no column, as the fault of a form
abbrev pub fault_of_column : ColumnFault → FaultValue
fault_of_column kind_mismatch = wrong_kind
fault_of_column (zero_division row) = zero_divide
fault_of_column (not_cast row) = bad_value cast

abbrev pub made_column : Result ColumnValue ColumnFault → Result (ColumnOf CellValue) FaultValue
made_column (Ok c) = Ok (column_of_value c)
made_column (Err fault) = Err (fault_of_column fault)

-- what f makes of each, or the first fault
abbrev pub try_all : {A B : Type 0} → (A → Result B FaultValue) → List A → Result (List B) FaultValue
try_all f [] = Ok []
try_all f (x ∷ xs) = then_value (f x) (λ y. then_value (try_all f xs) (λ ys. Ok (y ∷ ys)))

-- the table with other columns in the places of its own
abbrev pub with_columns : Table → List (ColumnOf CellValue) → Table
with_columns t columns = record t { columns = columns }

-- the labels 0, 1 and so on, of one level without a name
abbrev pub default_labels : ℕ → List (List LabelValue)
default_labels count = map (λ row. int (pos row) ∷ []) (range_with_len 0 count)

abbrev pub missing_column : Kind → ℕ → ColumnOf CellValue
missing_column kind count = record { kind = kind; cells = replicate count na_cell }

-- the labels of the columns as those of rows; 0 would stand for a label that is missing, which no frame has
abbrev pub column_labels : Table → List (List LabelValue)
column_labels t = map (λ h. unwrap_or h (int (pos 0)) ∷ []) t.headings

-- a Series over the labels of the columns, whose level is named as they are together
abbrev pub across_columns : Table → Option LabelValue → Kind → List CellValue → Table
across_columns t name kind cells =
    record {
      shape = Series;
      columns_name = None;
      level_names = t.columns_name ∷ [];
      labels = column_labels t;
      headings = name ∷ [];
      columns = record { kind = kind; cells = cells } ∷ [];
    }
