-- What the columns of a table meet, with texts by number.
use Rattle.std.specs.Prelude.{◌≡◌, ℕ, suc, ◌≤◌, Bool, true, false, List, [], ◌∷◌, map, length, replicate, slice_index_or, nat_eq, is_some, All, Result, Err, if◌then◌else◌}
use Rattle.std.specs.List.{list_all}
use Rattle.cell_core.specs.declared.cell.Kind.{Kind}
use Rattle.cell_core.specs.declared.cell.Cell.{Cell}
use Rattle.cell_core.specs.declared.cell.Cell.TheVariants.{Na}
use Rattle.column_core.specs.cells.Text.{Text}
use Rattle.column_core.specs.cells.Cell.{CellValue, datum, AreGiven, IsGiven}
use Rattle.column_core.specs.cells.Fault.{FaultValue, wrong_kind, bad_value, levels, limit}
use Rattle.column_core.specs.cells.Column.{ColumnValue, ColumnFault}
use Rattle.column_core.specs.cells.Operator.{operator_kind, scalar_kind, binary_column}
use Rattle.column_core.specs.cells.Symbol.{Binary}
use Rattle.frame_store.specs.tables.Table.{ColumnOf, NumberedTable, column_at, column_value}
use Rattle.frame_parts.specs.form.Finish.{value_of_column, within_limits, try_all}
use Rattle.frame_parts.specs.form.Infix.{Meeting, met, meets}
use Rattle.column_core.specs.Blocks.{CellBlock}
use Rattle.frame_parts.specs.Makes.{AreColumns}
use Rattle.frame_ops.specs.declared.other.Other.{Other}
use Rattle.frame_ops.specs.declared.other.Other.TheVariants.{Scalar, Beside, Across}

-- two columns of one length, side by side
abbrev pub Pair : Type 0
Pair = ColumnOf Cell × ColumnOf Cell

abbrev pub turned_pair : Bool → ColumnOf Cell → ColumnOf Cell → Pair
turned_pair false a b = (a, b)
turned_pair true a b = (b, a)

-- a cell in so many rows
abbrev pub repeated : Kind → ℕ → Cell → ColumnOf Cell
repeated kind count c = record { kind = kind; cells = replicate count c }

-- a scalar's kind beside a column's
abbrev pub kind_beside : Kind → Cell → Kind
kind_beside kind c = scalar_kind kind (datum [] c)

-- the cell of a Series at a place
abbrev pub series_cell : NumberedTable → ℕ → Cell
series_cell s place = slice_index_or (column_at s.columns 0).cells place Na

-- the column at a place, with what it meets there
abbrev pub pair_at : Other → ℕ → ColumnOf Cell → Pair
pair_at (Scalar c left) place a = turned_pair left a (repeated (kind_beside a.kind c) (length a.cells) c)
pair_at (Beside t) place a = (a, column_at t.columns place)
pair_at (Across s left) place a = turned_pair left a (repeated (column_at s.columns 0).kind (length a.cells) (series_cell s place))

-- the columns from a place on, each with what it meets
abbrev pub pairs_from : Other → ℕ → List (ColumnOf Cell) → List Pair
pairs_from other place [] = []
pairs_from other place (a ∷ as') = pair_at other place a ∷ pairs_from other (suc place) as'

-- a column of the table with what it meets, and all columns
abbrev pub met_at : NumberedTable → Other → ℕ → Pair
met_at on other place = pair_at other place (column_at on.columns place)

abbrev pub all_met : NumberedTable → Other → List Pair
all_met on other = pairs_from other 0 on.columns

-- the operator takes the kinds
abbrev pub kinds_meet : Binary → Pair → Bool
kinds_meet op pair = is_some (operator_kind op pair.0.kind pair.1.kind)

-- the two columns with texts
abbrev pub meeting_value : List Text → Pair → Meeting
meeting_value texts pair = (value_of_column (column_value texts pair.0), value_of_column (column_value texts pair.1))

abbrev pub meetings_value : List Text → List Pair → List Meeting
meetings_value texts pairs = map (meeting_value texts) pairs

-- what the operator makes of two columns
abbrev pub column_meant : Binary → Meeting → Result ColumnValue ColumnFault
column_meant op m = binary_column op m.0 m.1

-- the rows of both sides have as many levels
abbrev pub levels_fit : NumberedTable → Other → Bool
levels_fit on (Scalar c left) = true
levels_fit on (Beside t) = nat_eq (length on.level_names) (length t.level_names)
levels_fit on (Across s left) = nat_eq (length s.level_names) 1

-- there is a column or a cell for each column, of as many rows
abbrev pub IsOpposite : NumberedTable → Other → Type 0
IsOpposite on (Scalar c left) = Unit {0}
IsOpposite on (Beside t) = (length t.columns ≡ length on.columns) × (length t.labels ≡ length on.labels)
IsOpposite on (Across s left) = (1 ≤ length s.columns) × (length (column_at s.columns 0).cells ≡ length on.columns)

-- its texts were given
abbrev pub IsGivenOther : List Text → Other → Type 0
IsGivenOther texts (Scalar c left) = IsGiven texts c
IsGivenOther texts (Beside t) = All (λ c. AreGiven texts c.cells) t.columns
IsGivenOther texts (Across s left) = AreGiven texts (column_at s.columns 0).cells

-- The columns that an operator makes. Kinds are tested first, the levels of the rows and the limits next, a divisor of
-- 0 last.
abbrev pub columns_meant : Binary → ℕ → Bool → List Meeting → Result (List (ColumnOf CellValue)) FaultValue
columns_meant op rows fit meetings =
    if list_all (meets op) meetings
    then (if fit then (if within_limits rows (length meetings) then try_all (met op) meetings else Err limit) else Err (bad_value levels))
    else Err wrong_kind

-- the columns that an operator makes of a table and what its columns meet
abbrev pub columns_for : Binary → List Text → NumberedTable → Other → Result (List (ColumnOf CellValue)) FaultValue
columns_for op texts on other = columns_meant op (length on.labels) (levels_fit on other) (meetings_value texts (all_met on other))

-- as many columns as the table has, and as long, whose texts were given
abbrev pub AreColumnsFor : List Text → NumberedTable → List CellBlock → Type 0
AreColumnsFor texts on blocks = AreColumns texts (length on.labels) (length on.columns) blocks
