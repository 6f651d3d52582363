-- What settings and constructors share: columns of the scalars in a list.
use Rattle.std.specs.Prelude.{ℕ, List, [], ◌∷◌, nat_eq, Result, Ok, Err, if◌then◌else◌}
use Rattle.std.specs.List.{list_all}
use Rattle.meaning_align.specs.cell_core.declared.cell.Kind.{Kind}
use Rattle.meaning_align.specs.cell_core.declared.cell.Kind.TheVariants.{Int64}
use Rattle.meaning_tables.specs.cells.Cell.{CellValue, na_cell, holds}
use Rattle.meaning_tables.specs.cells.Operator.{scalar_kind}
use Rattle.meaning_tables.specs.cells.Fault.{FaultValue, wrong_kind, bad_value, length_of}
use Rattle.meaning_tables.specs.Table.{ColumnOf}

-- the kind of the first cell that is present; whole numbers where none is
abbrev pub first_kind : List CellValue → Kind
first_kind [] = Int64
first_kind (na_cell ∷ cs) = first_kind cs
first_kind (c ∷ cs) = scalar_kind Int64 c

-- the column of these cells; cells of different kinds are a TypeError
abbrev pub list_column : List CellValue → Result (ColumnOf CellValue) FaultValue
list_column cells = if list_all (holds (first_kind cells)) cells then Ok record { kind = first_kind cells; cells = cells } else Err wrong_kind

-- as many as are expected, or a ValueError
abbrev pub of_length : {A : Type 0} → ℕ → ℕ → Result A FaultValue → Result A FaultValue
of_length expected got rest = if nat_eq expected got then rest else Err (bad_value (length_of expected got))
