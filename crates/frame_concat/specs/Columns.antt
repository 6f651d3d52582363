-- Columns of parts, one below the other.
use Rattle.std.specs.Prelude.{ℕ, Bool, true, List, [], ◌∷◌, map, length, replicate, unwrap_or, Option, Some, None}
use Rattle.std.specs.Option.{option_map}
use Rattle.std.specs.List.{list_all, flat_map, sum_by}
use Rattle.cell_core.specs.declared.cell.Cell.{Cell}
use Rattle.cell_core.specs.declared.cell.Cell.TheVariants as cell
use Rattle.cell_core.specs.declared.cell.Kind.{Kind}
use Rattle.cell_core.specs.declared.cell.Kind.TheVariants.{Int64}
use Rattle.meaning_method.specs.join.Concat.{same_kind}
use Rattle.merge_concat.specs.declared.parts.Part.{Part}
use Rattle.merge_concat.specs.declared.parts.Part.TheVariants.{Cells, Missing}
use Rattle.frame_store.specs.tables.Table.{ColumnOf, NumberedTable}
use Rattle.frame_concat.specs.declared.parts.Sought.{Sought}
use Rattle.frame_concat.specs.Parts.{column_sought}

-- the kind of the first column that there is
abbrev pub kind_sought : Sought → List NumberedTable → Kind
kind_sought sought [] = Int64
kind_sought sought (t ∷ ts) = unwrap_or (option_map (λ c. c.kind) (column_sought sought t)) (kind_sought sought ts)

-- a column, if there is one, is of a kind
abbrev pub fits_kind : Kind → Option (ColumnOf Cell) → Bool
fits_kind kind None = true
fits_kind kind (Some c) = same_kind kind c.kind

-- the columns that there are have one kind
abbrev pub kinds_meet : List NumberedTable → Sought → Bool
kinds_meet parts sought = list_all (λ t. fits_kind (kind_sought sought parts) (column_sought sought t)) parts

-- a part's column, or so many missing cells
abbrev pub piece_from : Option (ColumnOf Cell) → ℕ → Part
piece_from (Some c) rows = Cells record { kind = c.kind; cells = c.cells }
piece_from None rows = Missing rows

abbrev pub piece_of : Sought → NumberedTable → Part
piece_of sought t = piece_from (column_sought sought t) (length t.labels)

-- a part's column, or missing cells
abbrev pub cells_or_missing : Sought → NumberedTable → List Cell
cells_or_missing sought t = unwrap_or (option_map (λ c. c.cells) (column_sought sought t)) (replicate (length t.labels) cell.Na)

-- the columns that are sought, one below the other
abbrev pub stacked : List NumberedTable → Sought → ColumnOf Cell
stacked parts sought = record { kind = kind_sought sought parts; cells = flat_map (cells_or_missing sought) parts }

-- all columns that are sought
abbrev pub all_kinds_meet : List NumberedTable → List Sought → Bool
all_kinds_meet parts columns = list_all (kinds_meet parts) columns

abbrev pub columns_stacked : List NumberedTable → List Sought → List (ColumnOf Cell)
columns_stacked parts columns = map (stacked parts) columns

-- how many rows the parts have together
abbrev pub rows_in : List NumberedTable → ℕ
rows_in parts = sum_by (λ t. length t.labels) parts
