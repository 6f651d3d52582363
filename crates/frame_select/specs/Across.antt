-- The cells of a row across columns.
use Rattle.std.specs.Prelude.{◌≡◌, ℕ, List, map, slice_index_or, All}
use Rattle.cell_core.specs.declared.cell.Kind.{Kind}
use Rattle.cell_core.specs.declared.cell.Cell.{Cell}
use Rattle.cell_core.specs.declared.cell.Cell.TheVariants.{Na}
use Rattle.column_core.specs.Columns.{CellColumn}
use Rattle.frame_store.specs.tables.Table.{NumberedTable, column_at}

-- the columns at these places are of the kind
abbrev pub HaveKind : Kind → NumberedTable → List ℕ → Type 0
HaveKind kind t places = All (λ place. (column_at t.columns place).kind ≡ kind) places

abbrev pub cell_across : NumberedTable → ℕ → ℕ → Cell
cell_across t row place = slice_index_or (column_at t.columns place).cells row Na

abbrev pub cells_across : Kind → ℕ → NumberedTable → List ℕ → CellColumn
cells_across kind row t places = record { kind = kind; cells = map (cell_across t row) places }
