-- The cells of rows.
use Rattle.std.specs.Prelude.{ℕ, List, map}
use Rattle.cell_core.specs.declared.cell.Cell.{Cell}
use Rattle.frame_store.specs.tables.Table.{NumberedTable}
use Rattle.frame_select.specs.Across.{cell_across}

-- the cells of a row in the columns at these places
abbrev pub row_cells : NumberedTable → List ℕ → ℕ → List Cell
row_cells t places row = map (cell_across t row) places
