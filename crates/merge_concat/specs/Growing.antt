-- The cells of rows that grow.
use Rattle.std.specs.Prelude.{Bool, List, length, Option}
use Rattle.cell_core.specs.declared.cell.Cell.{Cell}
use Rattle.column_core.specs.cells.Column.{tabulate}
use Rattle.column_core.specs.Lanes.{option_at, lane_row}
use Rattle.column_core.specs.declared.lanes.Owned.{Owned}
use Rattle.column_core.specs.declared.lanes.Lane.{Lane}

-- the cells of values, each of which is present or not
abbrev pub cells_of_values : {T : Type 0} → (Option T → Cell) → List T → List Bool → List Cell
cells_of_values cell values present = tabulate (length values) (λ k. cell (option_at values present k))

-- the cells of rows that are kept
abbrev pub cells_of_rows : {T : Type 0} → (Option T → Cell) → Owned T → List Cell
cells_of_rows cell rows = cells_of_values cell rows.values.items rows.present.items

-- the cells of a lane
abbrev pub cells_of_lane : {T : Type 0} → (Option T → Cell) → Lane T → List Cell
cells_of_lane cell lane = tabulate lane.count (λ k. cell (lane_row lane.values.now lane.present.now lane.start lane.stride lane.back k))
