use Rattle.{
  column_core.{proofs.cells.Common.{◌≡◌, map, take}, specs.Columns.{CellColumn}},
  merge_concat.specs.Growing.{cells_of_lane},
}
use Rattle.reshape.proofs.lanes.lanes_of.Given as goal

-- the lanes so far
abbrev pub invariant-loop-column : goal.invariant-loop-column
invariant-loop-column g l = map (cells_of_lane g.T.Element.cell) l.lanes.items ≡ map (λ (c : CellColumn). c.cells) (take l.column-index l.columns)
