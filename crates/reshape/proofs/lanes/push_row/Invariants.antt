use Rattle.{
  column_core.proofs.cells.Common.{◌≡◌, ◌++◌, map, take, slice_index_or, Na},
  merge_concat.specs.Growing.{cells_of_rows, cells_of_lane},
}
use Rattle.reshape.proofs.lanes.push_row.Given as goal

-- the values so far stand behind the others
abbrev pub invariant-loop-lane : goal.invariant-loop-lane
invariant-loop-lane g l = cells_of_rows g.T.Element.cell l.made ≡ cells_of_rows g.T.Element.cell l.initial.made ++ map (λ lane. slice_index_or (cells_of_lane g.T.Element.cell lane) l.row Na) (take l.lane-index l.lanes)
