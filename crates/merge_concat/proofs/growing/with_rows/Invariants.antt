use Rattle.{
  column_core.{proofs.cells.Common.{◌≡◌, ◌++◌, tabulate}, specs.Lanes.{lane_row}},
  merge_concat.specs.Growing.{cells_of_rows},
}
use Rattle.merge_concat.proofs.growing.with_rows.Given as goal

-- the lane's rows so far stand behind the others
abbrev pub invariant-loop-row : goal.invariant-loop-row
invariant-loop-row g l =
    cells_of_rows g.T.Element.cell l.rows
    ≡ cells_of_rows g.T.Element.cell l.initial.rows
    ++ tabulate l.row (λ k. g.T.Element.cell (lane_row l.lane.values.now l.lane.present.now l.lane.start l.lane.stride l.lane.back k))
