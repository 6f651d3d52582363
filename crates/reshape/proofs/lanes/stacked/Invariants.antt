use Rattle.{
  column_core.proofs.cells.Common.{◌≡◌},
  merge_concat.specs.Growing.{cells_of_rows},
  reshape.specs.Blocks.{cells_across},
}
use Rattle.reshape.proofs.lanes.stacked.Given as goal

-- the cells of the rows so far
abbrev pub invariant-loop-row : goal.invariant-loop-row
invariant-loop-row g l = cells_of_rows g.T.Element.cell l.made ≡ cells_across l.row l.fn.columns
