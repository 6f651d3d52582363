use Rattle.{
  column_core.proofs.cells.Common.{◌≡◌, take},
  merge_concat.specs.{Growing.{cells_of_rows}, Parts.{cells_below}},
}
use Rattle.merge_concat.proofs.below.column_of.Given as goal

-- the cells of the parts so far
abbrev pub invariant-loop-part : goal.invariant-loop-part
invariant-loop-part g l = cells_of_rows g.T.Element.cell l.rows ≡ cells_below (take l.part-index l.parts)
