use Rattle.{
  frame_parts.proofs.Common.{◌≡◌, take},
  frame_select.specs.Across.{cells_across},
}
use Rattle.frame_select.proofs.selecting.row_cells.Given as goal

-- the cells so far
abbrev pub invariant-loop-place : goal.invariant-loop-place
invariant-loop-place l = l.cells ≡ cells_across l.fn.kind l.fn.row l.on (take l.place-index l.place-items)
