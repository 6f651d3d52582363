use Rattle.frame_parts.proofs.Common.{◌≡◌, take}
use Rattle.frame_set.proofs.filling.cells_of.Given as goal

-- the cells so far
abbrev pub invariant-loop-row : goal.invariant-loop-row
invariant-loop-row l = l.cells ≡ take l.row l.fn.column.cells
