use Rattle.frame_parts.proofs.Common.{◌≡◌, take, Na, taken}
use Rattle.frame_set.proofs.aligning.cells_at.Given as goal

-- the cells so far
abbrev pub invariant-loop-row : goal.invariant-loop-row
invariant-loop-row l = l.cells ≡ taken Na l.fn.column.cells (take l.row-index l.row-items)
