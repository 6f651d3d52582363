use Rattle.multi_index.{proofs.cells.Common.{◌≡◌, ◌++◌, take}, specs.Axes.{tuples_at}}
use Rattle.row_keys.proofs.levels.tuples_at.Given as goal

-- the tuples so far
abbrev pub invariant-loop-row : goal.invariant-loop-row
invariant-loop-row g l = l.made ≡ tuples_at (g.A.LevelRows.tuples l.left ++ g.B.LevelRows.tuples l.right) (take l.row-index l.rows)
