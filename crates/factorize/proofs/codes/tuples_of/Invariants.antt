use Rattle.{
  column_core.proofs.cells.Common.{◌≡◌, take},
  multi_index.specs.Axes.{tuples_at},
}
use Rattle.factorize.proofs.codes.tuples_of.Given as goal

-- the tuples so far
abbrev pub invariant-loop-place : goal.invariant-loop-place
invariant-loop-place l = l.made ≡ tuples_at l.tuples (take l.place l.rows)
