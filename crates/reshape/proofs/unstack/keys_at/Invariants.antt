use Rattle.{
  column_core.proofs.cells.Common.{◌≡◌, take},
  factorize.specs.multi_index.Axes.{tuples_at},
}
use Rattle.reshape.proofs.unstack.keys_at.Given as goal

-- the keys so far
abbrev pub invariant-loop-row : goal.invariant-loop-row
invariant-loop-row g l = l.made ≡ tuples_at (g.R.KeyLevels.keys l.rows) (take l.row-index l.places)
