use Rattle.meaning_align.proofs.cells.Common.{◌≡◌, ◌<◌, ℕ, slice_get}
use Rattle.label_align.proofs.targets.has_tuples.Given as goal

-- the tuples so far are the same
abbrev pub invariant-loop-row : goal.invariant-loop-row
invariant-loop-row g l = (k : ℕ) → k < l.row → slice_get l.axis.tuples k ≡ slice_get (g.R.LevelRows.tuples l.tuples) k
