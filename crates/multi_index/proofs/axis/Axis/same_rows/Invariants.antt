use Rattle.index_core.proofs.cells.Common.{◌≡◌, ◌<◌, ℕ, slice_get}
use Rattle.multi_index.proofs.axis.Axis.same_rows.Given as goal

abbrev pub invariant-loop-row : goal.invariant-loop-row
invariant-loop-row l = (k : ℕ) → k < l.row → slice_get l.self.tuples k ≡ slice_get l.other.tuples k
