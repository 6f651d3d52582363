use Rattle.{column_core.proofs.cells.Common.{◌≡◌, ℕ, ◌+◌, ◌<◌, pos, length}, column_operators.specs.Vectors.{IsNumber}, std.specs.Prelude.{slice_index_or}}
use Rattle.column_operators.proofs.vectors.I64Vectored.load.Given as goal

-- the lanes so far
abbrev pub invariant-loop-lane : goal.invariant-loop-lane
invariant-loop-lane l = record {
  many : length l.lanes ≡ 16;
  so_far : (k : ℕ) → k < l.lane → IsNumber l.lanes k (slice_index_or l.values (l.from + k) (pos 0));
}
