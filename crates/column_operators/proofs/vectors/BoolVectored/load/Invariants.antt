use Rattle.{
  column_core.proofs.cells.Common.{◌≡◌, ℕ, ◌+◌, ◌<◌, false, length, slice_get, Some},
  std.specs.{Prelude.{slice_index_or}, Int.{from_bool}},
}
use Rattle.column_operators.proofs.vectors.BoolVectored.load.Given as goal

-- the lanes so far
abbrev pub invariant-loop-lane : goal.invariant-loop-lane
invariant-loop-lane l = record {
  many : length l.lanes ≡ 16;
  so_far : (k : ℕ) → k < l.lane → slice_get l.lanes k ≡ Some (from_bool (slice_index_or l.values (l.from + k) false));
}
