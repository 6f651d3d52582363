use Rattle.{
  column_core.proofs.cells.Common.{◌≡◌, ◌<◌, ◌==◌, ℕ, length, take, slice_index_or, None},
  std.specs.List.{position},
}
use Rattle.factorize.proofs.places.place_all.Given as goal

-- each number's place among those so far
abbrev pub invariant-loop-place : goal.invariant-loop-place
invariant-loop-place l = record {
  size : length l.places ≡ length l.fn.places;
  at : (n : ℕ) → n < length l.fn.places → slice_index_or l.places n None ≡ position (λ k. n == k) (take l.place l.kept);
}
