use Rattle.{
  column_core.proofs.cells.Common.{◌≡◌, ◌≤◌, ◌<◌, ℕ, None, length, slice_index_or},
  asof_merge.specs.Walk.{rows_of, key_at, IsPassed, AreNearestPassed, AreOnSide, found_row},
}
use Rattle.asof_merge.proofs.walk.find_rows.Given as goal

-- the rows that came up so far have their answers, and what was passed lies on the side of all others
abbrev pub invariant-loop-step : goal.invariant-loop-step
invariant-loop-step l = record {
  within : l.passed ≤ length l.others.keys.now;
  groups : length l.nearest ≡ l.others.count;
  size : length l.found ≡ length l.rows.keys.now;
  nearest : AreNearestPassed l.direction l.others.groups.now l.passed l.nearest;
  on_side : (row : ℕ) → row < length l.rows.keys.now → (IsPassed l.direction (length l.rows.keys.now) l.step row → ⊥)
      → AreOnSide l.direction (key_at l.rows.keys.now row) l.others.keys.now l.passed;
  found : (row : ℕ) → row < length l.rows.keys.now → IsPassed l.direction (length l.rows.keys.now) l.step row
      → slice_index_or l.found row None ≡ found_row l.direction l.tolerance l.rows.keys.now l.rows.groups.now (rows_of l.others.keys.now l.others.groups.now) row;
}
