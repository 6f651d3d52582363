use Rattle.{
  column_core.proofs.cells.Common.{◌≡◌, ◌<◌, ℕ, length, take, slice_index_or},
  factorize.specs.group.Rows.{rows_of_group},
}
use Rattle.group_by.proofs.counts.count_rows.Given as goal

-- how many rows each group has so far
abbrev pub invariant-loop-row : goal.invariant-loop-row
invariant-loop-row l = record {
  size : length l.counts ≡ l.groups.count;
  each : (g : ℕ) → g < l.groups.count → slice_index_or l.counts g 0 ≡ length (rows_of_group g (take l.row l.groups.codes));
}
