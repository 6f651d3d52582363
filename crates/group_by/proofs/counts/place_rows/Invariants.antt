use Rattle.{
  column_core.proofs.cells.Common.{◌≡◌, ◌<◌, ℕ, length, map, take, slice_index_or, range_with_len},
  factorize.specs.group.{Rows.{rows_of_group}, Reductions.{count_before}},
  group_by.specs.Counted.{AreNumbers},
}
use Rattle.group_by.proofs.counts.place_rows.Given as goal

-- how many rows each group has so far, and the places so far
abbrev pub invariant-loop-row : goal.invariant-loop-row
invariant-loop-row l = record {
  size : length l.counts ≡ l.groups.count;
  each : (g : ℕ) → g < l.groups.count → slice_index_or l.counts g 0 ≡ length (rows_of_group g (take l.row l.groups.codes));
  made : AreNumbers l.column (λ texts. map (count_before l.groups.codes) (range_with_len 0 l.row));
}
