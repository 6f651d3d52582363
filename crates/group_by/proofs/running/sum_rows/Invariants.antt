use Rattle.{
  column_core.proofs.cells.Common.{◌≡◌, ◌<◌, ℕ, true, List, length, map, take, slice_index_or, All, range_with_len, Cell, Na, Int64, datum, holds},
  factorize.specs.group.{Rows.{cells_of_group}, Reductions.{sum, group_cell, running_cell}},
  group_by.specs.Counted.{AreNumbers},
}
use Rattle.group_by.proofs.running.sum_rows.Given as goal

-- the sum of each group so far, and the sums of the rows so far
abbrev pub invariant-loop-row : goal.invariant-loop-row
invariant-loop-row l = record {
  size : length l.sums ≡ l.groups.count;
  held : All (λ (s : Cell). (texts : List (List ℕ)) → holds Int64 (datum texts s) ≡ true) l.sums;
  sums : (texts : List (List ℕ)) (g : ℕ) → g < l.groups.count → datum texts (slice_index_or l.sums g Na) ≡ group_cell sum (cells_of_group g (take l.row l.groups.codes) (map (datum texts) l.a.cells));
  made : AreNumbers l.column (λ texts. map (running_cell l.groups.codes (map (datum texts) l.a.cells)) (range_with_len 0 l.row));
}
