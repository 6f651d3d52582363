use Rattle.{
  column_core.proofs.cells.Common.{◌≡◌, ◌<◌, ℕ, false, length, map, take, slice_index_or, list_any, Cell, datum, IsGiven, present, same_cell, distinct_count},
  factorize.specs.group.Rows.{cells_of_group},
  group_by.specs.Distincts.{is_missing, same_member},
}
use Rattle.group_by.proofs.distinct.count_distinct.Given as goal

-- how many different cells each group has so far, and that they were seen
abbrev pub invariant-loop-row : goal.invariant-loop-row
invariant-loop-row l =
    let cells = λ (g : ℕ). cells_of_group g (take l.row l.groups.codes) (map (datum l.dict) l.a.cells) in
    record {
      size : length l.counts ≡ l.groups.count;
      each : (g : ℕ) → g < l.groups.count → slice_index_or l.counts g 0 ≡ distinct_count (cells g);
      seen : (g : ℕ) (c : Cell) → IsGiven l.dict c → is_missing c ≡ false → list_any (same_member (g, c)) l.seen.keys ≡ list_any (same_cell (datum l.dict c)) (present (cells g));
    }
