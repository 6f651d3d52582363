use Rattle.column_core.proofs.cells.Common.{◌≡◌, [], length, take, slice_index_or}
use Rattle.reshape.proofs.entries.entry_of_row.Given as goal

-- there is room for four labels, and the first ones are those of the key
abbrev pub invariant-loop-level : goal.invariant-loop-level
invariant-loop-level g l = record {
  room : length l.labels ≡ 4;
  so_far : take l.level l.labels ≡ take l.level (slice_index_or (g.R.KeyLevels.keys l.rest) l.row []);
}
