use Rattle.{
  column_core.proofs.cells.Common.{◌≡◌, ◌<◌, ℕ, None, length, take, slice_index_or},
  factorize.specs.group.Rows.{rows_of_group},
  reshape.specs.Slots.{last_row, slots_of},
}
use Rattle.reshape.proofs.slots.place_rows.Given as goal

-- each cell has the last of its rows so far
abbrev pub invariant-loop-row : goal.invariant-loop-row
invariant-loop-row l = (slot : ℕ) → slot < length l.places → slice_index_or l.places slot None ≡ last_row None (rows_of_group slot (take l.row (slots_of l.keys l.labels)))
