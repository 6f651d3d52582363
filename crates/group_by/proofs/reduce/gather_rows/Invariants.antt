use Rattle.{
  column_core.proofs.cells.Common.{◌≡◌, ◌<◌, ℕ, length, map, take, slice_index_or, All, Na, datum},
  factorize.specs.group.{Rows.{cells_of_group}, Reductions.{group_cell, group_kind}},
  group_by.specs.Cells.{IsCellOf},
}
use Rattle.group_by.proofs.reduce.gather_rows.Given as goal

-- what is gathered of each group so far
abbrev pub invariant-loop-row : goal.invariant-loop-row
invariant-loop-row g l = record {
  size : length l.gathered ≡ l.groups.count;
  held : All (IsCellOf l.dict (group_kind g.G.Gather.op l.a.kind)) l.gathered;
  value : (group : ℕ) → group < l.groups.count → datum l.dict (slice_index_or l.gathered group Na) ≡ group_cell g.G.Gather.op (cells_of_group group (take l.row l.groups.codes) (map (datum l.dict) l.a.cells));
}
