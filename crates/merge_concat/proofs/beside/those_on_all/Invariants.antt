use Rattle.{
  column_core.proofs.cells.Common.{◌≡◌, take, list_any, list_all},
  std.specs.List.{filter},
  multi_index.specs.Axes.{HaveLevels},
  row_keys.specs.Keys.{same_tuple},
  merge_concat.specs.Axes.{tuples_of_each},
}
use Rattle.merge_concat.proofs.beside.those_on_all.Given as goal

-- the tuples that stand on the axes so far
abbrev pub invariant-loop-other : goal.invariant-loop-other
invariant-loop-other l = record {
  levels : HaveLevels l.levels l.kept;
  kept : l.kept ≡ filter (λ tuple. list_all (list_any (same_tuple tuple)) (take l.other-index (tuples_of_each l.others))) l.first.tuples;
}
