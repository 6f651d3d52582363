use Rattle.{
  column_core.proofs.cells.Common.{◌≡◌, take, list_any},
  std.specs.List.{filter},
  row_keys.specs.Keys.{same_tuple},
}
use Rattle.merge_concat.proofs.beside.those_on.Given as goal

-- those of the tuples so far
abbrev pub invariant-loop-row : goal.invariant-loop-row
invariant-loop-row l = l.kept ≡ filter (λ tuple. list_any (same_tuple tuple) l.axis.tuples) (take l.row l.tuples)
