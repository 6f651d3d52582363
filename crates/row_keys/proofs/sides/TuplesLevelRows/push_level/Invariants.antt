use Rattle.{
  multi_index.proofs.cells.Common.{◌≡◌, ◌++◌, map, take},
  row_keys.specs.Keys.{label_in},
}
use Rattle.row_keys.proofs.sides.TuplesLevelRows.push_level.Given as goal

-- the labels so far
abbrev pub invariant-loop-tuple : goal.invariant-loop-tuple
invariant-loop-tuple l = l.labels.items ≡ l.fn.labels.items ++ map (label_in l.level) (take l.tuple-index l.tuple-items)
