use Rattle.{
  multi_index.proofs.cells.Common.{◌≡◌, ◌++◌, map, take},
  row_keys.specs.Keys.{label_in},
}
use Rattle.row_keys.proofs.sides.AxisLevelRows.push_level.Given as goal

-- the labels so far
abbrev pub invariant-loop-row : goal.invariant-loop-row
invariant-loop-row l = l.labels.items ≡ l.fn.labels.items ++ map (label_in l.level) (take l.row l.self.tuples)
