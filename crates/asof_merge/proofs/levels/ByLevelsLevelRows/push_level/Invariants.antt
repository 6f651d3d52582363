use Rattle.{
  column_core.proofs.cells.Common.{◌≡◌, ◌++◌, map, take},
  row_keys.specs.Keys.{label_in},
}
use Rattle.asof_merge.proofs.levels.ByLevelsLevelRows.push_level.Given as goal

-- the labels so far
abbrev pub invariant-loop-row : goal.invariant-loop-row
invariant-loop-row g l = l.labels.items ≡ l.fn.labels.items ++ map (label_in l.level) (take l.row (g.R.KeyLevels.keys l.self.rows.now))
