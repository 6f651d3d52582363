use Rattle.index_core.proofs.cells.Common.{◌≡◌, take}
use Rattle.multi_index.specs.Levels.{levels_at}
use Rattle.multi_index.proofs.levels.Levels.at.Given as goal

-- the levels so far
abbrev pub invariant-loop-level : goal.invariant-loop-level
invariant-loop-level l = l.levels.items ≡ levels_at l.self (take l.level-index l.order)
