use Rattle.index_core.proofs.cells.Common.{◌≡◌, take}
use Rattle.multi_index.proofs.levels.Levels.with_level.Given as goal

-- the old levels so far
abbrev pub invariant-loop-level : goal.invariant-loop-level
invariant-loop-level l = l.levels.items ≡ take l.level l.self
