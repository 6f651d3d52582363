use Rattle.index_core.proofs.cells.Common.{◌≡◌, map, take}
use Rattle.multi_index.specs.Levels.{taken_level}
use Rattle.multi_index.proofs.levels.taken.Given as goal

-- the levels so far
abbrev pub invariant-loop-level : goal.invariant-loop-level
invariant-loop-level l = l.made.items ≡ map (taken_level l.places) (take l.level-index l.levels)
