use Rattle.index_core.proofs.cells.Common.{◌≡◌}
use Rattle.multi_index.specs.Levels.{new_levels}
use Rattle.multi_index.proofs.levels.Levels.from_tuples.Given as goal

-- the levels so far
abbrev pub invariant-loop-level : goal.invariant-loop-level
invariant-loop-level l = l.levels.items ≡ new_levels l.dict l.tuples l.level
