use Rattle.index_core.proofs.cells.Common.{◌≡◌, take}
use Rattle.multi_index.proofs.levels.copies.Given as goal

-- the levels so far
abbrev pub invariant-loop-level : goal.invariant-loop-level
invariant-loop-level l = l.made.items ≡ take l.level-index l.levels
