use Rattle.column_core.proofs.cells.Common.{◌≡◌, length}
use Rattle.tests_groups.proofs.nearest.keys.Given as goal

abbrev pub invariant-loop-key : goal.invariant-loop-key
invariant-loop-key l = length l.made ≡ l.key-index
