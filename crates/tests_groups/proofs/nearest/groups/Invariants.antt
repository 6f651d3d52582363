use Rattle.column_core.proofs.cells.Common.{◌≡◌, length}
use Rattle.factorize.specs.multi_index.Axes.{HaveLevels}
use Rattle.tests_groups.proofs.nearest.groups.Given as goal

abbrev pub invariant-loop-group : goal.invariant-loop-group
invariant-loop-group l = record { levels : HaveLevels 1 l.made; count : length l.made ≡ l.group-index }
