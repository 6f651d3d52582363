use Rattle.factorize.specs.multi_index.Axes.{HaveLevels}
use Rattle.tests_groups.proofs.joins.keys.Given as goal

-- keys so far
abbrev pub invariant-loop-value : goal.invariant-loop-value
invariant-loop-value l = HaveLevels 1 l.made
