use Rattle.{
  column_core.proofs.cells.Common.{◌≡◌, length},
  factorize.specs.multi_index.Axes.{HaveLevels},
}
use Rattle.tests_groups.proofs.reshapes.single.Given as goal

-- tuples so far
abbrev pub invariant-loop-label : goal.invariant-loop-label
invariant-loop-label l = record {
  levels : HaveLevels 1 l.made;
  count : length l.made ≡ l.label-index;
}
