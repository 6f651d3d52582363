use Rattle.{
  column_core.proofs.cells.Common.{◌≡◌, ◌<◌, ◌-◌, drop, map},
  multi_index.specs.Axes.{nameless_axis},
  merge_concat.specs.Axes.{levels_of_first, tuples_in},
}
use Rattle.merge_concat.proofs.axes.all_levels.Given as goal

-- the labels from a level on
abbrev pub invariant-loop-level : goal.invariant-loop-level
invariant-loop-level l = record {
  inside : l.level < levels_of_first l.axes;
  made : l.axis ≡ nameless_axis (map (drop l.level) (tuples_in l.axes)) (levels_of_first l.axes - l.level);
}

abbrev pub decreases-loop-level : goal.decreases-loop-level
decreases-loop-level l = l.level
