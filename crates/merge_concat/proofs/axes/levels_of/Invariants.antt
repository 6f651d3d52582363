use Rattle.{
  column_core.proofs.cells.Common.{◌≡◌, ◌≤◌, take},
  multi_index.specs.Axes.{HaveLevels},
  merge_concat.specs.Axes.{levels_of_first, tuples_in},
}
use Rattle.merge_concat.proofs.axes.levels_of.Given as goal

-- the axes so far have these levels
abbrev pub invariant-loop-axis : goal.invariant-loop-axis
invariant-loop-axis l = record {
  some : 1 ≤ l.levels;
  few : l.levels ≤ 4;
  count : 1 ≤ l.axis-index → l.levels ≡ levels_of_first l.axes;
  alike : HaveLevels (levels_of_first l.axes) (tuples_in (take l.axis-index l.axes));
}
