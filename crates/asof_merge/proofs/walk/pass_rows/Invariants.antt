use Rattle.{
  column_core.proofs.cells.Common.{◌≡◌, ◌≤◌, ◌-◌, length},
  asof_merge.specs.Walk.{AreNearestPassed, AreOnSide},
}
use Rattle.asof_merge.proofs.walk.pass_rows.Given as goal

-- so many are passed
abbrev pub invariant-loop-passed : goal.invariant-loop-passed
invariant-loop-passed l = record {
  within : l.passed ≤ length l.others.keys.now;
  size : length l.nearest ≡ l.others.count;
  nearest : AreNearestPassed l.direction l.others.groups.now l.passed l.nearest;
  on_side : AreOnSide l.direction l.key l.others.keys.now l.passed;
}

abbrev pub decreases-loop-passed : goal.decreases-loop-passed
decreases-loop-passed l = l.count - l.passed
