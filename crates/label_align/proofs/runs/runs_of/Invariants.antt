use Rattle.{
  meaning_align.proofs.cells.Common.{◌≡◌, ◌≤◌, ◌+◌, ◌++◌, drop},
  label_align.specs.{Both.{tuples_of}, Runs.{same_row, no_run, runs_from}},
}
use Rattle.label_align.proofs.runs.runs_of.Given as goal

-- the runs that have ended, and the run that has begun
abbrev pub invariant-loop-place : goal.invariant-loop-place
invariant-loop-place l = record {
  runs : l.made.items ++ runs_from (same_row (tuples_of l.both)) l.count l.run (drop l.place l.rows) ≡ runs_from (same_row (tuples_of l.both)) l.count no_run l.rows;
  few : l.run.lefts + l.run.rights ≤ l.place;
}
