use Rattle.{
  meaning_align.proofs.cells.Common.{◌≡◌, ◌≤◌, take},
  label_align.specs.Runs.{counted},
}
use Rattle.label_align.proofs.runs.size_of_runs.Given as goal

-- the entries so far are few
abbrev pub invariant-loop-run : goal.invariant-loop-run
invariant-loop-run l = record {
  total : l.total ≡ counted (take l.run-index l.parts);
  fits : l.total ≤ l.most;
}
