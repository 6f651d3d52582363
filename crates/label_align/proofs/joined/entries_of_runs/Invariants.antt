use Rattle.{
  meaning_align.{proofs.cells.Common.{◌≡◌, take}, specs.Joins.{lists_of}},
  label_align.specs.{Joined.{entries_seen}, Runs.{run_entries, total}},
}
use Rattle.label_align.proofs.joined.entries_of_runs.Given as goal

-- the entries of the runs so far
abbrev pub invariant-loop-run : goal.invariant-loop-run
invariant-loop-run l = record {
  made : entries_seen l.out ≡ lists_of (run_entries l.count (take l.run-index l.runs) l.rows);
  from : l.from ≡ total (take l.run-index l.runs);
}
