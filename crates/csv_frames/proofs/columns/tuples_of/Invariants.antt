use Rattle.{
  column_core.proofs.cells.Common.{◌≡◌, ◌++◌, length, IsLonger},
  meaning_csv.specs.tables.Settled.{IsSettled},
  csv_frames.specs.Views.{texts_seen, label_tuples, tuples_seen},
}
use Rattle.csv_frames.proofs.columns.tuples_of.Given as goal

-- the labels so far, before the others
abbrev pub invariant-loop-rest : goal.invariant-loop-rest
invariant-loop-rest l = record {
  longer : IsLonger l.fn.dict l.dict;
  settled : IsSettled tuples_seen l.dict l.tuples;
  labels : tuples_seen l.dict l.tuples ++ label_tuples (texts_seen l.rest) ≡ label_tuples (texts_seen l.labels);
}

abbrev pub decreases-loop-rest : goal.decreases-loop-rest
decreases-loop-rest l = length l.rest
