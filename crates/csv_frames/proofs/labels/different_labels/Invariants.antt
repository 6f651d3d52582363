use Rattle.{
  column_core.proofs.cells.Common.{◌≡◌, ◌++◌, length},
  meaning_csv.specs.CsvRead.{labels_after, different_labels},
  csv_frames.specs.{Labels.{AreSkipped}, Views.{texts_seen}},
}
use Rattle.csv_frames.proofs.labels.different_labels.Given as goal

-- the labels so far, before the others
abbrev pub invariant-loop-rest : goal.invariant-loop-rest
invariant-loop-rest l = record {
  labels : texts_seen l.different.items ++ labels_after (length l.header) l.labels.before l.labels.taken (texts_seen l.rest) ≡ different_labels (texts_seen l.header);
  skipped : AreSkipped l.labels.before l.labels.taken l.labels.next.items;
}

abbrev pub decreases-loop-rest : goal.decreases-loop-rest
decreases-loop-rest l = length l.rest
