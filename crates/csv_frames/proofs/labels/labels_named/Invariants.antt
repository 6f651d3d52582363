use Rattle.{
  column_core.proofs.cells.Common.{◌≡◌, ◌++◌, drop},
  csv.specs.Records.{fields_of},
  meaning_csv.specs.CsvRead.{labels_named},
  csv_frames.specs.Views.{texts_seen},
}
use Rattle.csv_frames.proofs.labels.labels_named.Given as goal

-- the labels so far, before the others
abbrev pub invariant-loop-place : goal.invariant-loop-place
invariant-loop-place l = texts_seen l.labels.items ++ labels_named l.place (drop l.place (fields_of l.header)) ≡ labels_named 0 (fields_of l.header)
