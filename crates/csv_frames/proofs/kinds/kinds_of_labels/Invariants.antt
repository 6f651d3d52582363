use Rattle.{
  column_core.proofs.cells.Common.{◌≡◌, ◌++◌, map, length},
  meaning_csv.specs.CsvRead.{named_kind},
  csv_frames.specs.Views.{texts_seen, entries_seen},
}
use Rattle.csv_frames.proofs.kinds.kinds_of_labels.Given as goal

-- the kinds so far, before the others
abbrev pub invariant-loop-rest : goal.invariant-loop-rest
invariant-loop-rest l = l.named.items ++ map (named_kind (entries_seen l.dict l.kinds)) (texts_seen l.rest) ≡ map (named_kind (entries_seen l.dict l.kinds)) (texts_seen l.labels)

abbrev pub decreases-loop-rest : goal.decreases-loop-rest
decreases-loop-rest l = length l.rest
