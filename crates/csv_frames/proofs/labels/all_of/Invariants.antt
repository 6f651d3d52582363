use Rattle.{
  column_core.proofs.cells.Common.{◌≡◌, [], length},
  meaning_csv.specs.CsvRead.{with_texts},
  csv_frames.specs.Views.{texts_seen},
}
use Rattle.csv_frames.proofs.labels.all_of.Given as goal

-- the texts so far, before the others
abbrev pub invariant-loop-rest : goal.invariant-loop-rest
invariant-loop-rest l = with_texts l.all (texts_seen l.rest) ≡ with_texts [] (texts_seen l.texts)

abbrev pub decreases-loop-rest : goal.decreases-loop-rest
decreases-loop-rest l = length l.rest
