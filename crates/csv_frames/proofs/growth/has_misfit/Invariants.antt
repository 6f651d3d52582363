use Rattle.{
  column_core.proofs.cells.Common.{◌≡◌, drop},
  csv.specs.Records.{fields_of},
  meaning_csv.specs.CsvRead.{has_misfit},
}
use Rattle.csv_frames.proofs.growth.has_misfit.Given as goal

-- no field so far
abbrev pub invariant-loop-place : goal.invariant-loop-place
invariant-loop-place l = has_misfit (drop l.place l.kinds) (drop l.place (fields_of l.row)) ≡ has_misfit l.kinds (fields_of l.row)
