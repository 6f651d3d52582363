use Rattle.{
  column_core.proofs.cells.Common.{◌≡◌, ◌+◌, ◌++◌, List, ℕ, length, IsLonger},
  meaning_csv.specs.CsvRead.{first_long},
  csv_frames.specs.{Rows.{Reads, file_rows, rows_left}, Growing.{GrownTo}},
}
use Rattle.csv_frames.proofs.growth.growth_of.Given as goal

-- the records so far, before those that are left
abbrev pub invariant-reading : goal.invariant-reading
invariant-reading l = record {
  longer : IsLonger l.fn.dict l.dict;
  reads : Reads l.reader;
  before : (before : List (List (List ℕ)))
      × (before ++ rows_left l.reader ≡ file_rows l.fn.bytes)
      × (first_long l.width (2 + length before) (rows_left l.reader) ≡ first_long l.width 2 (file_rows l.fn.bytes))
      × GrownTo l.dict l.kinds before l.growth;
}

abbrev pub decreases-reading : goal.decreases-reading
decreases-reading l = length (rows_left l.reader)
