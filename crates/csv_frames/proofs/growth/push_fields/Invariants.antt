use Rattle.{
  column_core.proofs.cells.Common.{◌≡◌, ◌||◌, List, ℕ, length, drop, IsLonger},
  csv.specs.Records.{fields_of},
  meaning_csv.specs.CsvRead.{has_misfit},
  csv_frames.{specs.Growing.{AreGrown}, proofs.GrowthLaws.{ArePushed}},
}
use Rattle.csv_frames.proofs.growth.push_fields.Given as goal

-- the columns so far have the record
abbrev pub invariant-loop-place : goal.invariant-loop-place
invariant-loop-place l = record {
  longer : IsLonger l.fn.dict l.dict;
  count : length l.columns ≡ length l.kinds;
  pushed : (before : List (List (List ℕ))) → length before ≡ l.rows → AreGrown l.fn.dict l.kinds before l.fn.columns → ArePushed l.dict l.kinds before (fields_of l.row) l.place l.columns;
  misfit : (before : List (List (List ℕ))) → length before ≡ l.rows → AreGrown l.fn.dict l.kinds before l.fn.columns → (l.misfit || has_misfit (drop l.place l.kinds) (drop l.place (fields_of l.row))) ≡ has_misfit l.kinds (fields_of l.row);
}
