use Rattle.{
  meaning_json.{proofs.cells.Common.{◌≡◌, map, range_with_len, IsLonger}, specs.{tables.Settled.{IsSettled}, JsonRead.{cells_at, column_of_cells}}},
  csv_frames.specs.Views.{columns_seen},
  json_frames.specs.Views.{values_seen},
}
use Rattle.json_frames.proofs.columns.columns_at.Given as goal

-- the columns so far
abbrev pub invariant-loop-place : goal.invariant-loop-place
invariant-loop-place l = record {
  longer : IsLonger l.fn.dict l.dict;
  settled : IsSettled columns_seen l.dict l.columns;
  columns : columns_seen l.dict l.columns ≡ map column_of_cells (map (cells_at (values_seen l.rows)) (range_with_len 0 l.place));
}
