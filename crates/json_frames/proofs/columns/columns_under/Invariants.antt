use Rattle.{
  meaning_json.{proofs.cells.Common.{◌≡◌, ◌++◌, map, string_bytes, IsLonger}, specs.{tables.Settled.{IsSettled}, JsonRead.{cells_under, column_of_cells}}},
  csv_frames.specs.Views.{columns_seen},
  json_frames.specs.{Views.{values_seen}, Kinds.{keys_seen}},
}
use Rattle.json_frames.proofs.columns.columns_under.Given as goal

-- the columns so far, before those under the other keys
abbrev pub invariant-loop-key : goal.invariant-loop-key
invariant-loop-key l = record {
  longer : IsLonger l.fn.dict l.dict;
  settled : IsSettled columns_seen l.dict l.columns;
  columns : columns_seen l.dict l.columns ++ map column_of_cells (map (cells_under (values_seen l.rows)) (map string_bytes l.key-iterator)) ≡ map column_of_cells (map (cells_under (values_seen l.rows)) (keys_seen l.kinds));
}
