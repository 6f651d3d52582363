use Rattle.{
  meaning_json.{proofs.cells.Common.{◌≡◌, ◌++◌, length, true, list_all, IsLonger}, specs.{tables.Settled.{IsSettled}, JsonRead.{is_of, cell_kind}}},
  csv_frames.specs.Views.{cells_seen},
  json_frames.specs.Views.{values_seen, cells_in},
}
use Rattle.json_frames.proofs.columns.column_there.Given as goal

-- the cells so far, before the others
abbrev pub invariant-loop-rest : goal.invariant-loop-rest
invariant-loop-rest l = record {
  longer : IsLonger l.fn.dict l.dict;
  settled : IsSettled cells_seen l.dict l.column.cells;
  kind : l.column.kind ≡ l.fn.kind;
  cells : cells_seen l.dict l.column.cells ++ cells_in l.field (values_seen l.rest) ≡ cells_in l.field (values_seen l.rows);
  held : list_all (λ c. is_of l.fn.kind (cell_kind c)) (cells_in l.field (values_seen l.rest)) ≡ true;
}

abbrev pub decreases-loop-rest : goal.decreases-loop-rest
decreases-loop-rest l = length l.rest
