use Rattle.{
  meaning_format.{proofs.cells.Common.{◌++◌, flat_map, na_cell}, specs.{tables.Table.{row_of}, CsvWrite.{header_fields, row_fields, record_text}, Print.{places}}},
  frame_format.specs.Written.{HasWritten},
}
use Rattle.frame_format.proofs.records.csv_text.Given as goal

abbrev pub invariant-loop-row : goal.invariant-loop-row
invariant-loop-row g l = HasWritten l.writer (record_text (header_fields l.fn.index l.source) ++ flat_map (λ row. record_text (row_fields l.fn.index (row_of na_cell l.source row))) (places l.row))
