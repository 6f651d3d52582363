use Rattle.{
  meaning_format.{proofs.cells.Common.{◌≡◌, ◌++◌, map}, specs.{Told.{heading_at}, CsvWrite.{heading_field}, Print.{places}}},
  csv.specs.Records.{fields_of},
  frame_format.specs.Written.{IsFilled},
}
use Rattle.frame_format.proofs.records.put_headings.Given as goal

abbrev pub invariant-loop-column : goal.invariant-loop-column
invariant-loop-column g l = record {
  fields : fields_of l.record ≡ fields_of l.fn.record ++ map (λ column. heading_field (heading_at l.source column)) (places l.column);
  filled : IsFilled l.record;
}
