use Rattle.{
  meaning_format.{proofs.cells.Common.{◌≡◌, ◌++◌, map}, specs.{Told.{level_name}, CsvWrite.{name_field}, Print.{places}}},
  csv.specs.Records.{fields_of},
  frame_format.specs.Written.{IsFilled},
}
use Rattle.frame_format.proofs.records.put_level_names.Given as goal

abbrev pub invariant-loop-level : goal.invariant-loop-level
invariant-loop-level g l = record {
  fields : fields_of l.record ≡ fields_of l.fn.record ++ map (λ level. name_field (level_name l.source level)) (places l.level);
  filled : IsFilled l.record;
}
