use Rattle.{
  frame_parts.proofs.Common.{arith, ap},
  frame_store.specs.Objects.{table_or},
  frame_methods.proofs.CsvLaws.{csv_made},
  frame_methods.proofs.Hints.{to_csv},
}
use Rattle.frame_methods.proofs.csv.to_csv.Goals as goal

pub returns-clause-answer : goal.returns-clause-answer
returns-clause-answer c =
    let same = ap table_or c.read-table.ensures.table in
    csv_made c.args.index c.args.dict.now _ _ _ same (grind (arith, to_csv)) c.in_ok-csv_cell.ensures.text
