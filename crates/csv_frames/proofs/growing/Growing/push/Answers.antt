use Rattle.{
  column_core.proofs.cells.Common.{arith, ◌≡◌, false, rules},
  meaning_csv.specs.CsvRead.{is_missing},
  csv_frames.proofs.GrowingLaws.{missing_grown, kept_grown},
}
use Rattle.csv_frames.proofs.growing.Growing.push.Goals as goal

pub returns-in_ok-first_value-in-Missing-clause-grown : goal.returns-in_ok-first_value-in-Missing-clause-grown
returns-in_ok-first_value-in-Missing-clause-grown c = λ fields count grown.
    let value : is_missing c.args.field.now ≡ false = search rules in
    missing_grown _ _ _ _ c.args.named _ _ _ c.in-Missing.is value c.in_ok-first_value-in-Missing.ensures.first count grown

pub returns-else-not-fits-clause-grown : goal.returns-else-not-fits-clause-grown
returns-else-not-fits-clause-grown c = λ fields count grown.
    kept_grown _ _ _ _ _ _ _ _ c.in-Cells.is c.in_ok-fits-in-Cells.ensures.fits grown c.push_field.new.column
    (grind arith)
    c.in_ok-fits-in-Cells.ensures.grown
