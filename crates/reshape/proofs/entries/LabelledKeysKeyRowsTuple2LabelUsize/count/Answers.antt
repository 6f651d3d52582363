use Rattle.{
  column_core.proofs.cells.Common.{arith, length-map},
  row_keys.proofs.ZipLaws.{length_zip},
}
use Rattle.reshape.proofs.entries.LabelledKeysKeyRowsTuple2LabelUsize.count.Goals as goal

pub returns : goal.returns
returns = grind (arith, length_zip, length-map)
