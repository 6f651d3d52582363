use Rattle.{
  column_core.proofs.cells.Common.{arith, length-map},
  row_keys.proofs.ZipLaws.{length_zip},
  reshape.proofs.SpreadLaws.{labelled_at},
}
use Rattle.reshape.proofs.entries.LabelledKeysKeyRowsTuple2LabelUsize.key.Goals as goal

pub code-requires : goal.code-requires
code-requires = grind (arith, length_zip, length-map)

pub returns : goal.returns
returns g c = rw c.unwrap_or.ensures (labelled_at _ _ _ _ _ c.requires c.label.ensures c.code.ensures.code)
