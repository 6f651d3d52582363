use Rattle.{
  column_core.proofs.cells.Common.{arith, slice_get-get_or},
  row_keys.proofs.ZipLaws.{zip_right, row_of_zip, zip_get_map},
}
use Rattle.factorize.proofs.numbers.UpperLevelKeyRowsTuple2LabelUsize.key.Goals as goal

pub offset_bounds-self-row : goal.offset_bounds-self-row
offset_bounds-self-row = grind (arith, zip_right)

pub bounds-self-row : goal.bounds-self-row
bounds-self-row g c = search zip_right

pub returns : goal.returns
returns g c = search (zip_get_map, slice_get-get_or, row_of_zip)
