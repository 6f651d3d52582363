use Rattle.{
  frame_store.proofs.cells.Common.{refl},
  frame_signatures.proofs.NameLaws.{method_of_row},
}
use Rattle.frame_signatures.proofs.table.method_named.Goals as goal

pub returns-in_err-row : goal.returns-in_err-row
returns-in_err-row c = rw (method_of_row c.args.shape c.args.name.now _ _ c.row_of.ensures c.method_names.ensures, c.in_err-row.was) c.from_residual.ensures

pub returns-in-Series : goal.returns-in-Series
returns-in-Series c = rw (method_of_row c.args.shape c.args.name.now _ _ c.row_of.ensures c.method_names.ensures, c.in-Series.is, c.in_ok-row.was) refl

pub returns-in-Frame : goal.returns-in-Frame
returns-in-Frame c = rw (method_of_row c.args.shape c.args.name.now _ _ c.row_of.ensures c.method_names.ensures, c.in-Frame.is, c.in_ok-row.was) refl
