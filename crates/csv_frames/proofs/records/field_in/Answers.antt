use Rattle.{
  column_core.proofs.cells.Common.{◌∙◌, ap, [], unwrap_or},
  csv_frames.proofs.FieldLaws.{field_unwrapped},
}
use Rattle.csv_frames.proofs.records.field_in.Goals as goal

pub returns-in-Some : goal.returns-in-Some
returns-in-Some c = ap (λ o. unwrap_or o []) c.in-Some.ensures.value ∙ field_unwrapped _ _

pub returns-in-None : goal.returns-in-None
returns-in-None c = ap (λ o. unwrap_or o []) c.in-None.ensures.value ∙ field_unwrapped _ _
