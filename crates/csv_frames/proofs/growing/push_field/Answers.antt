use Rattle.{
  column_core.{proofs.cells.Common.{subst, OnOk}, specs.{Columns.{CellColumn}, Views.{kept_column}}},
  csv_frames.specs.Growing.{IsGrownBy},
}
use Rattle.csv_frames.proofs.growing.push_field.Goals as goal

pub returns-clause-grown : goal.returns-clause-grown
returns-clause-grown c =
    let grown : CellColumn → Type 0 = λ before. OnOk c.push_kept.result (IsGrownBy c.args.dict.now c.push_kept.new.dict c.args.field.now before (kept_column c.push_kept.new.lanes)) in
    subst grown c.column.view_is c.push_kept.ensures.grown
