use Rattle.{
  index_core.proofs.cells.Common.{arith, ◌<◌},
  multi_index.{specs.Levels.{row_count}, proofs.AxisLaws.{label_on, rows_of_axis}},
}
use Rattle.multi_index.proofs.axis.Axis.label.Goals as goal

pub label-requires-clause-row : goal.label-requires-clause-row
label-requires-clause-row c = omega (arith, c.requires.row, rows_of_axis _ _ _ c.self.view_is)

pub returns : goal.returns
returns c =
    let below : c.args.row < row_count c.self.inside.levels = omega (arith, c.requires.row, rows_of_axis _ _ _ c.self.view_is) in
    rw (← c.self.view_is) (label_on c.self.inside.levels c.args.row c.args.level _ below c.label.ensures)
