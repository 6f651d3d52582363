use Rattle.{
  index_core.proofs.cells.Common.{arith},
  multi_index.proofs.AxisLaws.{axis_taken, rows_of_axis},
}
use Rattle.multi_index.proofs.axis.Axis.take.Goals as goal

pub take-requires : goal.take-requires
take-requires c = λ k d lt. omega (arith, c.requires k d lt, rows_of_axis _ _ _ c.self.view_is)

pub returns : goal.returns
returns c = axis_taken c.self.inside.levels c.self.inside.names _ c.self.view_is c.self.invariant.room c.self.invariant.whole _ c.args.places.now c.requires c.in_ok-levels.ensures
