use Rattle.multi_index.proofs.AxisLaws.{axis_at}
use Rattle.multi_index.proofs.axis.Axis.of_levels.Goals as goal

pub returns : goal.returns
returns c = axis_at c.self.inside.levels c.self.inside.names _ c.self.view_is c.self.invariant.room c.self.invariant.whole _ _ c.args.order.now c.requires.some c.requires.inside c.in_ok-levels.ensures c.names_of.ensures.names
