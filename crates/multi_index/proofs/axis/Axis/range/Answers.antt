use Rattle.multi_index.{specs.Levels.{range_level}, proofs.AxisLaws.{axis_of_one}}
use Rattle.multi_index.proofs.axis.Axis.range.Goals as goal

pub returns : goal.returns
returns c = rw (c.nameless.ensures, c.in_ok-levels.ensures) (axis_of_one (range_level c.args.n))
