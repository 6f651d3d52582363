use Rattle.multi_index.{specs.Levels.{seen_level}, proofs.AxisLaws.{axis_of_one}}
use Rattle.multi_index.proofs.axis.Axis.from_labels.Goals as goal

pub returns : goal.returns
returns c = rw (c.nameless.ensures, c.in_ok-levels.ensures) (axis_of_one (seen_level c.args.labels.items))
