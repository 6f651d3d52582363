use Rattle.multi_index.proofs.AxisLaws.{axis_of_tuples}
use Rattle.multi_index.proofs.axis.Axis.from_tuples.Goals as goal

pub returns : goal.returns
returns c = rw c.nameless.ensures (axis_of_tuples c.args.dict.now c.args.tuples.now _ c.args.levels c.requires.some c.requires.alike c.in_ok-kept.ensures)
