use Rattle.{
  frame_parts.proofs.Common.{arith},
  frame_concat.proofs.{PartLaws.{first_count}, BesideLaws.{met_labels, met_twice, united_alike, met_axis}},
}
use Rattle.frame_concat.proofs.beside.met.Goals as goal

pub from_tuples-requires-clause-alike : goal.from_tuples-requires-clause-alike
from_tuples-requires-clause-alike c =
    let labels = met_labels _ c.len.ensures.distinct _ c.requires.known c.args.asked.now _ c.requires.axes c.requires.apart _ c.in-Ok.ensures in
    grind (arith, first_count, united_alike)

pub on_axis-requires-clause-axis : goal.on_axis-requires-clause-axis
on_axis-requires-clause-axis c =
    met_axis _ c.len.ensures.distinct _ c.requires.known c.args.asked.now _ c.requires.axes c.requires.apart _ c.in-Ok.ensures _ _ c.in_ok-axis-in-Ok.ensures
    (rw (c.levels-levels.ensures.count, c.axis.ensures, c.table.ensures) (first_count _ _ c.requires.some c.index-parts-0.is)) c.requires.levels

pub returns-in-Err-DuplicateLabels : goal.returns-in-Err-DuplicateLabels
returns-in-Err-DuplicateLabels c =
    let answer = rw c.in-Err-DuplicateLabels.field-0-is at c.in-Err-DuplicateLabels.ensures in
    rw c.in-Err-DuplicateLabels.field-0-is (met_twice _ c.len.ensures.distinct _ c.requires.known c.args.asked.now _ c.requires.axes c.requires.apart _ answer)
