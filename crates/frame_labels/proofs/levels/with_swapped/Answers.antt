use Rattle.{
  frame_parts.proofs.Common.{ap, limited},
  frame_labels.proofs.{AnswerLaws.{derives_so}, LevelMoveLaws.{swapped_seen, swapped_settled}},
}
use Rattle.frame_labels.proofs.levels.with_swapped.Goals as goal

pub returns : goal.returns
returns c = λ texts settled.
    let is = rw c.axis.ensures at c.in_ok-axis.ensures in
    derives_so texts _ _ _ _ (ap limited (swapped_seen texts _ _ c.args.i c.args.j is))
    (c.under_within.ensures texts (swapped_settled texts _ _ c.args.i c.args.j is settled))
