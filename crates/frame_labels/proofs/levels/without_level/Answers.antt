use Rattle.{
  frame_parts.proofs.Common.{◌∙◌, ap, sym, arith, limited},
  frame_labels.proofs.{AnswerLaws.{derives_so}, LevelMoveLaws.{dropped_seen, level_stays, dropped_settled}},
}
use Rattle.frame_labels.proofs.levels.without_level.Goals as goal

pub returns : goal.returns
returns c = λ texts settled.
    let is = rw c.axis.ensures at c.in_ok-axis.ensures in
    derives_so texts _ _ _ _ (ap limited (dropped_seen texts _ _ c.args.level is) ∙ sym (level_stays texts c.args.on.now c.args.level (grind arith)))
    (c.under_within.ensures texts (dropped_settled texts _ _ c.args.level is settled))
