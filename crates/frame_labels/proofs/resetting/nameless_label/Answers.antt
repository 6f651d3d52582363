use Rattle.{
  frame_parts.proofs.Common.{arith, heading_label},
  frame_labels.proofs.ResetLaws.{text_seen, text_settled},
}
use Rattle.frame_labels.proofs.resetting.nameless_label.Goals as goal

pub returns-in-Some-clause-given : goal.returns-in-Some-clause-given
returns-in-Some-clause-given c = grind (arith, heading_label c.index_label.new.dict c.in_ok-index.field-0)

pub returns-in_ok-intern-in-None-clause-given : goal.returns-in_ok-intern-in-None-clause-given
returns-in_ok-intern-in-None-clause-given c = grind (arith, text_settled c.intern.new.self)

pub returns-in_ok-intern-in-None-clause-label : goal.returns-in_ok-intern-in-None-clause-label
returns-in_ok-intern-in-None-clause-label = grind (arith, text_seen)
