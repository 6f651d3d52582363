use Rattle.{
  frame_parts.proofs.Common.{arith, columns_name_part, heading_label},
  frame_labels.proofs.ResetLaws.{text_seen, text_settled},
}
use Rattle.frame_reshape.proofs.melting.label_heading.Goals as goal

pub returns-in-Some-clause-given : goal.returns-in-Some-clause-given
returns-in-Some-clause-given c = heading_label _ c.args.on.now.columns_name _ (grind arith) (columns_name_part _ c.args.on.now c.requires.given)

pub returns-in_ok-intern-in-None-clause-label : goal.returns-in_ok-intern-in-None-clause-label
returns-in_ok-intern-in-None-clause-label = grind (arith, text_seen)

pub returns-in_ok-intern-in-None-clause-given : goal.returns-in_ok-intern-in-None-clause-given
returns-in_ok-intern-in-None-clause-given c = grind (arith, text_settled c.intern.new.self)
