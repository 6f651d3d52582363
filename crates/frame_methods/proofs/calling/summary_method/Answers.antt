use Rattle.{
  frame_parts.proofs.Common.{object_settled, longer_self, arith},
  frame_labels.proofs.AnswerLaws.{forms_so},
}
use Rattle.frame_methods.proofs.calling.summary_method.Goals as goal

pub summarize-made-requires : goal.summarize-made-requires
summarize-made-requires c = search object_settled

pub returns : goal.returns
returns c =
    forms_so _ _ _ _ _ _
    (grind arith)
    (c.answer_made.ensures c.args.dict.now _ (longer_self _) c.requires.settled c.summarize-made.ensures.answer)
