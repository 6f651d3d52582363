use Rattle.{
  frame_parts.proofs.Common.{arith, world},
  frame_store.specs.tables.Cost.{answer_charge},
  frame_labels.proofs.AnswerLaws.{forms_so},
  frame_reshape.proofs.CallLaws.{is_call},
}
use Rattle.frame_reshape.proofs.calling.method.Goals as goal

pub reshaped-table-requires-clause-call : goal.reshaped-table-requires-clause-call
reshaped-table-requires-clause-call c =
    is_call (world c.args.store.now c.args.dict.now) c.args.method _ _ _ c.parameters.ensures c.requires.arguments c.in_ok-bound.ensures

pub returns : goal.returns
returns c =
    forms_so answer_charge _ _ _ _ _
    (grind arith)
    (c.placed.ensures.answers _ _ c.reshaped-table.ensures.longer c.requires.settled c.reshaped-table.ensures.answer)
