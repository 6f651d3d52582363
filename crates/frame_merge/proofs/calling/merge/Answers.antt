use Rattle.{
  frame_parts.proofs.Common.{arith, world},
  frame_store.specs.tables.Cost.{answer_charge},
  frame_labels.proofs.AnswerLaws.{forms_so},
  frame_merge.proofs.KeyLaws.{is_call},
}
use Rattle.frame_merge.proofs.calling.merge.Goals as goal

pub merged-table-requires-clause-call : goal.merged-table-requires-clause-call
merged-table-requires-clause-call c =
    is_call (world c.args.store.now c.args.dict.now) _ _ _ c.parameters-parameters.ensures c.requires.arguments c.in_ok-bound.ensures

pub returns : goal.returns
returns c =
    forms_so answer_charge _ _ _ _ _
    (grind arith)
    (c.placed.ensures.answers _ _ c.merged-table.ensures.longer c.requires.settled c.merged-table.ensures.answer)
