use Rattle.{
  frame_parts.proofs.Common.{longer_self, arith},
  frame_labels.proofs.AnswerLaws.{forms_so},
}
use Rattle.frame_methods.proofs.calling.row_method.Goals as goal

pub returns : goal.returns
returns c =
    forms_so _ _ _ _ _ _ (grind arith)
    (c.placed.ensures.answers c.args.dict.now _ (longer_self _) c.requires.settled c.rows_made-table.ensures)
