use Rattle.{
  frame_parts.proofs.Common.{table_value, table_at, world},
  frame_methods.proofs.AnswerLaws.{forms_called},
}
use Rattle.meaning_call.specs.declared.Method.TheVariants as method
use Rattle.frame_methods.proofs.calling.table_method.Goals as goal

pub returns : goal.returns
returns c =
    let w = world c.args.store.now c.args.dict.now in
    let t = table_value w.texts (table_at w.tables c.args.on.0) in
    forms_called w _ (method.Table c.args.method) c.in_ok-bound.bound t _ _ c.in_ok-bound.ensures.0 c.in_ok-bound.ensures.1 c.table_answer.ensures
