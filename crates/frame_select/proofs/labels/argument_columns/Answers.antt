use Rattle.{
  frame_parts.proofs.Common.{table_value},
  frame_select.proofs.{NamedLaws.{arguments_named}},
}
use Rattle.frame_select.proofs.labels.argument_columns.Goals as goal

pub returns-clause-answer : goal.returns-clause-answer
returns-clause-answer c =
    arguments_named c.args.dict.now (table_value c.args.dict.now c.args.on.now) _ _ c.in_ok-named_columns.ensures.answer c.in_ok-named_columns.ensures.repeated c.in_ok-named_columns.ensures.given _ c.each_once.ensures.ok c.each_once.ensures.refused
