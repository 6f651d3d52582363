use Rattle.{
  frame_parts.proofs.Common.{arith, table_value},
  frame_asof.proofs.KeyLaws.{named_so},
}
use Rattle.frame_asof.proofs.keys.columns_named.Goals as goal

pub returns-clause-answer : goal.returns-clause-answer
returns-clause-answer c = named_so c.args.dict.now (table_value c.args.dict.now c.args.l.now) (table_value c.args.dict.now c.args.r.now) c.args.label _ _ _ _ (grind arith) c.in_ok-keys.ensures.answer c.at.ensures c.at-2.ensures
