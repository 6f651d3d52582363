use Rattle.{
  frame_parts.proofs.Common.{arith},
  frame_ops.proofs.WideTestLaws.{may_widen, on_any},
}
use Rattle.frame_ops.proofs.tables.expect_unequal.Goals as goal

pub returns-clause-may : goal.returns-clause-may
returns-clause-may c = on_any _ _ (may_widen _ c.args.dict.now c.args.a.now c.args.b.now (grind arith) (grind arith) (grind arith))
