use Rattle.{
  frame_parts.proofs.Common.{arith, refl, length},
  column_operators.specs.Tasks.{operator_of},
  frame_ops.proofs.WideTestLaws.{wide_beyond},
}
use Rattle.frame_ops.proofs.tables.wide_infix.Goals as goal

pub returns-then-not-within_limits-clause-makes : goal.returns-then-not-within_limits-clause-makes
returns-then-not-within_limits-clause-makes c = (
  wide_beyond (operator_of c.args.op) c.args.dict.now c.args.a.now c.args.b.now c.in_ok-joined.joined c.in_ok-joined.ensures.columns c.requires.known_a.whole.headed c.requires.known_b.whole.headed c.requires.may
      (length c.in_ok-joined.joined.axis.tuples) c.in_ok-joined.ensures.left.count_is (grind arith) (grind arith),
  λ more. refl,
)
