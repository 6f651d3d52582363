use Rattle.{
  frame_parts.{proofs.Common.{arith, ap, table_value}, specs.form.Infix.{joined_frames}},
  column_operators.specs.Tasks.{operator_of},
  frame_ops.proofs.{InfixLaws.{makes_as}, WideLaws.{may_left, may_right}},
}
use Rattle.frame_ops.proofs.tables.joined_across.Goals as goal

pub wide_infix-requires-clause-may : goal.wide_infix-requires-clause-may
wide_infix-requires-clause-may c = may_left (operator_of c.args.op) c.args.dict.now c.args.frame.now c.args.series.now _ _ c.read-other.ensures c.in_ok-spread.ensures.made c.requires.may c.requires.known_frame.whole c.in_ok-spread.ensures.known.whole

pub wide_infix-requires-2-clause-may : goal.wide_infix-requires-2-clause-may
wide_infix-requires-2-clause-may c = may_right (operator_of c.args.op) c.args.dict.now c.args.frame.now c.args.series.now _ _ c.read-other.ensures c.in_ok-spread.ensures.made c.requires.may

pub returns-then-left-clause-makes : goal.returns-then-left-clause-makes
returns-then-left-clause-makes c =
    makes_as _ _ _ _ c.wide_infix.ensures.makes
    (grind (arith, ap (λ t. joined_frames (operator_of c.args.op) (table_value c.args.dict.now t) (table_value c.args.dict.now c.args.frame.now)) c.read-other.ensures))

pub returns-clause-makes : goal.returns-clause-makes
returns-clause-makes c =
    makes_as _ _ _ _ c.wide_infix-2.ensures.makes
    (grind (arith, ap (λ t. joined_frames (operator_of c.args.op) (table_value c.args.dict.now c.args.frame.now) (table_value c.args.dict.now t)) c.read-other.ensures))
