use Rattle.{
  frame_parts.proofs.Common.{arith, ap},
  frame_concat.proofs.PartLaws.{lent, items_in, numbered_given, axis_given, axis_rows},
}
use Rattle.frame_concat.proofs.below.axis_of_all.Goals as goal

pub returns-then-asked-clause-given : goal.returns-then-asked-clause-given
returns-then-asked-clause-given c = numbered_given _ _ _ c.range.ensures

pub returns-clause-given : goal.returns-clause-given
returns-clause-given c =
    axis_given c.args.asked.now.keys c.match-asked.keys (grind (arith, lent, items_in)) _ c.args.parts.now (grind arith) _ _ c.in_ok-axis.ensures c.named.ensures.tuples _ c.requires.known (λ more. ap (λ a. a.keys) (c.requires.keys more)) c.named.ensures.given

pub returns-clause-count : goal.returns-clause-count
returns-clause-count c =
    axis_rows c.args.asked.now.keys c.match-asked.keys (grind (arith, lent, items_in)) _ c.args.parts.now (grind arith) c.in_ok-axis.axis c.named.result c.in_ok-axis.ensures c.named.ensures.tuples c.args.rows c.requires.fit c.requires.rows
