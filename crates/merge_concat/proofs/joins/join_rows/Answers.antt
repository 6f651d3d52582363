use Rattle.{
  column_core.proofs.cells.Common.{arith},
  merge_concat.proofs.{JoinLaws.{left_below, right_below, allowed, law_of}, JoinOrderLaws.{order_of}},
}
use Rattle.merge_concat.proofs.joins.join_rows.Goals as goal

pub of-lefts-requires : goal.of-lefts-requires
of-lefts-requires g c = left_below _ c.args.how c.args.once _ _ _ c.is_outer.ensures _ c.in_ok-numbers.ensures.count _ (grind arith) _ c.count.ensures _ _ c.split_at.ensures.front c.split_at.ensures.back

pub of-rights-requires : goal.of-rights-requires
of-rights-requires g c = right_below _ c.args.how c.args.once _ _ _ c.is_outer.ensures _ c.in_ok-numbers.ensures.count _ (grind arith) _ c.count.ensures _ _ c.split_at.ensures.front c.split_at.ensures.back

pub returns-clause-pairs : goal.returns-clause-pairs
returns-clause-pairs g c = grind (arith, allowed)

pub returns-clause-law : goal.returns-clause-law
returns-clause-law g c = law_of _ _ _ _ _ _ _ (returns-clause-pairs g c)

pub returns-clause-order : goal.returns-clause-order
returns-clause-order g c = order_of _ _ _ _ _ _ _ (returns-clause-pairs g c)
