use Rattle.asof_merge.proofs.GroupLaws.{left_groups, right_groups, tuples_met}
use Rattle.asof_merge.proofs.pairs.rows_by_tuple.Goals as goal

pub of-lefts-requires-clause-below : goal.of-lefts-requires-clause-below
of-lefts-requires-clause-below g c = left_groups _ _ _ _ c.in_ok-numbers.ensures.codes c.deref-codes.ensures.value _ _ c.in_ok-numbers.ensures.firsts c.deref-firsts.ensures.value _ c.requires.left_by _ c.split_at.ensures.front

pub of-rights-requires-clause-below : goal.of-rights-requires-clause-below
of-rights-requires-clause-below g c = right_groups _ _ _ _ c.in_ok-numbers.ensures.codes c.deref-codes.ensures.value _ _ c.in_ok-numbers.ensures.firsts c.deref-firsts.ensures.value _ c.requires.left_by _ c.split_at.ensures.back

pub returns : goal.returns
returns g c =
    tuples_met _ _ _ _ c.in_ok-numbers.ensures.codes c.deref-codes.ensures.value _ _ c.in_ok-numbers.ensures.firsts c.deref-firsts.ensures.value _ c.requires.left_by
    c.args.direction c.args.tolerance _ _ _ _ _ _ _ _ _ _
    c.of-lefts.ensures.keys c.of-rights.ensures.keys c.of-lefts.ensures.groups c.of-rights.ensures.groups c.split_at.ensures.front c.split_at.ensures.back c.in_ok-found.ensures c.from.ensures
