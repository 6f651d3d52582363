use Rattle.{
  index_core.proofs.cells.Common.{arith, below_more},
  multi_index.proofs.{LevelTuples.{count_tuples, tuple_at}, ListedLaws.{ends_at}},
}
use Rattle.multi_index.proofs.listed.end_within.Goals as goal

pub loop-row-preserved : goal.loop-row-preserved
loop-row-preserved = grind (arith, below_more, tuple_at)

pub returns-then-is_gt : goal.returns-then-is_gt
returns-then-is_gt c =
    rw c.in-Some.is
    (ends_at _ _ c.requires c.in-Some.bound.now _ (omega (arith, count_tuples c.args.levels.now)) c.loop-row.invariant
    (λ d lt. grind (arith, tuple_at)))

pub returns : goal.returns
returns = grind (arith, count_tuples)
