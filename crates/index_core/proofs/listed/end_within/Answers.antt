use Rattle.{
  meaning_pick.proofs.cells.Common.{arith, of_calls, not, always_returns_same, is_gt},
  index_core.{specs.Labels.{order_in}, proofs.SplitLaws.{within_first}},
}
use Rattle.index_core.proofs.listed.end_within.Goals as goal

pub returns : goal.returns
returns c =
    let texts = c.args.dict.now in
    let point = c.partition_point.ensures.partitioned (λ label. not (is_gt (order_in texts label c.in-Some.bound))) (search (always_returns_same, of_calls)) (search within_first) in
    grind arith
