use Rattle.{
  meaning_pick.proofs.cells.Common.{arith, of_calls, always_returns_same, is_lt},
  index_core.{specs.Labels.{order_in}, proofs.SplitLaws.{below_first}},
}
use Rattle.index_core.proofs.listed.first_reached.Goals as goal

pub returns : goal.returns
returns c =
    let texts = c.args.dict.now in
    let point = c.partition_point.ensures.partitioned (λ label. is_lt (order_in texts label c.in-Some.bound)) (search (always_returns_same, of_calls)) (search below_first) in
    grind arith
