use Rattle.index_core.proofs.cells.Common.{ap, length, arith, length-range_with_len}
use Rattle.multi_index.proofs.axis.Axis.swap_levels.Goals as goal

pub swap-requires-clause-i_in_bounds : goal.swap-requires-clause-i_in_bounds
swap-requires-clause-i_in_bounds c = omega (arith, c.in_ok-order.order.ok.0, ap length c.in_ok-order.ensures, length-range_with_len 0 c.levels.result, c.levels.ensures.count, c.requires.first)

pub swap-requires-clause-j_in_bounds : goal.swap-requires-clause-j_in_bounds
swap-requires-clause-j_in_bounds c = omega (arith, c.in_ok-order.order.ok.0, ap length c.in_ok-order.ensures, length-range_with_len 0 c.levels.result, c.levels.ensures.count, c.requires.second)
