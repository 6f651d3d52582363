use Rattle.index_core.proofs.cells.Common.{length-range_with_len, ap, length, arith}
use Rattle.multi_index.proofs.axis.Axis.drop_level.Goals as goal

pub remove-requires : goal.remove-requires
remove-requires c = omega (arith, c.in_ok-order.order.ok.0, ap length c.in_ok-order.ensures, length-range_with_len 0 c.levels.result, c.levels.ensures.count, c.requires.level)
