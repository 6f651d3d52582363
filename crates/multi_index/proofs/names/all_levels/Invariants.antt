use Rattle.index_core.proofs.cells.Common.{◌≡◌, range_with_len}
use Rattle.multi_index.proofs.names.all_levels.Given as goal

abbrev pub invariant-loop-level : goal.invariant-loop-level
invariant-loop-level l = l.order.items ≡ range_with_len 0 l.level
