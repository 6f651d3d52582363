use Rattle.column_core.proofs.cells.Common.{◌≡◌, range_with_len}
use Rattle.factorize.proofs.order.in_sequence.Given as goal

abbrev pub invariant-loop-number : goal.invariant-loop-number
invariant-loop-number l = l.numbers.items ≡ range_with_len 0 l.number
