use Rattle.column_core.proofs.cells.Common.{◌≡◌, length, after_spaces}
use Rattle.nullable_array.proofs.casts.trimmed_start.Given as goal

-- only spaces were left out
abbrev pub invariant-skipping : goal.invariant-skipping
invariant-skipping l = after_spaces l.rest ≡ after_spaces l.fn.bytes

abbrev pub decreases-skipping : goal.decreases-skipping
decreases-skipping l = length l.rest
