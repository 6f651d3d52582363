use Rattle.column_core.proofs.cells.Common.{◌≡◌, ◌++◌, replicate, string_bytes}
use Rattle.text_methods.proofs.points.push_zeros.Given as goal

-- so many so far
abbrev pub invariant-loop : goal.invariant-loop
invariant-loop l = string_bytes l.out ≡ string_bytes l.initial.out ++ replicate l.counter 48
