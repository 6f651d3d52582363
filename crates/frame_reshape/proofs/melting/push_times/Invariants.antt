use Rattle.frame_parts.proofs.Common.{◌≡◌, ◌++◌, replicate}
use Rattle.frame_reshape.proofs.melting.push_times.Given as goal

-- so many so far
abbrev pub invariant-loop : goal.invariant-loop
invariant-loop l = l.column ≡ record { kind = l.initial.column.kind; cells = l.initial.column.cells ++ replicate l.counter l.cell }
