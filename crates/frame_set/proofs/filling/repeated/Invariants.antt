use Rattle.frame_parts.proofs.Common.{◌≡◌, replicate}
use Rattle.frame_set.proofs.filling.repeated.Given as goal

-- the cells so far
abbrev pub invariant-loop : goal.invariant-loop
invariant-loop l = l.cells ≡ replicate l.counter l.cell
