use Rattle.frame_parts.proofs.Common.{◌≡◌, replicate}
use Rattle.frame_reshape.proofs.melting.repeated.Given as goal

-- so many so far
abbrev pub invariant-loop : goal.invariant-loop
invariant-loop l = l.places ≡ replicate l.counter l.place
