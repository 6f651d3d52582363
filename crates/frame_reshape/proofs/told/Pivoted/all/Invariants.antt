use Rattle.frame_parts.proofs.Common.{◌≡◌, take}
use Rattle.frame_reshape.proofs.told.Pivoted.all.Given as goal

-- the columns so far
abbrev pub invariant-loop-k : goal.invariant-loop-k
invariant-loop-k l = l.places ≡ take l.k l.self.index
