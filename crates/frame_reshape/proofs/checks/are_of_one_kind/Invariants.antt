use Rattle.{
  frame_parts.proofs.Common.{◌≡◌},
  frame_reshape.{specs.Checks.{kinds_at, are_one}, proofs.KindLaws.{kinds_from}},
}
use Rattle.frame_reshape.proofs.checks.are_of_one_kind.Given as goal

-- the kinds from here on decide it
abbrev pub invariant-loop-k : goal.invariant-loop-k
invariant-loop-k l = kinds_from l.on l.places l.k ≡ are_one (kinds_at l.on l.places)
