-- Laws that the goals of functions want, by the name of the first that does.
use Rattle.{
  column_core.proofs.{BlockLaws.{option-replicate}},
  std.proofs.Math.Facts.{to_z-of_z},
}

pub ruleset filled = (option-replicate)

pub ruleset shift = (to_z-of_z)
