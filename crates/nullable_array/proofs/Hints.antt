-- Laws that the goals of functions want, by the name of the first that does.
use Rattle.{
  std.proofs.Math.Facts.{to_z-of_z},
  nullable_array.proofs.CastLaws.{numeral_read, numeral_refused},
}

pub ruleset number_of_numeral = (to_z-of_z, numeral_read, numeral_refused)
