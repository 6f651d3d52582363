use Rattle.column_operators.proofs.QuotientLaws.{least_power, narrow}
use Rattle.column_operators.proofs.divisors.Divisor.new.Goals as goal

pub inverse-requires-clause-narrow : goal.inverse-requires-clause-narrow
inverse-requires-clause-narrow c = narrow _ _ c.requires.below (least_power c.args.value c.requires.above c.requires.below).1
