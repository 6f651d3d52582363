-- Laws that the goals of functions want, by the name of the first that does.
use Rattle.column_operators.proofs.MarkLaws.{if_same_rows, number_listed}

pub ruleset listed_numbers = (if_same_rows, number_listed)
