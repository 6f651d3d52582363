-- Laws that the goals of functions want, by the name of the first that does.
use Rattle.{
  column_core.proofs.cells.Common.{length-map},
  indexers.proofs.ListLaws.{counted_none, counted_some, few_listed, list_inside, uncounted},
}

pub ruleset listed_places = (few_listed, list_inside)

pub ruleset rows_counted = (counted_none, counted_some, uncounted)

pub ruleset rows_of_each = (length-map)
