-- Laws that the goals of functions want, by the name of the first that does.
use Rattle.{
  column_core.proofs.{cells.Common.{length-replicate, length-map, with_items_is}, ColumnLaws.{length-tabulate}},
  group_by.proofs.{DistinctLaws.{noted_there, new_there, noted_missing}, GatherLaws.{cells_held, column_given}},
}

pub ruleset places = (length-replicate)

pub ruleset note = (noted_there, new_there, noted_missing)

pub ruleset group_transform = (length-map, length-tabulate)

pub ruleset gathered = (length-replicate, with_items_is, cells_held, column_given)
