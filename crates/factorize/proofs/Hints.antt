-- Laws that the goals of functions want, by the name of the first that does.
use Rattle.{
  column_core.proofs.cells.Common.{get_or_from_slice_get, get_or_past},
  factorize.proofs.{LabelLaws.{no_row}, KeyNumberLaws.{sight_counted, ordered_below, ordered_counted}},
}

pub ruleset tuple_label = (no_row, get_or_from_slice_get, get_or_past)

pub ruleset number_keys = (sight_counted, ordered_below, ordered_counted)
