-- Laws that the goals of functions want, by the name of the first that does.
use Rattle.{
  frame_parts.proofs.Common.{list_all-map},
  frame_concat.proofs.{PartLaws.{numbered_axis, range_rows, axes_alike, axis_of_parts, levels_as, united_given, headings_united, numbered_labels, first_headings}, BelowLaws.{labelled_made, frames_equal, frames_other}, BesideLaws.{beside_equal, beside_met, met_given, met_found, met_many, beyond_axis}},
}

pub ruleset axis_of_all = (numbered_axis, range_rows, axes_alike, axis_of_parts)

pub ruleset below = (list_all-map)

pub ruleset frames_below = (levels_as, frames_equal, frames_other)

pub ruleset frames_in_order = (first_headings)

pub ruleset frames_by_label = (united_given, headings_united, labelled_made)

pub ruleset beside = (beside_equal, beside_met)

pub ruleset met = (axes_alike, met_given, met_found, met_many, numbered_labels)

pub ruleset on_axis = (beyond_axis)
