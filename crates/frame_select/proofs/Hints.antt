-- Laws that the goals of functions want, by the name of the first that does.
use Rattle.{
  frame_parts.proofs.Common.{length-map, length-range_with_len, get_or-tabulate},
  frame_store.proofs.RowLaws.{item_of-Row},
  frame_select.proofs.{ListedLaws.{beyond_rows, reached_both, planned_beyond}, HeadingLaws.{all_made, place_met, place_passed, absent_is, no_place}, NamedLaws.{argument_missing, argument_several, places_met, places_passed, all_placed, label_missed}, CutLaws.{reached_plan, places_inside, places_count, read_is, whole_axis, frame_taken, gathered_with, gathered, one_more_chosen, one_more_single, chosen_whole}},
  indexers.proofs.SpanLaws.{place_pushed},
}

pub ruleset whole_item = (item_of-Row)

pub ruleset place_of_label = (place_met, place_passed, absent_is, no_place)

pub ruleset headed_by = (places_inside, places_count)

pub ruleset count = (length-map, length-range_with_len)

pub ruleset sliced_axis = (whole_axis, place_pushed, length-map, length-range_with_len, get_or-tabulate)

pub ruleset take_frame = (read_is, frame_taken, gathered_with, gathered)

pub ruleset chosen_blocks = (one_more_chosen, one_more_single)

pub ruleset table_under = (chosen_whole, length-map)

pub ruleset places_of_label = (places_met, places_passed, all_placed)

pub ruleset named_columns = (all_made, length-map)

pub ruleset argument_column = (argument_missing, argument_several)

pub ruleset label_columns = (label_missed)

pub ruleset reach_by = (reached_both, length-map)

pub ruleset access_plan = (reached_plan, planned_beyond, beyond_rows)
