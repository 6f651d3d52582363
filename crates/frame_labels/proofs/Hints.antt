-- Laws that the goals of functions want, by the name of the first that does.
use Rattle.{
  frame_parts.proofs.Common.{get_or_from_slice_get, length-map, err_from_is_err_and, single_on},
  frame_labels.proofs.{ResetLaws.{renumbered_beyond, range_rows, reset_refused, reset_some, reset_made, parts_repeated, parts_beyond}, LevelMoveLaws.{section_missing, section_beyond}, IndexingLaws.{rows_alike, single_column}, ReindexLaws.{own_labels_given, columns_refused, columns_beyond, rows_made, rows_whole, one_more_column}},
  frame_select.proofs.{RefusalLaws.{no_key_settled}, PlaceLaws.{place_passed}, PickedLaws.{places_inside, places_count}},
  multi_index.proofs.pick.InsideLaws.{rows_inside},
}

pub ruleset renumber = (renumbered_beyond, range_rows)

pub ruleset section = (section_missing, no_key_settled, section_beyond, rows_inside)

pub ruleset cells_axis = (rows_alike, single_column)

pub ruleset place_of_name = (place_passed, get_or_from_slice_get)

pub ruleset subset_places = (length-map, places_inside)

pub ruleset columns_or_missing = (one_more_column, single_on)

pub ruleset columns_reindexed = (own_labels_given, err_from_is_err_and, columns_refused, columns_beyond)

pub ruleset rows_reindexed = (rows_made, rows_whole)

pub ruleset reset_levels = (err_from_is_err_and, reset_refused, reset_some, reset_made)

pub ruleset reset_frame = (err_from_is_err_and, parts_repeated, parts_beyond)

pub ruleset under_axis = (places_inside, places_count)
