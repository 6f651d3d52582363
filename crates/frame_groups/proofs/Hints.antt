-- Laws that the goals of functions want, by the name of the first that does.
use Rattle.{
  frame_parts.proofs.Common.{length-map, err_from_is_err_and},
  frame_groups.proofs.{KeyLaws.{if_ok, codes_counted}, GroupLaws.{keys_axis, numbers_axis, key_headings_settled, group_labelled, one_settled}, RowLaws.{own_settled, rows_by_row}, ShownLaws.{within_shows, beyond_shows, headings_fit, none_shared, one_shared}},
  frame_labels.proofs.IndexingLaws.{labelled},
}

pub ruleset group_axis = (if_ok, keys_axis, numbers_axis, length-map)

pub ruleset headings_beside = (err_from_is_err_and, key_headings_settled, none_shared, one_shared)

pub ruleset reduced = (own_settled, group_labelled, labelled, codes_counted)

pub ruleset sizes = (group_labelled, one_settled)

pub ruleset along_rows = (labelled, codes_counted, rows_by_row)

pub ruleset new_headings = (within_shows, beyond_shows, headings_fit)
