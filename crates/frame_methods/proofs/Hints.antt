-- Laws that the goals of functions want, by the name of the first that does.
use Rattle.{
  frame_parts.proofs.Common.{length-map, nat_tests},
  frame_methods.proofs.{ShapeLaws.{rename_of_series, rename_of_frame, to_frame_of_series, drop_of_frame}, SortLaws.{labels_counted, labels_of_row}},
}

pub ruleset table_answer = (rename_of_series, rename_of_frame, to_frame_of_series, drop_of_frame)

pub ruleset to_csv = (length-map, nat_tests)

pub ruleset sort_index = (labels_counted, labels_of_row)
