-- Laws that the goals of functions want, by the name of the first that does.
use Rattle.{
  frame_format.proofs.ToldLaws.{columns_told, headings_seen, column_within, heading_seen, level_within, row_within, cell_seen, label_seen},
  csv_frames.proofs.SettledLaws.{longer_self, longer_with},
  meaning_json.proofs.cells.Common.{length-map, length-map-range_with_len},
  json_frames.proofs.{ValueLaws.{truth_found, number_found, text_found, none_found}, ReadingLaws.{members_counted, no_members_counted, one_kind, refused, file_read}},
}

pub ruleset columns = (columns_told, headings_seen)

pub ruleset put_cell = (row_within, column_within, cell_seen)

pub ruleset put_label = (row_within, level_within, label_seen)

pub ruleset put_heading = (column_within, heading_seen)

pub ruleset cell_of = (longer_self, longer_with, truth_found, number_found, text_found, none_found)

pub ruleset has_three_members = (members_counted, no_members_counted)

pub ruleset keyed_table = (length-map, length-map-range_with_len, one_kind)

pub ruleset json_table = (refused, file_read)
