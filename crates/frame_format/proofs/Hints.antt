-- Laws that the goals of functions want, by the name of the first that does.
use Rattle.{
  meaning_format.proofs.cells.Common.{append_assoc, tied_itself, label_total},
  std.proofs.{Common.{append-nil}, lemmas.Grind.{flat_map-append}},
  frame_format.proofs.{FieldLaws.{places_more, length_measured, at_last, sides_measured}, ToldLaws.{columns_told, headings_seen, column_within, heading_seen, level_within, level_name_seen, kind_seen, levels_told, tuple_seen, row_within, same_seen, cell_seen, label_seen}, EscapeLaws.{shown_text-encode}},
}

pub ruleset push_all_headings = (append_assoc, append-nil, places_more, flat_map-append)

pub ruleset push_series_names = (length_measured, at_last, sides_measured)

pub ruleset columns = (columns_told, headings_seen)

pub ruleset has_heading = (column_within, heading_seen)

pub ruleset has_level_name = (level_within, level_name_seen)

pub ruleset kind = (column_within, kind_seen)

pub ruleset levels = (levels_told, tuple_seen)

pub ruleset same_above = (row_within, level_within, same_seen)

pub ruleset write_cell = (row_within, column_within, cell_seen)

pub ruleset write_label = (row_within, level_within, label_seen)

pub ruleset put_character = (shown_text-encode)

pub ruleset same_label = (tied_itself, label_total)
