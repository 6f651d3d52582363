-- Laws that the goals of functions want, by the name of the first that does.
use Rattle.{
  frame_parts.proofs.{Common.{labels_part, length-map, length-range_with_len, nat_eq, rows_met, rows_refused, rows_counted, rows_below}, GapLaws.{found_rows}},
  frame_set.proofs.{CellLaws.{reached_settled, reached_seen}, ColumnLaws.{map-replicate}, GrowLaws.{column_filled, one_added}, SharingLaws.{range_more}},
}

pub ruleset aligned_rows = (labels_part, length-map, nat_eq, rows_met, found_rows, rows_refused, rows_counted, rows_below)

pub ruleset values_by_label = (reached_settled, length-map, reached_seen)

pub ruleset values_for = (map-replicate)

pub ruleset picks_of = (range_more, length-range_with_len)

pub ruleset filled = (column_filled, one_added)
