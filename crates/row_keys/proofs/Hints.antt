-- Laws that the goals of functions want, by the name of the first that does.
use Rattle.{
  multi_index.proofs.cells.Common.{length-take-le, with_items_is, length-map-range_with_len, get_or-map-range_with_len, slice_range, slice_index},
  row_keys.proofs.{RoomLaws.{length-starts, length-sizes, is_room, is_parted}, PartnerLaws.{partners_are, firsts_counted, left_is, right_is}},
}

pub ruleset len = (length-map-range_with_len, slice_range, slice_index)

pub ruleset rows = (length-map-range_with_len, slice_range, slice_index, get_or-map-range_with_len)

pub ruleset rows_by_code = (length-starts, length-take-le, length-sizes, is_room, with_items_is, is_parted)

pub ruleset find_partners = (partners_are, firsts_counted, left_is, right_is)
