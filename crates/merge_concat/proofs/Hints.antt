-- Laws that the goals of functions want, by the name of the first that does.
use Rattle.{
  column_core.proofs.{cells.Common.{length-map, take_all, get_or-map-range_with_len, map-map, nat_eq}, CellRows.{range-same}},
  merge_concat.proofs.{UnitedLaws.{one_level, level_more, no_level, lists_of_axes, keys_counted, keyed, tuples_there, different_at, codes_counted, repeated_told, told_at, none_more}, JoinLaws.{few_left, few_right, refused_left, refused_right, too_many, length-outer, few_enough, length-from, bucket_there}},
  row_keys.proofs.RecodeLaws.{firsts_inside},
  factorize.proofs.label_align.SameLaws.{tuple_decides, tuple_laws},
}

pub ruleset all_levels = (one_level, level_more, no_level)

pub ruleset axis_below = (lists_of_axes, keys_counted, length-map, keyed)

pub ruleset different = (firsts_inside, tuple_decides, tuple_laws, different_at)

pub ruleset repeated_on = (codes_counted, repeated_told)

pub ruleset first_repeat = (length-map, told_at, tuples_there, none_more)

pub ruleset with_lane = (range-same)

pub ruleset join_rows = (few_left, few_right, refused_left, refused_right)

pub ruleset joined_by_key = (too_many, length-outer, few_enough)

pub ruleset joined_by_row = (nat_eq, too_many, length-from)

pub ruleset push_left = (take_all, map-map)

pub ruleset rows_of = (bucket_there, get_or-map-range_with_len)
