-- Laws that the goals of functions want, by the name of the first that does.
use Rattle.{
  meaning_align.proofs.cells.Common.{get_or-range_with_len, length-range_with_len},
  label_align.proofs.{OuterJoinLaws.{order_inside as rows_inside, counted_outer, total_outer, keys_inside, outer_shown, too_many}, TargetLaws.{as_they_are, found_in_sequence}},
  std.proofs.lemmas.Grind.{same_number_lists},
  index_core.proofs.SameLaws.{holds},
  row_keys.proofs.PartnerLaws.{left_is, right_is},
}

pub ruleset joined_rows = (rows_inside, too_many, counted_outer, total_outer, keys_inside, outer_shown)

pub ruleset are_in_sequence = (get_or-range_with_len, holds, same_number_lists, length-range_with_len)

pub ruleset reindex = (as_they_are, found_in_sequence, left_is, right_is)
