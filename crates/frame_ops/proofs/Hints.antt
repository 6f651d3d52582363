-- Laws that the goals of functions want, by the name of the first that does.
use Rattle.{
  frame_parts.proofs.Common.{headings_part, labels_part, length-map, nat_tests, single_on},
  frame_ops.proofs.{MeetingLaws.{columns_seen}, HeadingLaws.{other_rows, label_settled, counted_by, fits_by, none_repeated, one_repeated}, JoinLaws.{sides_beyond, meant_of}, WideLaws.{one_unfit, one_more_fits, one_more_first, no_first, firsts_inside, one_more_spread, spread_refused, frame_refused, spread_beyond, spread_made, known_wide, widened_seen}, InfixLaws.{joined_tests, makes_as}, WideTestLaws.{unequal_tests, wide_common}},
}

pub ruleset infix_columns = columns_seen

pub ruleset are_headings = (other_rows, label_settled, labels_part)

pub ruleset joined_columns = (sides_beyond, meant_of)

pub ruleset joined_infix = (counted_by, length-map, fits_by)

pub ruleset labels_fit = (length-map, one_unfit, one_more_fits)

pub ruleset spread_columns = (one_more_spread, single_on)

pub ruleset spread_frame = (spread_refused, frame_refused, spread_beyond, spread_made)

pub ruleset expect_joined = (joined_tests, nat_tests)

pub ruleset firsts_fit = (length-map, one_more_first, no_first, firsts_inside)

pub ruleset expect_unequal = (unequal_tests, none_repeated, one_repeated, nat_tests, headings_part)

pub ruleset wide_infix = (known_wide, makes_as, widened_seen, wide_common)
