use Rattle.{
  frame_parts.proofs.Common.{nat_tests, length-map, ◌≡◌, ap, arith, length, cells_value, object_settled},
  frame_set.proofs.PutCases.{filled_given, listed_given, same_settled},
}
use Rattle.frame_set.proofs.filling.values_for.Goals as goal

pub series_values-requires-clause-given : goal.series_values-requires-clause-given
series_values-requires-clause-given c = λ more. ap (λ t. t.rows) (c.requires.given more)

pub series_values-requires-clause-series : goal.series_values-requires-clause-series
series_values-requires-clause-series c = search object_settled

pub returns-in_ok-expect_listed-in-Listed-clause-count : goal.returns-in_ok-expect_listed-in-Listed-clause-count
returns-in_ok-expect_listed-in-Listed-clause-count c =
    let texts = c.args.dict.now in
    let many : length (cells_value texts c.in-Listed.cells) ≡ length c.in-Listed.cells = search length-map in
    grind (arith, nat_tests)

pub returns-in_ok-repeated-in-Same-clause-given : goal.returns-in_ok-repeated-in-Same-clause-given
returns-in_ok-repeated-in-Same-clause-given c =
    filled_given _ _ _ _ (search same_settled)
    c.in_ok-repeated-in-Same.ensures

pub returns-in_ok-expect_listed-in-Listed-clause-given : goal.returns-in_ok-expect_listed-in-Listed-clause-given
returns-in_ok-expect_listed-in-Listed-clause-given c = search listed_given
