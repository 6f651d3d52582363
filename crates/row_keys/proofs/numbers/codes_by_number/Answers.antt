use Rattle.{
  multi_index.proofs.cells.Common.{nat_eq, rules},
  row_keys.proofs.{StandLaws.{codes_stand}, LeaderLaws.{leaders_stand}},
}
use Rattle.row_keys.proofs.numbers.codes_by_number.Goals as goal

pub returns : goal.returns
returns c =
    let stand = leaders_stand c.args.numbers.now c.in-Some.leaders.items (search rules) in
    let are = codes_stand nat_eq 0 _ _ _ _ _ stand c.as_slice.ensures.value c.in_ok-made.ensures.codes c.in_ok-made.ensures.firsts in
    search
