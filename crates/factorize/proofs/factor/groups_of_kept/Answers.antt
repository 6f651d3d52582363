use Rattle.{
  column_core.proofs.cells.Common.{◌≡◌, arith, length},
  factorize.{specs.Numbers.{places_of, recoded}, proofs.PlaceLaws.{recoded_inside}},
}
use Rattle.factorize.proofs.factor.groups_of_kept.Goals as goal

pub of-requires : goal.of-requires
of-requires c =
    let made : c.in_ok-codes.codes ≡ recoded (places_of c.args.kept.now (length c.args.numbers.now.firsts.items)) c.args.numbers.now.codes.items = grind arith in
    rw made (recoded_inside _ _ _ c.requires.codes)
