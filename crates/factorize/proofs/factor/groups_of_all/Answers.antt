use Rattle.column_core.{proofs.cells.Common.{Some, arith, length, All-map}, specs.Moves.{IsPlaceOf}}
use Rattle.factorize.proofs.factor.groups_of_all.Goals as goal

pub of-requires : goal.of-requires
of-requires c =
    grind (arith, All-map (IsPlaceOf (length c.args.numbers.firsts.items)) Some c.args.numbers.codes.items c.requires)
