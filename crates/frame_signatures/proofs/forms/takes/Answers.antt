use Rattle.frame_store.{proofs.{cells.Common.{arith}, RowLaws.{argument_of-Table}}, specs.Objects.{tables}}
use Rattle.frame_signatures.proofs.forms.takes.Goals as goal

pub returns-in-Table : goal.returns-in-Table
returns-in-Table c =
    let live = tables c.args.store.now in
    grind (arith, c.dict_has.ensures live, c.as_slice-in-Table.ensures, c.in-Table.is, argument_of-Table live c.args.dict.now c.in-Table.pairs)
