use Rattle.frame_store.proofs.{cells.Common.{arith}, RowLaws.{argument_of-Table}}
use Rattle.frame_signatures.proofs.forms.lists.Goals as goal

pub returns-in-Table : goal.returns-in-Table
returns-in-Table c = λ live. grind (arith, c.lists_dict.ensures live, c.as_slice.ensures, c.in-Table.is, argument_of-Table live c.args.dict.now c.in-Table.pairs)
