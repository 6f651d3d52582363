use Rattle.{
  meaning_tables.proofs.cells.Common.{arith, sym, subst},
  frame_store.{specs.Arguments.{IsLiveArgument, AreLivePairs}, proofs.RowLaws.{argument_of-Table, IsLiveArgument-Table}},
}
use Rattle.frame_store.proofs.arguments.Argument.dict.Goals as goal

pub returns-in-Table-clause-pairs : goal.returns-in-Table-clause-pairs
returns-in-Table-clause-pairs = grind (arith, argument_of-Table)

pub returns-in-Table-clause-live : goal.returns-in-Table-clause-live
returns-in-Table-clause-live c = λ tables live.
    subst (AreLivePairs tables) (sym c.as_slice.ensures) (IsLiveArgument-Table tables c.in-Table.entries (subst (IsLiveArgument tables) c.in-Table.is live))
