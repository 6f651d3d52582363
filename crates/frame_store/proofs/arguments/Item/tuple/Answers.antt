use Rattle.{
  meaning_tables.proofs.cells.Common.{arith, sym, subst},
  frame_store.{specs.Arguments.{IsLiveItem, AreLiveItems}, proofs.RowLaws.{item_of-Row, IsLiveItem-Row}},
}
use Rattle.frame_store.proofs.arguments.Item.tuple.Goals as goal

pub returns-in-Row-clause-parts : goal.returns-in-Row-clause-parts
returns-in-Row-clause-parts = grind (arith, item_of-Row)

pub returns-in-Row-clause-live : goal.returns-in-Row-clause-live
returns-in-Row-clause-live c = λ tables live.
    subst (AreLiveItems tables) (sym c.as_slice.ensures) (IsLiveItem-Row tables c.in-Row.items (subst (IsLiveItem tables) c.in-Row.is live))
