use Rattle.{
  column_core.proofs.cells.Common.{◌≡◌},
  indexers.{specs.Lists.{are_within}, proofs.ListLaws.{counted_from}},
}
use Rattle.indexers.proofs.lists.are_within.Given as goal

-- the room that is left is for the rows of the other tuples
abbrev pub invariant-loop-k : goal.invariant-loop-k
invariant-loop-k l = counted_from l.found l.tuples l.room l.k ≡ are_within l.fn.most l.found l.tuples
