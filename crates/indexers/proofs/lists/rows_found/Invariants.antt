use Rattle.{
  column_core.proofs.cells.Common.{◌≡◌},
  indexers.{specs.Lists.{rows_found}, proofs.ListLaws.{found_from}},
}
use Rattle.indexers.proofs.lists.rows_found.Given as goal

-- the rows so far, before those of the other tuples
abbrev pub invariant-loop-k : goal.invariant-loop-k
invariant-loop-k l = found_from l.found l.tuples l.places l.k ≡ rows_found l.found l.tuples
