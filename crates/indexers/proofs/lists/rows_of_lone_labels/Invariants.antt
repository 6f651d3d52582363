use Rattle.{
  column_core.proofs.cells.Common.{◌≡◌, drop},
  indexers.{specs.Lists.{rows_of_list}, proofs.TurnLaws.{added}},
}
use Rattle.indexers.proofs.lists.rows_of_lone_labels.Given as goal

-- the rows so far, before those of the other labels
abbrev pub invariant-loop-k : goal.invariant-loop-k
invariant-loop-k l = added l.places (rows_of_list l.axis.tuples (drop l.k l.labels)) ≡ rows_of_list l.axis.tuples l.labels
