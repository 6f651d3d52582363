use Rattle.{
  column_core.proofs.cells.Common.{◌≡◌, drop},
  index_core.specs.{pick.{Labels.{rows_of_keys}, Leading.{leads}}, Labels.{same_number}},
  indexers.proofs.TurnLaws.{added},
}
use Rattle.indexers.proofs.lists.rows_of_labels.Given as goal

-- the rows so far, before those of the other labels
abbrev pub invariant-loop-k : goal.invariant-loop-k
invariant-loop-k l = added l.places (rows_of_keys (leads same_number) l.axis.tuples (drop l.k l.labels)) ≡ rows_of_keys (leads same_number) l.axis.tuples l.labels
