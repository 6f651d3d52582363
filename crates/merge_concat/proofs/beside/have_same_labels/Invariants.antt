use Rattle.{
  column_core.proofs.cells.Common.{◌≡◌, take, true, list_all},
  merge_concat.proofs.BelowLaws.{has_labels_of},
}
use Rattle.merge_concat.proofs.beside.have_same_labels.Given as goal

-- the axes so far have the labels of the first
abbrev pub invariant-loop-other : goal.invariant-loop-other
invariant-loop-other l = list_all (has_labels_of l.first) (take l.other-index l.others) ≡ true
