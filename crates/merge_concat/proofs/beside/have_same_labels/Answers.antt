use Rattle.{
  column_core.proofs.cells.Common.{arith, ◌-◌, length, take, drop, sym, true, take_all, list_all_at, list_all_more},
  merge_concat.proofs.BelowLaws.{has_labels_of, labels_told, equal_told},
}
use Rattle.merge_concat.proofs.beside.have_same_labels.Goals as goal

pub loop-other-preserved : goal.loop-other-preserved
loop-other-preserved c = grind (arith, list_all_more (has_labels_of c.first-item.result) (take (length _ - 1) (drop 1 c.args.axes.now)) c.loop-other.other-index c.other-item.result c.loop-other-test.true, labels_told c.first-item.result.now.tuples c.other-item.result.now.tuples c.same_labels.result c.same_labels.ensures)

pub returns-then-not-same_labels : goal.returns-then-not-same_labels
returns-then-not-same_labels c = sym (equal_told _ _ _ c.in-len1-up.len_at_least c.first-item.is (list_all_at _ (take (length _ - 1) (drop 1 c.args.axes.now)) _ c.other-item.result c.loop-other-test.true (grind (arith, labels_told c.first-item.result.now.tuples c.other-item.result.now.tuples c.same_labels.result c.same_labels.ensures))))

pub returns : goal.returns
returns = grind (arith, equal_told, has_labels_of, take_all)
