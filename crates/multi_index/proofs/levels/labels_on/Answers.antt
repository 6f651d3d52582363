use Rattle.{
  index_core.proofs.cells.Common.{arith, ◌≡◌, [], Some, slice_get, slice_index_or, get_or_default},
  multi_index.proofs.LevelTuples.{labels_more},
}
use Rattle.multi_index.proofs.levels.labels_on.Goals as goal

pub loop-tuple-preserved : goal.loop-tuple-preserved
loop-tuple-preserved c =
    let tuples = c.as_slice-tuple-items.result.now in
    let at : slice_get (slice_index_or tuples c.loop-tuple.tuple-index []) c.args.level ≡ Some c.at.result = grind (arith, get_or_default) in
    labels_more c.args.level tuples c.loop-tuple.tuple-index c.loop-tuple.labels.items _ c.at.result (omega arith) at c.loop-tuple.invariant c.in_ok-push.ensures.items
