use Rattle.index_core.proofs.SameLaws.{one_more_label}
use Rattle.index_core.proofs.index.Index.take.Goals as goal

pub loop-place-preserved : goal.loop-place-preserved
loop-place-preserved c = one_more_label _ _ _ _ _ _ c.loop-place.invariant c.loop-place-test.true c.label.ensures c.in_ok-push.ensures.items
