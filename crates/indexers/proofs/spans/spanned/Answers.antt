use Rattle.indexers.proofs.SpanLaws.{place_pushed}
use Rattle.indexers.proofs.spans.spanned.Goals as goal

pub loop-row-preserved : goal.loop-row-preserved
loop-row-preserved c = place_pushed _ _ _ _ _ c.loop-row.invariant c.place_of.ensures c.in_ok-push.ensures.ok
