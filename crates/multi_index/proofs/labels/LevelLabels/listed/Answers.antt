use Rattle.multi_index.proofs.SeenLaws.{seen_present}
use Rattle.multi_index.proofs.labels.LevelLabels.listed.Goals as goal

pub invariant_of-new : goal.invariant_of-new
invariant_of-new c = rw c.in_ok-different.ensures (seen_present c.deref-in-Seen.result.now)
