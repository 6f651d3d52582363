use Rattle.frame_labels.proofs.KeyLaws.{AreFirst}
use Rattle.frame_labels.proofs.key_columns.columns_at.Given as goal

-- the columns so far
abbrev pub invariant-loop-k : goal.invariant-loop-k
invariant-loop-k l = AreFirst l.on l.places l.k l.columns.items
