use Rattle.frame_labels.proofs.KeyLaws.{one_more_ref}
use Rattle.frame_labels.proofs.key_columns.columns_at.Goals as goal

pub loop-k-preserved : goal.loop-k-preserved
loop-k-preserved c = one_more_ref _ _ _ _ _ _ _ c.at.ensures c.column.ensures.column c.column.ensures.rows c.in_ok-push.ensures.items c.loop-k.invariant
