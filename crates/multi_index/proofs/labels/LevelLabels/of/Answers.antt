use Rattle.multi_index.proofs.KnownLaws.{all_present}
use Rattle.multi_index.proofs.labels.LevelLabels.of.Goals as goal

pub invariant_of-result : goal.invariant_of-result
invariant_of-result c = rw (c.in_ok-put_in_order.ensures, c.in_ok-labels.ensures) (all_present c.args.dict.now c.args.rows.now)
