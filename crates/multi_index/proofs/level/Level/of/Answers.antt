use Rattle.multi_index.proofs.KnownLaws.{all_known}
use Rattle.multi_index.proofs.level.Level.of.Goals as goal

pub coded-requires : goal.coded-requires
coded-requires c = rw (c.in_ok-shared.ensures.ok, c.in_ok-labels.ensures) (all_known c.args.dict.now c.args.rows.now)
