use Rattle.frame_store.proofs.ChangedLaws.{kept_there}
use Rattle.frame_store.proofs.store.Store.column.Goals as goal

pub column-requires-clause-kept : goal.column-requires-clause-kept
column-requires-clause-kept c = kept_there c.args.self.now.pool c.args.self.now.objects.slots c.args.self.now.kept c.args.on.0 c.index.result.now c.index.ensures
