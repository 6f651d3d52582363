use Rattle.frame_store.proofs.ChangedLaws.{store_ended, tables_ended, lie_ended, kept_there}
use Rattle.frame_store.proofs.store.Store.drop_object.Goals as goal

pub release-requires : goal.release-requires
release-requires c = kept_there c.args.self.now.pool c.args.self.now.objects.slots c.args.self.now.kept c.args.on.0 c.remove-object.result c.remove-object.ensures.value

pub invariant_of-self : goal.invariant_of-self
invariant_of-self c = record {
  kept = store_ended c.args.self.now.pool c.release.new.pool c.args.self.now.objects.slots c.remove-object.new.self.slots c.args.on.0 c.remove-object.result c.args.self.now.kept c.remove-object.ensures.value c.remove-object.ensures.slots c.release.ensures.trades;
}

pub returns-clause-ok : goal.returns-clause-ok
returns-clause-ok c =
    tables_ended c.args.self.now.pool c.release.new.pool c.args.self.now.objects.slots c.remove-object.new.self.slots c.args.on.0 c.remove-object.result c.args.self.now.kept c.remove-object.ensures.value c.remove-object.ensures.slots c.release.ensures.trades

pub returns-clause-blocks : goal.returns-clause-blocks
returns-clause-blocks c =
    lie_ended c.args.self.now.pool c.release.new.pool c.args.self.now.objects.slots c.remove-object.new.self.slots c.args.on.0 c.remove-object.result c.args.self.now.kept c.remove-object.ensures.value c.remove-object.ensures.slots c.release.ensures.trades
