use Rattle.{
  meaning_tables.proofs.cells.Common.{None},
  frame_store.proofs.ChangedLaws.{relabelled, lie_relabelled},
}
use Rattle.frame_store.proofs.store.Store.replace_axis.Goals as goal

pub invariant_of-self : goal.invariant_of-self
invariant_of-self c = record {
  kept = relabelled c.args.self.now.pool c.args.self.now.objects.slots c.args.on.0 c.index_mut.result.now c.replace_axis.new.self c.args.axis c.args.self.now.kept c.index_mut.ensures.value c.replace_axis.ensures c.requires.rows;
}

pub returns-clause-blocks : goal.returns-clause-blocks
returns-clause-blocks c = lie_relabelled c.args.self.now.pool c.args.self.now.objects.slots c.args.on.0 c.index_mut.result.now c.replace_axis.new.self c.args.axis None c.index_mut.ensures.value c.replace_axis.ensures
