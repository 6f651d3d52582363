use Rattle.{meaning_tables.proofs.cells.Common.{◌∙◌, sym, ap, subst, [], Some, slice_set}, frame_store.{specs.Stores.{ObjectValue, IsStore, Trades, tables_over}, proofs.ChangedLaws.{LieStillOver, store_replaced, tables_replaced, lie_replaced}}}
use Rattle.frame_store.proofs.store.Store.replace.Goals as goal

pub invariant_of-self : goal.invariant_of-self
invariant_of-self c = record {
  kept = subst (λ (o : ObjectValue). IsStore (slice_set c.remove-object.new.self.slots c.args.on.0 (Some o)) c.release.new.pool) (sym c.replace-ended.ensures.after)
      (store_replaced c.args.self.now.pool c.release.new.pool c.args.self.now.objects.slots c.remove-object.new.self.slots c.args.on.0 c.args.by.0 c.index_mut.result.now c.remove-object.result c.requires.different c.args.self.now.kept c.index_mut.ensures.value c.remove-object.ensures.value c.remove-object.ensures.slots (subst (λ (o : ObjectValue). Trades c.args.self.now.pool c.release.new.pool o.manager.views []) c.replace-ended.ensures.value c.release.ensures.trades));
}

pub returns-clause-ok : goal.returns-clause-ok
returns-clause-ok c =
    ap (λ (o : ObjectValue). tables_over c.release.new.pool (slice_set c.remove-object.new.self.slots c.args.on.0 (Some o))) c.replace-ended.ensures.after
    ∙ tables_replaced c.args.self.now.pool c.release.new.pool c.args.self.now.objects.slots c.remove-object.new.self.slots c.args.on.0 c.args.by.0 c.index_mut.result.now c.remove-object.result c.requires.different c.args.self.now.kept c.index_mut.ensures.value c.remove-object.ensures.value c.remove-object.ensures.slots (subst (λ (o : ObjectValue). Trades c.args.self.now.pool c.release.new.pool o.manager.views []) c.replace-ended.ensures.value c.release.ensures.trades)

pub returns-clause-blocks : goal.returns-clause-blocks
returns-clause-blocks c =
    subst (λ (o : ObjectValue). LieStillOver (Some c.args.on.0) c.args.self.now.pool c.release.new.pool c.args.self.now.objects.slots (slice_set c.remove-object.new.self.slots c.args.on.0 (Some o))) (sym c.replace-ended.ensures.after)
    (lie_replaced c.args.self.now.pool c.release.new.pool c.args.self.now.objects.slots c.remove-object.new.self.slots c.args.on.0 c.args.by.0 c.index_mut.result.now c.remove-object.result c.requires.different c.args.self.now.kept c.index_mut.ensures.value c.remove-object.ensures.value c.remove-object.ensures.slots (subst (λ (o : ObjectValue). Trades c.args.self.now.pool c.release.new.pool o.manager.views []) c.replace-ended.ensures.value c.release.ensures.trades))
