use Rattle.{meaning_tables.{proofs.cells.Common.{◌∙◌, sym, ap, subst}, specs.{Table.{column_at}, Change.{with_column}}}, block_pool.specs.Pools.{PoolValue}, frame_store.{specs.Stores.{IsStore, tables_over}, proofs.ChangedLaws.{kept_on, both_are_live, store_taken, tables_taken, store_back, tables_back, lie_taken, lie_back}}}
use Rattle.frame_store.proofs.store.Store.move_column.Goals as goal

pub take_column-requires-clause-kept : goal.take_column-requires-clause-kept
take_column-requires-clause-kept c = kept_on c.args.self.now.pool c.args.self.now.pool c.args.self.now.objects.slots c.remove-source.new.self.slots c.args.on.0 c.args.series.0 c.index_mut-object.result.now c.remove-source.result c.requires.different c.args.self.now.kept c.index_mut-object.ensures.value c.remove-source.ensures.value c.remove-source.ensures.slots

pub take_column-requires-clause-apart : goal.take_column-requires-clause-apart
take_column-requires-clause-apart c = both_are_live c.args.self.now.pool c.args.self.now.pool c.args.self.now.objects.slots c.remove-source.new.self.slots c.args.on.0 c.args.series.0 c.index_mut-object.result.now c.remove-source.result c.requires.different c.args.self.now.kept c.index_mut-object.ensures.value c.remove-source.ensures.value c.remove-source.ensures.slots

pub invariant_of-self : goal.invariant_of-self
invariant_of-self c = record { kept = store_taken c.args.self.now.pool c.take_column.new.pool c.args.self.now.objects.slots c.remove-source.new.self.slots c.args.on.0 c.args.series.0 c.index_mut-object.result.now c.remove-source.result c.requires.different c.args.self.now.kept c.index_mut-object.ensures.value c.remove-source.ensures.value c.remove-source.ensures.slots c.take_column.new.self c.in-Ok.ensures.trades c.in-Ok.ensures.kept }

pub returns-in-Ok-clause-ok : goal.returns-in-Ok-clause-ok
returns-in-Ok-clause-ok c =
    tables_taken c.args.self.now.pool c.take_column.new.pool c.args.self.now.objects.slots c.remove-source.new.self.slots c.args.on.0 c.args.series.0 c.index_mut-object.result.now c.remove-source.result c.requires.different c.args.self.now.kept c.index_mut-object.ensures.value c.remove-source.ensures.value c.remove-source.ensures.slots c.take_column.new.self c.in-Ok.ensures.trades c.in-Ok.ensures.kept
    (λ t s. with_column t c.args.column c.args.heading (column_at s.columns 0)) c.in-Ok.ensures.table

pub invariant_of-self-in-Err : goal.invariant_of-self-in-Err
invariant_of-self-in-Err c = record {
  kept = subst (IsStore c.insert_reserved.new.self.slots) (sym c.in-Err.ensures.err.1)
      (store_back c.args.self.now.pool c.take_column.new.pool c.args.self.now.objects.slots c.remove-source.new.self.slots c.args.on.0 c.args.series.0 c.index_mut-object.result.now c.remove-source.result c.requires.different c.args.self.now.kept c.index_mut-object.ensures.value c.remove-source.ensures.value c.remove-source.ensures.slots c.take_column.new.self c.in-Err.source c.insert_reserved.new.self.slots c.insert_reserved.result c.in-Err.ensures.err.0 (c.insert_reserved.ensures.key ∙ c.remove-source.ensures.key_is_next) c.in-Err.ensures.back c.insert_reserved.ensures.updates.changed c.insert_reserved.ensures.updates.others);
}

pub returns-in-Err-clause-err : goal.returns-in-Err-clause-err
returns-in-Err-clause-err c =
    ap (λ (p : PoolValue). tables_over p c.insert_reserved.new.self.slots) c.in-Err.ensures.err.1
    ∙ tables_back c.args.self.now.pool c.take_column.new.pool c.args.self.now.objects.slots c.remove-source.new.self.slots c.args.on.0 c.args.series.0 c.index_mut-object.result.now c.remove-source.result c.requires.different c.args.self.now.kept c.index_mut-object.ensures.value c.remove-source.ensures.value c.remove-source.ensures.slots c.take_column.new.self c.in-Err.source c.insert_reserved.new.self.slots c.insert_reserved.result c.in-Err.ensures.err.0 (c.insert_reserved.ensures.key ∙ c.remove-source.ensures.key_is_next) c.in-Err.ensures.back c.insert_reserved.ensures.updates.changed c.insert_reserved.ensures.updates.others

pub returns-in-Ok-clause-blocks : goal.returns-in-Ok-clause-blocks
returns-in-Ok-clause-blocks c = lie_taken c.args.self.now.pool c.take_column.new.pool c.args.self.now.objects.slots c.remove-source.new.self.slots c.args.on.0 c.args.series.0 c.index_mut-object.result.now c.remove-source.result c.requires.different c.args.self.now.kept c.index_mut-object.ensures.value c.remove-source.ensures.value c.remove-source.ensures.slots c.take_column.new.self c.in-Ok.ensures.trades c.in-Ok.ensures.kept

pub returns-in-Err-clause-blocks : goal.returns-in-Err-clause-blocks
returns-in-Err-clause-blocks c = lie_back c.args.self.now.pool c.take_column.new.pool c.args.self.now.objects.slots c.remove-source.new.self.slots c.args.on.0 c.args.series.0 c.index_mut-object.result.now c.remove-source.result c.requires.different c.args.self.now.kept c.index_mut-object.ensures.value c.remove-source.ensures.value c.remove-source.ensures.slots c.take_column.new.self c.in-Err.source c.insert_reserved.new.self.slots c.insert_reserved.result c.in-Err.ensures.err.0 (c.insert_reserved.ensures.key ∙ c.remove-source.ensures.key_is_next) c.in-Err.ensures.back c.insert_reserved.ensures.updates.changed c.insert_reserved.ensures.updates.others c.in-Err.ensures.err.1
