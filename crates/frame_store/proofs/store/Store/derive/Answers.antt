use Rattle.{meaning_tables.{proofs.cells.Common.{None, ◌∙◌, sym, ap, subst, List, Option, Some, Na}, specs.{Table.{NumberedTable}, Change.{cut_columns}}}, slab.specs.Slab.{Slab}, block_pool.specs.Placed.{slot}, block_manager.specs.Managed.{columns_on}, frame_store.{specs.{Parts.{table_with}, Stores.{ObjectValue, IsStore}}, proofs.{StoreLaws.{store_stays}, ColumnLaws.{cut_is_whole}, ChangedLaws.{kept_there, table_is, store_added, tables_added, lie_stay, lie_added}}}}
use Rattle.frame_store.proofs.store.Store.derive.Goals as goal

pub cut-requires-clause-kept : goal.cut-requires-clause-kept
cut-requires-clause-kept c = kept_there c.args.self.now.pool c.args.self.now.objects.slots c.args.self.now.kept c.args.on.0 c.index.result.now (sym (ap (λ (s : Slab ObjectValue). slot s.slots c.args.on.0) c.reserve.ensures.rest_kept) ∙ c.index.ensures)

pub invariant_of-self-in-Break-branch-2 : goal.invariant_of-self-in-Break-branch-2
invariant_of-self-in-Break-branch-2 c = record { kept = subst (λ (l : List (Option ObjectValue)). IsStore l c.cut.new.pool) (sym (ap (λ (s : Slab ObjectValue). s.slots) c.reserve.ensures.rest_kept)) (store_stays c.args.self.now.pool c.cut.new.pool c.args.self.now.objects.slots c.args.self.now.kept c.in_err-manager.ensures.trades) }

pub invariant_of-self-2 : goal.invariant_of-self-2
invariant_of-self-2 c = record {
  kept = store_added c.args.self.now.pool c.cut.new.pool c.args.self.now.objects.slots c.reserve.new.self.slots c.insert_reserved-key.new.self.slots c.insert_reserved-key.result (record { shape = c.args.shape; axis = c.args.axis; headings = c.args.headings; manager = c.in_ok-manager.manager }) c.args.self.now.kept (ap (λ (s : Slab ObjectValue). s.slots) c.reserve.ensures.rest_kept) c.insert_reserved-key.ensures.was_vacant (c.insert_reserved-key.ensures.updates.changed ∙ ap Some c.new-object.ensures) c.insert_reserved-key.ensures.updates.others c.in_ok-manager.ensures.trades
      (record { stands = c.in_ok-manager.ensures.stands; whole = cut_is_whole c.args.shape c.args.axis c.args.headings (columns_on c.args.self.now.pool c.index.result.now.manager) (columns_on c.cut.new.pool c.in_ok-manager.manager) c.args.rows c.args.columns.now c.in_ok-manager.ensures.columns c.requires.labels c.requires.headed c.requires.headings });
}

pub returns-clause-ok : goal.returns-clause-ok
returns-clause-ok c =
    tables_added c.args.self.now.pool c.cut.new.pool c.args.self.now.objects.slots c.reserve.new.self.slots c.insert_reserved-key.new.self.slots c.insert_reserved-key.result (record { shape = c.args.shape; axis = c.args.axis; headings = c.args.headings; manager = c.in_ok-manager.manager }) c.args.self.now.kept (ap (λ (s : Slab ObjectValue). s.slots) c.reserve.ensures.rest_kept) c.insert_reserved-key.ensures.was_vacant (c.insert_reserved-key.ensures.updates.changed ∙ ap Some c.new-object.ensures) c.insert_reserved-key.ensures.updates.others c.in_ok-manager.ensures.trades
    _
    (ap (table_with c.args.shape c.args.axis c.args.headings) (c.in_ok-manager.ensures.columns ∙ ap (λ (t : NumberedTable). cut_columns Na t.columns c.args.rows c.args.columns.now) (sym (table_is c.args.self.now.pool c.args.self.now.objects.slots c.args.self.now.kept c.args.on.0 c.index.result.now (sym (ap (λ (s : Slab ObjectValue). slot s.slots c.args.on.0) c.reserve.ensures.rest_kept) ∙ c.index.ensures)))))

pub returns-in_err-manager-clause-blocks : goal.returns-in_err-manager-clause-blocks
returns-in_err-manager-clause-blocks c = lie_stay c.args.self.now.pool c.cut.new.pool c.args.self.now.objects.slots c.reserve.new.self.slots None c.args.self.now.kept (ap (λ (s : Slab ObjectValue). s.slots) c.reserve.ensures.rest_kept) c.in_err-manager.ensures.trades

pub returns-clause-blocks : goal.returns-clause-blocks
returns-clause-blocks c = lie_added c.args.self.now.pool c.cut.new.pool c.args.self.now.objects.slots c.reserve.new.self.slots c.insert_reserved-key.new.self.slots c.insert_reserved-key.result (record { shape = c.args.shape; axis = c.args.axis; headings = c.args.headings; manager = c.in_ok-manager.manager }) c.args.self.now.kept (ap (λ (s : Slab ObjectValue). s.slots) c.reserve.ensures.rest_kept) c.insert_reserved-key.ensures.was_vacant (c.insert_reserved-key.ensures.updates.changed ∙ ap Some c.new-object.ensures) c.insert_reserved-key.ensures.updates.others c.in_ok-manager.ensures.trades
