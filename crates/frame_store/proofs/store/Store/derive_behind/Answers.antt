use Rattle.{meaning_tables.{proofs.cells.Common.{None, ◌∙◌, sym, ap, subst, List, ◌++◌, Option, Some}, specs.{Table.{NumberedTable}, Valid.{IsWhole}}}, slab.specs.Slab.{Slab}, block_pool.specs.Placed.{slot}, frame_store.{specs.{Parts.{columns_of, table_with}, Stores.{ObjectValue, IsStore}}, proofs.{StoreLaws.{store_stays}, ChangedLaws.{kept_there, table_is, store_added, tables_added, lie_stay, lie_added}}}}
use Rattle.frame_store.proofs.store.Store.derive_behind.Goals as goal

pub behind-requires-clause-kept : goal.behind-requires-clause-kept
behind-requires-clause-kept c = kept_there c.args.self.now.pool c.args.self.now.objects.slots c.args.self.now.kept c.args.on.0 c.index.result.now (sym (ap (λ (s : Slab ObjectValue). slot s.slots c.args.on.0) c.reserve.ensures.rest_kept) ∙ c.index.ensures)

pub invariant_of-self-in-Break-branch-2 : goal.invariant_of-self-in-Break-branch-2
invariant_of-self-in-Break-branch-2 c = record { kept = subst (λ (l : List (Option ObjectValue)). IsStore l c.behind.new.pool) (sym (ap (λ (s : Slab ObjectValue). s.slots) c.reserve.ensures.rest_kept)) (store_stays c.args.self.now.pool c.behind.new.pool c.args.self.now.objects.slots c.args.self.now.kept c.in_err-manager.ensures.trades) }

pub invariant_of-self-2 : goal.invariant_of-self-2
invariant_of-self-2 c = record {
  kept = store_added c.args.self.now.pool c.behind.new.pool c.args.self.now.objects.slots c.reserve.new.self.slots c.insert_reserved-key.new.self.slots c.insert_reserved-key.result (record { shape = c.args.shape; axis = c.args.axis; headings = c.args.headings; manager = c.in_ok-manager.manager }) c.args.self.now.kept (ap (λ (s : Slab ObjectValue). s.slots) c.reserve.ensures.rest_kept) c.insert_reserved-key.ensures.was_vacant (c.insert_reserved-key.ensures.updates.changed ∙ ap Some c.new-object.ensures) c.insert_reserved-key.ensures.updates.others c.in_ok-manager.ensures.trades
      (record { stands = c.in_ok-manager.ensures.stands; whole = subst IsWhole (sym (ap (table_with c.args.shape c.args.axis c.args.headings) (c.in_ok-manager.ensures.columns ∙ ap (λ (t : NumberedTable). columns_of c.args.first ++ t.columns) (sym (table_is c.args.self.now.pool c.args.self.now.objects.slots c.args.self.now.kept c.args.on.0 c.index.result.now (sym (ap (λ (s : Slab ObjectValue). slot s.slots c.args.on.0) c.reserve.ensures.rest_kept) ∙ c.index.ensures)))))) c.requires.whole });
}

pub returns-clause-ok : goal.returns-clause-ok
returns-clause-ok c =
    tables_added c.args.self.now.pool c.behind.new.pool c.args.self.now.objects.slots c.reserve.new.self.slots c.insert_reserved-key.new.self.slots c.insert_reserved-key.result (record { shape = c.args.shape; axis = c.args.axis; headings = c.args.headings; manager = c.in_ok-manager.manager }) c.args.self.now.kept (ap (λ (s : Slab ObjectValue). s.slots) c.reserve.ensures.rest_kept) c.insert_reserved-key.ensures.was_vacant (c.insert_reserved-key.ensures.updates.changed ∙ ap Some c.new-object.ensures) c.insert_reserved-key.ensures.updates.others c.in_ok-manager.ensures.trades
    _
    (ap (table_with c.args.shape c.args.axis c.args.headings) (c.in_ok-manager.ensures.columns ∙ ap (λ (t : NumberedTable). columns_of c.args.first ++ t.columns) (sym (table_is c.args.self.now.pool c.args.self.now.objects.slots c.args.self.now.kept c.args.on.0 c.index.result.now (sym (ap (λ (s : Slab ObjectValue). slot s.slots c.args.on.0) c.reserve.ensures.rest_kept) ∙ c.index.ensures)))))

pub returns-in_err-manager-clause-blocks : goal.returns-in_err-manager-clause-blocks
returns-in_err-manager-clause-blocks c = lie_stay c.args.self.now.pool c.behind.new.pool c.args.self.now.objects.slots c.reserve.new.self.slots None c.args.self.now.kept (ap (λ (s : Slab ObjectValue). s.slots) c.reserve.ensures.rest_kept) c.in_err-manager.ensures.trades

pub returns-clause-blocks : goal.returns-clause-blocks
returns-clause-blocks c = lie_added c.args.self.now.pool c.behind.new.pool c.args.self.now.objects.slots c.reserve.new.self.slots c.insert_reserved-key.new.self.slots c.insert_reserved-key.result (record { shape = c.args.shape; axis = c.args.axis; headings = c.args.headings; manager = c.in_ok-manager.manager }) c.args.self.now.kept (ap (λ (s : Slab ObjectValue). s.slots) c.reserve.ensures.rest_kept) c.insert_reserved-key.ensures.was_vacant (c.insert_reserved-key.ensures.updates.changed ∙ ap Some c.new-object.ensures) c.insert_reserved-key.ensures.updates.others c.in_ok-manager.ensures.trades
