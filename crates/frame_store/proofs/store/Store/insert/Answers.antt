use Rattle.{meaning_tables.{proofs.cells.Common.{None, sym, ap, subst, List, Option}}, slab.specs.Slab.{Slab}, block_manager.specs.Managed.{AreJoined}, frame_store.{specs.{Objects.{manager_or}, Stores.{ObjectValue, IsStore}}, proofs.{StoreLaws.{store_stays}, ChangedLaws.{store_added, tables_added, lie_stay, lie_added}}}}
use Rattle.frame_store.proofs.store.Store.insert.Goals as goal

pub invariant_of-self-in-Break-branch-2 : goal.invariant_of-self-in-Break-branch-2
invariant_of-self-in-Break-branch-2 c = record { kept = subst (λ (l : List (Option ObjectValue)). IsStore l c.into_object.new.pool) (sym (ap (λ (s : Slab ObjectValue). s.slots) c.reserve.ensures.rest_kept)) (store_stays c.args.self.now.pool c.into_object.new.pool c.args.self.now.objects.slots c.args.self.now.kept c.in_err-object.ensures.trades) }

pub invariant_of-self-2 : goal.invariant_of-self-2
invariant_of-self-2 c = record { kept = store_added c.args.self.now.pool c.into_object.new.pool c.args.self.now.objects.slots c.reserve.new.self.slots c.insert_reserved-key.new.self.slots c.insert_reserved-key.result c.in_ok-object.object c.args.self.now.kept (ap (λ (s : Slab ObjectValue). s.slots) c.reserve.ensures.rest_kept) c.insert_reserved-key.ensures.was_vacant (c.insert_reserved-key.ensures.updates.changed) c.insert_reserved-key.ensures.updates.others c.in_ok-object.ensures.trades c.in_ok-object.ensures.kept }

pub returns-clause-ok : goal.returns-clause-ok
returns-clause-ok c = tables_added c.args.self.now.pool c.into_object.new.pool c.args.self.now.objects.slots c.reserve.new.self.slots c.insert_reserved-key.new.self.slots c.insert_reserved-key.result c.in_ok-object.object c.args.self.now.kept (ap (λ (s : Slab ObjectValue). s.slots) c.reserve.ensures.rest_kept) c.insert_reserved-key.ensures.was_vacant (c.insert_reserved-key.ensures.updates.changed) c.insert_reserved-key.ensures.updates.others c.in_ok-object.ensures.trades _ c.in_ok-object.ensures.table

pub returns-in_err-object-clause-blocks : goal.returns-in_err-object-clause-blocks
returns-in_err-object-clause-blocks c = lie_stay c.args.self.now.pool c.into_object.new.pool c.args.self.now.objects.slots c.reserve.new.self.slots None c.args.self.now.kept (ap (λ (s : Slab ObjectValue). s.slots) c.reserve.ensures.rest_kept) c.in_err-object.ensures.trades

pub returns-clause-blocks : goal.returns-clause-blocks
returns-clause-blocks c = lie_added c.args.self.now.pool c.into_object.new.pool c.args.self.now.objects.slots c.reserve.new.self.slots c.insert_reserved-key.new.self.slots c.insert_reserved-key.result c.in_ok-object.object c.args.self.now.kept (ap (λ (s : Slab ObjectValue). s.slots) c.reserve.ensures.rest_kept) c.insert_reserved-key.ensures.was_vacant (c.insert_reserved-key.ensures.updates.changed) c.insert_reserved-key.ensures.updates.others c.in_ok-object.ensures.trades

pub returns-clause-by_kind : goal.returns-clause-by_kind
returns-clause-by_kind c = subst (λ (o : Option ObjectValue). AreJoined c.into_object.new.pool (manager_or o)) (sym c.insert_reserved-key.ensures.updates.changed) c.in_ok-object.ensures.joined
