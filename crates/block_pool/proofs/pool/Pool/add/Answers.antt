use Rattle.{std.proofs.Common.{ap₂}, column_core.proofs.cells.Common.{◌≡◌, ◌+◌, ◌≤◌, ◌∙◌, List, Option, Some, None, ap, arith, refl, sym, subst, ℕ, false, rules}, slab.specs.Slab.{Slab}, std.specs.Prelude.{count_by, is_some}, block_pool.{specs.{declared.{views.View.{View}, lots.Lot.{Lot}}, Placed.{Puts, slot}}, proofs.{PoolLaws.{grown_pool, free_slot}, ShowLaws.{whole_view}, BlockMoves.{added_pool, adds, new_lot}}}}
use Rattle.block_pool.proofs.pool.Pool.add.Goals as goal

pub invariant_of-self : goal.invariant_of-self
invariant_of-self c =
    let same = c.make_room.ensures.slots in
    let room : count_by is_some c.make_room.new.views.slots + c.self.inside.spare ≤ c.make_room.new.views.capacity
    = omega (arith, ap (λ (w : List (Option View)). count_by is_some w) same, c.self.invariant.room, c.make_room.ensures.capacity) in
    grown_pool _ _ _ _ _ _ _ _ _ c.self.invariant refl same room

pub invariant_of-self-in-Err : goal.invariant_of-self-in-Err
invariant_of-self-in-Err c =
    let same = c.make_room.ensures.slots in
    let lots = ap (λ (s : Slab Lot). s.slots) c.in-Err.ensures.err in
    let room : count_by is_some c.make_room.new.views.slots + c.self.inside.spare ≤ c.make_room.new.views.capacity
    = omega (arith, ap (λ (w : List (Option View)). count_by is_some w) same, c.self.invariant.room, c.make_room.ensures.capacity) in
    grown_pool _ _ _ _ _ _ _ _ _ c.self.invariant lots same room

pub invariant_of-self-in-Ok : goal.invariant_of-self-in-Ok
invariant_of-self-in-Ok c =
    let lots = c.self.inside.lots.slots in
    let views = c.self.inside.views.slots in
    let g = c.args.block in
    let name = c.in-Ok.name in
    let key = c.insert_reserved-key.result in
    let same = c.make_room.ensures.slots in
    let whole : c.whole.result ≡ whole_view name g = c.whole.ensures ∙ ap₂ (λ (m n : ℕ). record { block = name; first = 0; columns = m; start = 0; stride = 1; back = false; count = n }) c.columns-columns.ensures c.rows-rows.ensures in
    let put_lot : Puts lots c.insert.new.self.slots name (Some (new_lot g)) = record { changed = c.in-Ok.ensures.updates.changed; others = c.in-Ok.ensures.updates.others } in
    let put_now : Puts c.make_room.new.views.slots c.insert_reserved-key.new.self.slots key (Some c.whole.result) = record { changed = c.insert_reserved-key.ensures.updates.changed; others = c.insert_reserved-key.ensures.updates.others } in
    let put_view : Puts views c.insert_reserved-key.new.self.slots key (Some (whole_view name g)) = subst (λ (w : View). Puts views c.insert_reserved-key.new.self.slots key (Some w)) whole (subst (λ (l : List (Option View)). Puts l c.insert_reserved-key.new.self.slots key (Some c.whole.result)) same put_now) in
    let empty : slot views key ≡ None = sym (ap (λ (l : List (Option View)). slot l key) same) ∙ c.insert_reserved-key.ensures.was_vacant in
    let enough : count_by is_some c.make_room.new.views.slots + (c.self.inside.spare + 1) ≤ c.make_room.new.views.capacity = search rules in
    let room : count_by is_some c.insert_reserved-key.new.self.slots + c.self.inside.spare ≤ c.insert_reserved-key.new.self.capacity
    = omega (arith, enough, c.insert_reserved-key.ensures.len, c.insert_reserved-key.ensures.capacity) in
    added_pool lots _ views _ _ _ _ _ _ name key g c.self.invariant c.in-Some.ensures.even c.in-Ok.ensures.was_vacant empty put_lot put_view room c.in-Some.ensures.held

pub returns-in-Ok-clause-fresh : goal.returns-in-Ok-clause-fresh
returns-in-Ok-clause-fresh c =
    let same = c.make_room.ensures.slots in
    let empty : slot c.self.inside.views.slots c.insert_reserved-key.result ≡ None = sym (ap (λ (l : List (Option View)). slot l c.insert_reserved-key.result) same) ∙ c.insert_reserved-key.ensures.was_vacant in
    free_slot _ _ _ _ c.self.view_is c.insert_reserved-key.result empty

pub returns-in-Ok-clause-ok : goal.returns-in-Ok-clause-ok
returns-in-Ok-clause-ok c =
    let lots = c.self.inside.lots.slots in
    let views = c.self.inside.views.slots in
    let g = c.args.block in
    let name = c.in-Ok.name in
    let key = c.insert_reserved-key.result in
    let same = c.make_room.ensures.slots in
    let whole : c.whole.result ≡ whole_view name g = c.whole.ensures ∙ ap₂ (λ (m n : ℕ). record { block = name; first = 0; columns = m; start = 0; stride = 1; back = false; count = n }) c.columns-columns.ensures c.rows-rows.ensures in
    let put_lot : Puts lots c.insert.new.self.slots name (Some (new_lot g)) = record { changed = c.in-Ok.ensures.updates.changed; others = c.in-Ok.ensures.updates.others } in
    let put_now : Puts c.make_room.new.views.slots c.insert_reserved-key.new.self.slots key (Some c.whole.result) = record { changed = c.insert_reserved-key.ensures.updates.changed; others = c.insert_reserved-key.ensures.updates.others } in
    let put_view : Puts views c.insert_reserved-key.new.self.slots key (Some (whole_view name g)) = subst (λ (w : View). Puts views c.insert_reserved-key.new.self.slots key (Some w)) whole (subst (λ (l : List (Option View)). Puts l c.insert_reserved-key.new.self.slots key (Some c.whole.result)) same put_now) in
    let empty : slot views key ≡ None = sym (ap (λ (l : List (Option View)). slot l key) same) ∙ c.insert_reserved-key.ensures.was_vacant in
    adds lots _ views _ c.self.inside.spare c.self.inside.views.capacity 0 c.self.inside.held 0 name key g c.self.invariant c.in-Some.ensures.even c.in-Ok.ensures.was_vacant empty put_lot put_view _ c.self.view_is
