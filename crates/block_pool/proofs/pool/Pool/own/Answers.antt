use Rattle.{std.proofs.Common.{ap₂}, column_core.proofs.cells.Common.{◌≡◌, ◌≢◌, ◌+◌, ◌∙◌, Some, None, ap, arith, sym, subst, length, ℕ, false}, std.specs.Prelude.{is_some, slice_set}, column_core.specs.Blocks.{CellBlock}, block_pool.{specs.{declared.{views.View.{View}}, Placed.{Puts, slot, size_of, users_of, left, shown_grid}}, proofs.{Slots.{puts_set}, PoolLaws.{live_slot, grid_on, not_sole, many_users, size_held, sole_from_users}, ShowLaws.{whole_view, columns_of}, BlockMoves.{new_lot}, OwnLaws.{owned_pool, owns, alone}}}}
use Rattle.block_pool.proofs.pool.Pool.own.Goals as goal

pub index-view-requires : goal.index-view-requires
index-view-requires c = live_slot _ _ _ _ c.self.view_is c.args.id.0 c.requires

pub returns-then-lot-eq1-clause-shared : goal.returns-then-lot-eq1-clause-shared
returns-then-lot-eq1-clause-shared c = λ shared.
    absurd (shared (sole_from_users _ _ _ _ _ c.self.invariant _ c.self.view_is c.args.id.0 c.index-view.result.now c.index-view.ensures (ap users_of c.index-lot.ensures ∙ c.if-lot-eq1.true)))

pub returns-in_err-block-clause-sole : goal.returns-in_err-block-clause-sole
returns-in_err-block-clause-sole c = λ sole.
    absurd (not_sole _ _ _ _ _ c.self.invariant _ c.self.view_is c.args.id.0 c.index-view.result.now c.index-lot.result.now c.index-view.ensures c.index-lot.ensures (λ z. omega (arith, z)) sole)

pub returns-in_default-clause-sole : goal.returns-in_default-clause-sole
returns-in_default-clause-sole c = λ sole.
    absurd (not_sole _ _ _ _ _ c.self.invariant _ c.self.view_is c.args.id.0 c.index-view.result.now c.index-lot.result.now c.index-view.ensures c.index-lot.ensures (λ z. omega (arith, z)) sole)

pub returns-in_err-name-clause-sole : goal.returns-in_err-name-clause-sole
returns-in_err-name-clause-sole c = λ sole.
    absurd (not_sole _ _ _ _ _ c.self.invariant _ c.self.view_is c.args.id.0 c.index-view.result.now c.index-lot.result.now c.index-view.ensures c.index-lot.ensures (λ z. omega (arith, z)) sole)

pub leave-self-inside-requires-clause-held : goal.leave-self-inside-requires-clause-held
leave-self-inside-requires-clause-held c =
    let lots = c.self.inside.lots.slots in
    let v = c.index-view.result.now in
    let other : v.block ≢ c.in_ok-name.name = λ e. (let z : Some c.index-lot.result.now ≡ None = sym c.index-lot.ensures ∙ ap (λ b. slot lots b) e ∙ c.in_ok-name.ensures.was_vacant in cc) in
    omega (arith, ap size_of (c.in_ok-name.ensures.updates.others v.block other), size_held _ _ _ _ _ c.self.invariant v.block, c.in-Some.ensures.held)

pub invariant_of-self-2 : goal.invariant_of-self-2
invariant_of-self-2 c =
    let lots = c.self.inside.lots.slots in
    let views = c.self.inside.views.slots in
    let v = c.index-view.result.now in
    let lot = c.index-lot.result.now in
    let g = c.in_ok-block.block in
    let name = c.in_ok-name.name in
    let not_one : lot.users ≡ 1 → ⊥ = λ z. omega (arith, z) in
    let many = many_users _ _ _ _ _ c.self.invariant c.args.id.0 v lot c.index-view.ensures c.index-lot.ensures not_one in
    let same : g ≡ shown_grid lot.block v = c.in_ok-block.ensures in
    let whole : c.whole.result ≡ whole_view name g = c.whole.ensures ∙ ap₂ (λ (m n : ℕ). record { block = name; first = 0; columns = m; start = 0; stride = 1; back = false; count = n }) (sym (ap (λ (b : CellBlock). length b.columns) same ∙ columns_of lot.block v)) (sym (ap (λ (b : CellBlock). b.rows) same)) in
    let put_new : Puts lots c.insert.new.self.slots name (Some (new_lot g)) = record { changed = c.in_ok-name.ensures.updates.changed; others = c.in_ok-name.ensures.updates.others } in
    let put_view : Puts views (slice_set views c.args.id.0 (Some c.whole.result)) c.args.id.0 (Some (whole_view name g)) = subst (λ (w : View). Puts views (slice_set views c.args.id.0 (Some c.whole.result)) c.args.id.0 (Some w)) whole (puts_set views c.args.id.0 (Some c.whole.result) (ap is_some c.index-view.ensures)) in
    let counts = c.leave-self-inside.ensures.held ∙ ap (λ h. h + size_of (left (slot c.insert.new.self.slots v.block))) c.in-Some.ensures.held in
    owned_pool lots _ _ views _ _ _ _ _ name c.args.id.0 v g c.self.invariant c.index-view.ensures many c.in-Some.ensures.even c.in_ok-name.ensures.was_vacant put_new c.leave-self-inside.ensures.lots put_view counts

pub returns-clause-sole : goal.returns-clause-sole
returns-clause-sole c = λ sole.
    absurd (not_sole _ _ _ _ _ c.self.invariant _ c.self.view_is c.args.id.0 c.index-view.result.now c.index-lot.result.now c.index-view.ensures c.index-lot.ensures (λ z. omega (arith, z)) sole)

pub returns-clause-shared : goal.returns-clause-shared
returns-clause-shared c = λ _.
    let lots = c.self.inside.lots.slots in
    let views = c.self.inside.views.slots in
    let v = c.index-view.result.now in
    let lot = c.index-lot.result.now in
    let g = c.in_ok-block.block in
    let name = c.in_ok-name.name in
    let not_one : lot.users ≡ 1 → ⊥ = λ z. omega (arith, z) in
    let many = many_users _ _ _ _ _ c.self.invariant c.args.id.0 v lot c.index-view.ensures c.index-lot.ensures not_one in
    let same : g ≡ shown_grid lot.block v = c.in_ok-block.ensures in
    let whole : c.whole.result ≡ whole_view name g = c.whole.ensures ∙ ap₂ (λ (m n : ℕ). record { block = name; first = 0; columns = m; start = 0; stride = 1; back = false; count = n }) (sym (ap (λ (b : CellBlock). length b.columns) same ∙ columns_of lot.block v)) (sym (ap (λ (b : CellBlock). b.rows) same)) in
    let put_new : Puts lots c.insert.new.self.slots name (Some (new_lot g)) = record { changed = c.in_ok-name.ensures.updates.changed; others = c.in_ok-name.ensures.updates.others } in
    let put_view : Puts views (slice_set views c.args.id.0 (Some c.whole.result)) c.args.id.0 (Some (whole_view name g)) = subst (λ (w : View). Puts views (slice_set views c.args.id.0 (Some c.whole.result)) c.args.id.0 (Some w)) whole (puts_set views c.args.id.0 (Some c.whole.result) (ap is_some c.index-view.ensures)) in
    let grid = grid_on lots views _ _ c.self.view_is c.args.id.0 v lot c.index-view.ensures c.index-lot.ensures in
    owns lots _ _ views _ _ c.self.inside.views.capacity c.self.inside.held 0 name c.args.id.0 v g c.self.invariant c.index-view.ensures many c.in-Some.ensures.even c.in_ok-name.ensures.was_vacant put_new c.leave-self-inside.ensures.lots put_view
    _ c.self.view_is (same ∙ sym grid)

pub returns-then-lot-eq1-clause-alone : goal.returns-then-lot-eq1-clause-alone
returns-then-lot-eq1-clause-alone c =
    sole_from_users _ _ _ _ _ c.self.invariant _ c.self.view_is c.args.id.0 c.index-view.result.now c.index-view.ensures (ap users_of c.index-lot.ensures ∙ c.if-lot-eq1.true)

pub returns-clause-alone : goal.returns-clause-alone
returns-clause-alone c =
    let lots = c.self.inside.lots.slots in
    let views = c.self.inside.views.slots in
    let v = c.index-view.result.now in
    let lot = c.index-lot.result.now in
    let g = c.in_ok-block.block in
    let name = c.in_ok-name.name in
    let not_one : lot.users ≡ 1 → ⊥ = λ z. omega (arith, z) in
    let many = many_users _ _ _ _ _ c.self.invariant c.args.id.0 v lot c.index-view.ensures c.index-lot.ensures not_one in
    let same : g ≡ shown_grid lot.block v = c.in_ok-block.ensures in
    let whole : c.whole.result ≡ whole_view name g = c.whole.ensures ∙ ap₂ (λ (m n : ℕ). record { block = name; first = 0; columns = m; start = 0; stride = 1; back = false; count = n }) (sym (ap (λ (b : CellBlock). length b.columns) same ∙ columns_of lot.block v)) (sym (ap (λ (b : CellBlock). b.rows) same)) in
    let put_new : Puts lots c.insert.new.self.slots name (Some (new_lot g)) = record { changed = c.in_ok-name.ensures.updates.changed; others = c.in_ok-name.ensures.updates.others } in
    let put_view : Puts views (slice_set views c.args.id.0 (Some c.whole.result)) c.args.id.0 (Some (whole_view name g)) = subst (λ (w : View). Puts views (slice_set views c.args.id.0 (Some c.whole.result)) c.args.id.0 (Some w)) whole (puts_set views c.args.id.0 (Some c.whole.result) (ap is_some c.index-view.ensures)) in
    let counts = c.leave-self-inside.ensures.held ∙ ap (λ h. h + size_of (left (slot c.insert.new.self.slots v.block))) c.in-Some.ensures.held in
    alone lots _ _ views _ _ c.self.inside.views.capacity c.self.inside.held c.leave-self-inside.result name c.args.id.0 v g c.self.invariant c.index-view.ensures many c.in-Some.ensures.even c.in_ok-name.ensures.was_vacant put_new c.leave-self-inside.ensures.lots put_view counts
