use Rattle.{column_core.proofs.cells.Common.{◌≡◌, ◌∙◌, ap, sym, subst, arith, refl, All, None, ◌++◌}, column_core.specs.{Blocks.{CellBlock, columns_in, IsColumnOf}}, block_pool.{specs.{Placed.{Puts, slot, left, size_of}}, proofs.{PoolLaws.{live_slot, live_lot, users_from_sole, size_held}, LotLaws.{ended_pool, ends, left_last}, LyingLaws.{lies}, JoinLaws.{full_shown, shown_fit}}}}
use Rattle.block_pool.proofs.pool.Pool.take.Goals as goal

pub remove-view-requires : goal.remove-view-requires
remove-view-requires c = live_slot _ _ _ _ c.self.view_is c.args.id.0 c.requires.apart.live

pub remove-lot-requires : goal.remove-lot-requires
remove-lot-requires c = live_lot _ _ _ _ _ c.self.invariant c.args.id.0 _ c.remove-view.ensures.value

pub move_shown-requires : goal.move_shown-requires
move_shown-requires c =
    let v = c.remove-view.result in
    let lot = c.remove-lot.result in
    let lots = c.self.inside.lots.slots in
    let views = c.self.inside.views.slots in
    let at = lies lots views _ _ _ c.self.invariant _ c.self.view_is c.args.id.0 v lot c.remove-view.ensures.value c.remove-lot.ensures.value in
    record {
      placed = at.placed;
      even = at.even;
      full = full_shown lots views _ _ c.self.view_is c.args.id.0 v lot c.remove-view.ensures.value c.remove-lot.ensures.value at.grid c.requires.apart.full;
      room = omega (arith, c.requires.room, at.columns);
    }

pub invariant_of-self : goal.invariant_of-self
invariant_of-self c =
    let v = c.remove-view.result in
    let lots = c.self.inside.lots.slots in
    let views = c.self.inside.views.slots in
    let single = users_from_sole lots views _ _ _ c.self.invariant _ c.self.view_is c.args.id.0 v c.remove-view.ensures.value c.requires.apart.sole in
    let put : Puts views c.remove-view.new.self.slots c.args.id.0 None = record { changed = c.remove-view.ensures.updates.changed; others = c.remove-view.ensures.updates.others } in
    let put_lot : Puts lots c.remove-lot.new.self.slots v.block (left (slot lots v.block)) = record { changed = c.remove-lot.ensures.updates.changed ∙ sym (left_last (slot lots v.block) single); others = c.remove-lot.ensures.updates.others } in
    let gone : size_of (left (slot lots v.block)) ≡ 0 = ap size_of (left_last (slot lots v.block) single) in
    rw c.remove-view.ensures.capacity
    (ended_pool lots _ views _ c.self.inside.spare _ _ _ c.args.id.0 v c.self.invariant c.remove-view.ensures.value put_lot put
    (omega (arith, gone, ap size_of c.remove-lot.ensures.value, c.cells.ensures.count, size_held _ _ _ _ _ c.self.invariant v.block)))

pub returns : goal.returns
returns c =
    let v = c.remove-view.result in
    let lot = c.remove-lot.result in
    let lots = c.self.inside.lots.slots in
    let views = c.self.inside.views.slots in
    let at = lies lots views _ _ _ c.self.invariant _ c.self.view_is c.args.id.0 v lot c.remove-view.ensures.value c.remove-lot.ensures.value in
    let single = users_from_sole lots views _ _ _ c.self.invariant _ c.self.view_is c.args.id.0 v c.remove-view.ensures.value c.requires.apart.sole in
    let put : Puts views c.remove-view.new.self.slots c.args.id.0 None = record { changed = c.remove-view.ensures.updates.changed; others = c.remove-view.ensures.updates.others } in
    let put_lot : Puts lots c.remove-lot.new.self.slots v.block (left (slot lots v.block)) = record { changed = c.remove-lot.ensures.updates.changed ∙ sym (left_last (slot lots v.block) single); others = c.remove-lot.ensures.updates.others } in
    record {
      ended = ends lots _ views _ c.self.inside.spare _ c.self.inside.held 0 c.args.id.0 v c.self.invariant c.remove-view.ensures.value put_lot put _ c.self.view_is;
      items = c.move_shown.ensures.items ∙ ap (λ (g : CellBlock). c.args.list.now.items ++ columns_in g) (sym at.grid);
      fit = subst (λ (g : CellBlock). All (IsColumnOf g.kind g.rows) (columns_in g)) (sym at.grid) (shown_fit lot.block v v.count refl);
      len = omega (arith, c.move_shown.ensures.len, at.columns);
      capacity = c.move_shown.ensures.capacity;
    }
