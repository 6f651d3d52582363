use Rattle.{std.proofs.Common.{ap₂}, column_core.proofs.cells.Common.{◌≡◌, ◌≤◌, ◌*◌, ◌∙◌, ap, sym, subst, arith, length, Some, None, ◌+◌, ℕ, length-map, is_some, slice_set, false}, column_core.specs.{Blocks.{CellBlock}, Columns.{CellColumn}}, block_pool.{specs.{declared.{views.View.{View}}, Placed.{Puts, size_of, IsEven}, Pools.{cells_of, grid_at, total_of, with_block}}, proofs.{Slots.{puts_set, puts_again}, PoolLaws.{live_slot, live_lot, users_from_sole, size_held, total_is}, LyingLaws.{lies}, JoinLaws.{full_shown, full_is_shown, before_fit, before_even, before_size, before_is, changed_pool, changed_with}, ShowLaws.{whole_view}, BlockMoves.{new_lot}}}}
use Rattle.block_pool.proofs.pool.Pool.put_before.Goals as goal

pub index-view-requires : goal.index-view-requires
index-view-requires c = live_slot _ _ _ _ c.self.view_is c.args.id.0 c.requires.apart.live

pub remove-lot-requires : goal.remove-lot-requires
remove-lot-requires c = live_lot _ _ _ _ _ c.self.invariant c.args.id.0 _ c.index-view.ensures

pub move_shown-requires : goal.move_shown-requires
move_shown-requires c =
    let v = c.index-view.result.now in
    let lot = c.remove-lot.result in
    let lots = c.self.inside.lots.slots in
    let views = c.self.inside.views.slots in
    let at = lies lots views _ _ _ c.self.invariant _ c.self.view_is c.args.id.0 v lot c.index-view.ensures c.remove-lot.ensures.value in
    record {
      placed = at.placed;
      even = at.even;
      full = full_shown lots views _ _ c.self.view_is c.args.id.0 v lot c.index-view.ensures c.remove-lot.ensures.value at.grid c.requires.apart.full;
      room = omega (arith, c.requires.room, at.columns);
    }

pub of_columns-block-requires : goal.of_columns-block-requires
of_columns-block-requires c =
    let v = c.index-view.result.now in
    let lot = c.remove-lot.result in
    let lots = c.self.inside.lots.slots in
    let views = c.self.inside.views.slots in
    let pool = c.args.self.now in
    let at = lies lots views _ _ _ c.self.invariant _ c.self.view_is c.args.id.0 v lot c.index-view.ensures c.remove-lot.ensures.value in
    let same = full_is_shown lots views _ _ c.self.view_is c.args.id.0 v lot c.index-view.ensures c.remove-lot.ensures.value c.requires.apart.full in
    let within : cells_of lot.block ≤ total_of pool = omega (arith, size_held lots views _ _ _ c.self.invariant v.block, ap size_of c.remove-lot.ensures.value, total_is lots views _ _ _ c.self.invariant pool c.self.view_is) in
    before_fit pool c.args.id.0 v lot at same c.kind-kind.result c.kind-kind.ensures c.args.list.items _ c.move_shown.ensures.items c.requires.fit (total_of pool) within c.requires.few

pub invariant_of-self : goal.invariant_of-self
invariant_of-self c =
    let v = c.index-view.result.now in
    let lot = c.remove-lot.result in
    let lots = c.self.inside.lots.slots in
    let views = c.self.inside.views.slots in
    let pool = c.args.self.now in
    let items = c.move_shown.new.list.items in
    let g = c.of_columns-block.result in
    let name = c.insert_reserved-name.result in
    let at = lies lots views _ _ _ c.self.invariant _ c.self.view_is c.args.id.0 v lot c.index-view.ensures c.remove-lot.ensures.value in
    let same = full_is_shown lots views _ _ c.self.view_is c.args.id.0 v lot c.index-view.ensures c.remove-lot.ensures.value c.requires.apart.full in
    let within : cells_of lot.block ≤ total_of pool = omega (arith, size_held lots views _ _ _ c.self.invariant v.block, ap size_of c.remove-lot.ensures.value, total_is lots views _ _ _ c.self.invariant pool c.self.view_is) in
    let single = users_from_sole lots views _ _ _ c.self.invariant _ c.self.view_is c.args.id.0 v c.index-view.ensures c.requires.apart.sole in
    let here : name ≡ v.block = c.insert_reserved-name.ensures.key ∙ c.remove-lot.ensures.key_is_next in
    let even : IsEven g = subst IsEven (sym c.of_columns-block.ensures) (before_even pool c.args.id.0 v lot at same c.kind-kind.result c.kind-kind.ensures c.args.list.items items c.move_shown.ensures.items c.requires.fit (total_of pool) within c.requires.few) in
    let size = before_size pool c.args.id.0 v lot at same c.kind-kind.result c.kind-kind.ensures c.args.list.items items c.move_shown.ensures.items c.requires.fit (total_of pool) within c.requires.few in
    let long : length g.columns ≡ length items = ap (λ (b : CellBlock). length b.columns) c.of_columns-block.ensures ∙ length-map items (λ (x : CellColumn). x.cells) in
    let rows : g.rows ≡ v.count = ap (λ (b : CellBlock). b.rows) c.of_columns-block.ensures in
    let many : c.len-count.result ≡ length g.columns = omega (arith, c.len-count.ensures, c.move_shown.new.list.ok.0, long) in
    let whole : c.whole.result ≡ whole_view v.block g = c.whole.ensures ∙ ap₂ (λ (b n : ℕ). record { block = b; first = 0; columns = n; start = 0; stride = 1; back = false; count = v.count }) here many
    ∙ ap (λ (n : ℕ). record { block = v.block; first = 0; columns = length g.columns; start = 0; stride = 1; back = false; count = n }) (sym rows) in
    let gone : Puts lots c.remove-lot.new.self.slots v.block None = record { changed = c.remove-lot.ensures.updates.changed; others = c.remove-lot.ensures.updates.others } in
    let came : Puts c.remove-lot.new.self.slots c.insert_reserved-name.new.self.slots name (Some (new_lot g)) = record { changed = c.insert_reserved-name.ensures.updates.changed; others = c.insert_reserved-name.ensures.updates.others } in
    let put_lot : Puts lots c.insert_reserved-name.new.self.slots v.block (Some (new_lot g)) = puts_again lots c.remove-lot.new.self.slots c.insert_reserved-name.new.self.slots v.block None (Some (new_lot g)) gone (subst (λ (k : ℕ). Puts c.remove-lot.new.self.slots c.insert_reserved-name.new.self.slots k (Some (new_lot g))) here came) in
    let put_view : Puts views (slice_set views c.args.id.0 (Some c.whole.result)) c.args.id.0 (Some (whole_view v.block g)) = subst (λ (w : View). Puts views (slice_set views c.args.id.0 (Some c.whole.result)) c.args.id.0 (Some w)) whole (puts_set views c.args.id.0 (Some c.whole.result) (ap is_some c.index-view.ensures)) in
    let cells : cells_of g ≡ length c.args.list.items * (grid_at pool c.args.id.0).rows + cells_of lot.block = ap₂ (λ (a b : ℕ). a * b) long rows ∙ size in
    let added : length c.args.list.items * v.count ≡ length c.args.list.items * (grid_at pool c.args.id.0).rows = ap (λ n. length c.args.list.items * n) (sym at.rows) in
    let size_of_list : c.len.result ≡ length c.args.list.items = omega (arith, c.len.ensures, c.args.list.ok.0) in
    let counted : c.len.result * v.count ≡ length c.args.list.items * v.count = ap (λ n. n * v.count) size_of_list in
    changed_pool lots _ views _ _ _ _ _ c.args.id.0 v g c.self.invariant c.index-view.ensures single even put_lot put_view
    (omega (arith, cells, added, counted, ap size_of c.remove-lot.ensures.value))

pub returns : goal.returns
returns c =
    let v = c.index-view.result.now in
    let lot = c.remove-lot.result in
    let lots = c.self.inside.lots.slots in
    let views = c.self.inside.views.slots in
    let pool = c.args.self.now in
    let items = c.move_shown.new.list.items in
    let g = c.of_columns-block.result in
    let name = c.insert_reserved-name.result in
    let at = lies lots views _ _ _ c.self.invariant _ c.self.view_is c.args.id.0 v lot c.index-view.ensures c.remove-lot.ensures.value in
    let same = full_is_shown lots views _ _ c.self.view_is c.args.id.0 v lot c.index-view.ensures c.remove-lot.ensures.value c.requires.apart.full in
    let within : cells_of lot.block ≤ total_of pool = omega (arith, size_held lots views _ _ _ c.self.invariant v.block, ap size_of c.remove-lot.ensures.value, total_is lots views _ _ _ c.self.invariant pool c.self.view_is) in
    let single = users_from_sole lots views _ _ _ c.self.invariant _ c.self.view_is c.args.id.0 v c.index-view.ensures c.requires.apart.sole in
    let here : name ≡ v.block = c.insert_reserved-name.ensures.key ∙ c.remove-lot.ensures.key_is_next in
    let even : IsEven g = subst IsEven (sym c.of_columns-block.ensures) (before_even pool c.args.id.0 v lot at same c.kind-kind.result c.kind-kind.ensures c.args.list.items items c.move_shown.ensures.items c.requires.fit (total_of pool) within c.requires.few) in
    let long : length g.columns ≡ length items = ap (λ (b : CellBlock). length b.columns) c.of_columns-block.ensures ∙ length-map items (λ (x : CellColumn). x.cells) in
    let rows : g.rows ≡ v.count = ap (λ (b : CellBlock). b.rows) c.of_columns-block.ensures in
    let many : c.len-count.result ≡ length g.columns = omega (arith, c.len-count.ensures, c.move_shown.new.list.ok.0, long) in
    let whole : c.whole.result ≡ whole_view v.block g = c.whole.ensures ∙ ap₂ (λ (b n : ℕ). record { block = b; first = 0; columns = n; start = 0; stride = 1; back = false; count = v.count }) here many
    ∙ ap (λ (n : ℕ). record { block = v.block; first = 0; columns = length g.columns; start = 0; stride = 1; back = false; count = n }) (sym rows) in
    let gone : Puts lots c.remove-lot.new.self.slots v.block None = record { changed = c.remove-lot.ensures.updates.changed; others = c.remove-lot.ensures.updates.others } in
    let came : Puts c.remove-lot.new.self.slots c.insert_reserved-name.new.self.slots name (Some (new_lot g)) = record { changed = c.insert_reserved-name.ensures.updates.changed; others = c.insert_reserved-name.ensures.updates.others } in
    let put_lot : Puts lots c.insert_reserved-name.new.self.slots v.block (Some (new_lot g)) = puts_again lots c.remove-lot.new.self.slots c.insert_reserved-name.new.self.slots v.block None (Some (new_lot g)) gone (subst (λ (k : ℕ). Puts c.remove-lot.new.self.slots c.insert_reserved-name.new.self.slots k (Some (new_lot g))) here came) in
    let put_view : Puts views (slice_set views c.args.id.0 (Some c.whole.result)) c.args.id.0 (Some (whole_view v.block g)) = subst (λ (w : View). Puts views (slice_set views c.args.id.0 (Some c.whole.result)) c.args.id.0 (Some w)) whole (puts_set views c.args.id.0 (Some c.whole.result) (ap is_some c.index-view.ensures)) in
    changed_with lots _ views _ _ c.self.inside.views.capacity c.self.inside.held 0 c.args.id.0 v g c.self.invariant c.index-view.ensures single even put_lot put_view pool c.self.view_is
    ∙ ap (with_block pool c.args.id.0) (c.of_columns-block.ensures ∙ before_is pool c.args.id.0 v lot at same c.kind-kind.result c.kind-kind.ensures c.args.list.items items c.move_shown.ensures.items c.requires.fit (total_of pool) within c.requires.few)

pub overflow_mul-self : goal.overflow_mul-self
overflow_mul-self c =
    let v = c.index-view.result.now in
    let pool = c.args.self.now in
    let at = lies c.self.inside.lots.slots c.self.inside.views.slots _ _ _ c.self.invariant _ c.self.view_is c.args.id.0 v c.remove-lot.result c.index-view.ensures c.remove-lot.ensures.value in
    let size_of_list : c.len.result ≡ length c.args.list.items = omega (arith, c.len.ensures, c.args.list.ok.0) in
    let counted : c.len.result * v.count ≡ length c.args.list.items * (grid_at pool c.args.id.0).rows = ap₂ (λ (a b : ℕ). a * b) size_of_list (sym at.rows) in
    omega (arith, counted, c.requires.few)

pub overflow_add-self : goal.overflow_add-self
overflow_add-self c =
    let v = c.index-view.result.now in
    let pool = c.args.self.now in
    let at = lies c.self.inside.lots.slots c.self.inside.views.slots _ _ _ c.self.invariant _ c.self.view_is c.args.id.0 v c.remove-lot.result c.index-view.ensures c.remove-lot.ensures.value in
    let size_of_list : c.len.result ≡ length c.args.list.items = omega (arith, c.len.ensures, c.args.list.ok.0) in
    let counted : c.len.result * v.count ≡ length c.args.list.items * (grid_at pool c.args.id.0).rows = ap₂ (λ (a b : ℕ). a * b) size_of_list (sym at.rows) in
    omega (arith, counted, c.requires.few, total_is c.self.inside.lots.slots c.self.inside.views.slots _ _ _ c.self.invariant pool c.self.view_is)
