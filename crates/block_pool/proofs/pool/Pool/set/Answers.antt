use Rattle.{column_core.proofs.cells.Common.{◌≡◌, ◌<◌, ap, arith, subst, true}, column_core.specs.cells.Cell.{holds, datum}, cell_core.specs.declared.cell.Kind.{Kind}, std.specs.Prelude.{is_some}, block_pool.proofs.{Slots.{puts_set}, PoolLaws.{live_slot}, LyingLaws.{lies}, BlockMoves.{set_pool, set_with}}}
use Rattle.block_pool.proofs.pool.Pool.set.Goals as goal

pub index-view-requires : goal.index-view-requires
index-view-requires c = live_slot _ _ _ _ c.self.view_is c.args.id.0 c.requires.live

pub overflow_add-view : goal.overflow_add-view
overflow_add-view c =
    let at = lies c.self.inside.lots.slots c.self.inside.views.slots _ _ _ c.self.invariant _ c.self.view_is c.args.id.0 c.index-view.result.now c.index_mut-lot.result.now c.index-view.ensures c.index_mut-lot.ensures.value in
    omega (arith, c.requires.column, at.columns, at.placed.columns, c.columns-columns.ensures, c.columns-columns.type_inv)

pub place-requires : goal.place-requires
place-requires c =
    let v = c.index-view.result.now in
    let at = lies c.self.inside.lots.slots c.self.inside.views.slots _ _ _ c.self.invariant _ c.self.view_is c.args.id.0 v c.index_mut-lot.result.now c.index-view.ensures c.index_mut-lot.ensures.value in
    let below : c.args.row < v.count = omega (arith, c.requires.row, at.rows) in
    record {
      within = omega (arith, at.placed.fits.within c.args.row below, at.even.short);
      above = λ e. at.placed.fits.above e c.args.row below;
    }

pub put-requires : goal.put-requires
put-requires c =
    let v = c.index-view.result.now in
    let at = lies c.self.inside.lots.slots c.self.inside.views.slots _ _ _ c.self.invariant _ c.self.view_is c.args.id.0 v c.index_mut-lot.result.now c.index-view.ensures c.index_mut-lot.ensures.value in
    let below : c.args.row < v.count = omega (arith, c.requires.row, at.rows) in
    record {
      column = omega (arith, c.requires.column, at.columns, at.placed.columns);
      row = rw c.place.ensures (at.placed.fits.within c.args.row below);
      held = λ texts. subst (λ (k : Kind). holds k (datum texts c.args.cell) ≡ true) at.kind (c.requires.held texts);
    }

pub invariant_of-self : goal.invariant_of-self
invariant_of-self c =
    let v = c.index-view.result.now in
    let lot = c.index_mut-lot.result.now in
    let lots = c.self.inside.lots.slots in
    let at = lies lots c.self.inside.views.slots _ _ _ c.self.invariant _ c.self.view_is c.args.id.0 v lot c.index-view.ensures c.index_mut-lot.ensures.value in
    rw (c.put.ensures, c.place.ensures)
    (set_pool lots _ c.self.inside.views.slots _ _ _ c.args.id.0 v lot c.args.column c.args.row c.args.cell c.self.invariant c.index-view.ensures c.index_mut-lot.ensures.value
    (omega (arith, c.requires.column, at.columns)) (omega (arith, c.requires.row, at.rows)) (puts_set lots v.block _ (ap is_some c.index_mut-lot.ensures.value)))

pub returns : goal.returns
returns c =
    let v = c.index-view.result.now in
    let lot = c.index_mut-lot.result.now in
    let lots = c.self.inside.lots.slots in
    let at = lies lots c.self.inside.views.slots _ _ _ c.self.invariant _ c.self.view_is c.args.id.0 v lot c.index-view.ensures c.index_mut-lot.ensures.value in
    rw (c.put.ensures, c.place.ensures)
    (set_with lots _ c.self.inside.views.slots _ _ _ c.args.id.0 v lot c.args.column c.args.row c.args.cell c.self.invariant c.index-view.ensures c.index_mut-lot.ensures.value
    (omega (arith, c.requires.column, at.columns)) (omega (arith, c.requires.row, at.rows)) (puts_set lots v.block _ (ap is_some c.index_mut-lot.ensures.value)) _ c.self.view_is c.requires.sole)
