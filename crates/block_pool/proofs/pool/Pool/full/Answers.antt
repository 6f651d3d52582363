use Rattle.{std.proofs.Common.{ap₂}, column_core.proofs.cells.Common.{◌≡◌, ◌*◌, ◌≤◌, ◌∙◌, arith, sym, length, eq-eqb, eqb-true, ℕ}, block_pool.{specs.Pools.{cells_of, grid_at}, proofs.{PoolLaws.{live_slot, live_lot}, LyingLaws.{lies}, KeepingLaws.{products}, ShowLaws.{count_within}, JoinLaws.{shown_is_full, full_is_shown}}}}
use Rattle.block_pool.proofs.pool.Pool.full.Goals as goal

pub index-view-requires : goal.index-view-requires
index-view-requires c = live_slot _ _ _ _ c.self.view_is c.args.id.0 c.requires

pub index-requires : goal.index-requires
index-requires c = live_lot _ _ _ _ _ c.self.invariant c.args.id.0 _ c.index-view.ensures

pub overflow_mul-result : goal.overflow_mul-result
overflow_mul-result c =
    let v = c.index-view.result.now in
    let lot = c.index.result.now in
    let at = lies c.self.inside.lots.slots c.self.inside.views.slots _ _ _ c.self.invariant _ c.self.view_is c.args.id.0 v lot c.index-view.ensures c.index.ensures in
    let some : v.columns ≤ length lot.block.columns = omega (arith, at.placed.columns) in
    let less : v.columns * v.count ≤ length lot.block.columns * lot.block.rows = products v.columns v.count (length lot.block.columns) lot.block.rows some (count_within lot.block v at.placed) in
    omega (arith, less, c.cells-cells.ensures.count)

pub returns : goal.returns
returns c =
    let v = c.index-view.result.now in
    let lot = c.index.result.now in
    let lots = c.self.inside.lots.slots in
    let views = c.self.inside.views.slots in
    let id = c.args.id.0 in
    let pool = c.args.self.now in
    let at = lies lots views _ _ _ c.self.invariant _ c.self.view_is id v lot c.index-view.ensures c.index.ensures in
    let mine : cells_of (grid_at pool id) ≡ v.columns * v.count = ap₂ (λ (a b : ℕ). a * b) at.columns at.rows in
    let whole : c.cells-cells.result ≡ cells_of lot.block = c.cells-cells.ensures.count in (
      λ yes. shown_is_full lots views _ _ c.self.view_is id v lot c.index-view.ensures c.index.ensures (mine ∙ eqb-true _ _ yes ∙ whole),
      λ full. eq-eqb _ _ (sym mine ∙ full_is_shown lots views _ _ c.self.view_is id v lot c.index-view.ensures c.index.ensures full ∙ sym whole),
    )
