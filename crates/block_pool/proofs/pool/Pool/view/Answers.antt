use Rattle.{column_core.proofs.cells.Common.{◌≡◌, ◌+◌, ◌-◌, ◌≤◌, ◌∙◌, sym, ap, arith, subst, refl, ℕ, IsSome, Option, Some, AreRowsBelow}, column_core.specs.{Blocks.{CellBlock}}, block_pool.{specs.{declared.lots.Lot.{Lot}, Pools.{cells_of, cut}, Placed.{IsPlaced, block_of, slot, shown_grid}}, proofs.{PoolLaws.{live_slot, few_users, free_slot, spare_is, block_is, size_is}, LotLaws.{laid_pool, laid_shares}, ShowLaws.{cut_shown, cut_placed}, LyingLaws.{lies}}}}
use Rattle.block_pool.proofs.pool.Pool.view.Goals as goal

pub index-view-requires : goal.index-view-requires
index-view-requires c = live_slot _ _ _ _ c.self.view_is c.args.id.0 c.requires.live

pub cut-cut-requires-clause-inside : goal.cut-cut-requires-clause-inside
cut-cut-requires-clause-inside c =
    let at = lies c.self.inside.lots.slots c.self.inside.views.slots _ _ _ c.self.invariant _ c.self.view_is c.args.id.0 c.index-view.result.now c.index-lot.result.now c.index-view.ensures c.index-lot.ensures in
    omega (arith, c.requires.columns, at.columns)

pub cut-cut-requires-clause-rows : goal.cut-cut-requires-clause-rows
cut-cut-requires-clause-rows c =
    let at = lies c.self.inside.lots.slots c.self.inside.views.slots _ _ _ c.self.invariant _ c.self.view_is c.args.id.0 c.index-view.result.now c.index-lot.result.now c.index-view.ensures c.index-lot.ensures in
    subst (λ (n : ℕ). AreRowsBelow c.args.rows n) at.rows c.requires.rows

pub lay-slot-requires-clause-few : goal.lay-slot-requires-clause-few
lay-slot-requires-clause-few c =
    omega (arith, few_users _ _ _ _ _ c.self.invariant c.cut-cut.result.block, c.self.invariant.room, c.requires.spare, spare_is c.self.inside.lots.slots c.self.inside.views.slots _ _ c.self.view_is, c.capacity-room.ensures.value)

pub invariant_of-self : goal.invariant_of-self
invariant_of-self c =
    let lots = c.self.inside.lots.slots in
    let views = c.self.inside.views.slots in
    let v = c.index-view.result.now in
    let w = c.cut-cut.result in
    let block = c.index-lot.result.now.block in
    let at = lies lots views _ _ _ c.self.invariant _ c.self.view_is c.args.id.0 v c.index-lot.result.now c.index-view.ensures c.index-lot.ensures in
    let inside : c.args.cols.from + c.args.cols.count ≤ v.columns = omega (arith, c.requires.columns, at.columns) in
    let less : c.self.inside.spare - 1 + 1 ≡ c.self.inside.spare = omega (arith, c.requires.spare, spare_is lots views _ _ c.self.view_is) in
    let there : slot lots w.block ≡ Some c.index-lot.result.now = ap (λ b. slot lots b) c.cut-cut.ensures.block ∙ c.index-lot.ensures in
    let live : IsSome (slot lots w.block) = subst IsSome (sym there) refl in
    let placed = cut_placed block v w c.args.cols.from c.args.cols.count c.rows-limit.result at.placed
    c.rows-limit.ensures inside c.cut-cut.ensures.first c.cut-cut.ensures.columns c.cut-cut.ensures.fits c.cut-cut.ensures.moves c.cut-cut.ensures.short in
    rw c.lay-slot.ensures.capacity
    (laid_pool lots _ views _ c.self.inside.spare (c.self.inside.spare - 1) _ _ c.lay-slot.result w c.self.invariant live c.lay-slot.ensures.lots c.lay-slot.ensures.views less
    c.lay-slot.ensures.fresh (subst (λ (o : Option Lot). IsPlaced (block_of o) w) (sym there) placed))

pub returns-clause-fresh : goal.returns-clause-fresh
returns-clause-fresh c = free_slot _ _ _ _ c.self.view_is c.lay-slot.result c.lay-slot.ensures.fresh

pub returns-clause-shares : goal.returns-clause-shares
returns-clause-shares c =
    let lots = c.self.inside.lots.slots in
    let views = c.self.inside.views.slots in
    let v = c.index-view.result.now in
    let w = c.cut-cut.result in
    let cols = c.args.cols in
    let rows = c.args.rows in
    let block = c.index-lot.result.now.block in
    let at = lies lots views _ _ _ c.self.invariant _ c.self.view_is c.args.id.0 v c.index-lot.result.now c.index-view.ensures c.index-lot.ensures in
    let inside : cols.from + cols.count ≤ v.columns = omega (arith, c.requires.columns, at.columns) in
    let below = subst (λ (n : ℕ). AreRowsBelow rows n) at.rows c.requires.rows in
    let less : c.self.inside.spare - 1 + 1 ≡ c.self.inside.spare = omega (arith, c.requires.spare, spare_is lots views _ _ c.self.view_is) in
    let there : slot lots w.block ≡ Some c.index-lot.result.now = ap (λ b. slot lots b) c.cut-cut.ensures.block ∙ c.index-lot.ensures in
    let live : IsSome (slot lots w.block) = subst IsSome (sym there) refl in
    let shows = ap (λ (o : Option Lot). shown_grid (block_of o) w) there
    ∙ cut_shown block v w cols.from cols.count rows c.cut-cut.ensures.first c.cut-cut.ensures.columns c.cut-cut.ensures.count inside below c.cut-cut.ensures.places
    ∙ ap (λ (g : CellBlock). cut g cols.from cols.count rows) (sym at.grid) in
    laid_shares lots _ views _ c.self.inside.spare (c.self.inside.spare - 1) _ _ c.lay-slot.result w c.self.invariant live c.lay-slot.ensures.lots c.lay-slot.ensures.views less
    _ c.self.view_is c.args.id.0 _ (block_is lots views _ _ c.self.view_is c.args.id.0 v c.index-view.ensures ∙ sym c.cut-cut.ensures.block)
    (size_is lots views _ _ c.self.view_is c.args.id.0 v c.index-view.ensures ∙ ap (λ b. cells_of (block_of (slot lots b))) (sym c.cut-cut.ensures.block)) shows
