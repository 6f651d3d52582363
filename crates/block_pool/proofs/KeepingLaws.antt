-- What is so of every pool.
use Rattle.{std.proofs.Common.{◌≡◌, ℕ, ◌*◌, ◌≤◌, List, length, refl, ap, sym, ◌∙◌, subst, arith, Option, Some, IsSome}, std.specs.{Option.{option_map}, FinMap.{get}}, block_pool.{specs.{declared.{views.View.{View}, lots.Lot.{Lot}}, Pools.{ViewValue, PoolValue, cells_of, KeepsBlocks}, Placed.{slot, shown_grid, block_of, lot_cells, seen_over, pool_value, IsPool}}, proofs.{PoolLaws.{of_some, get_view, get_block, is_seen, live_lot, the_lot, a_user, placed_on}, ShowLaws.{columns_of, count_within}}}}

pub products : (a b m n : ℕ) → a ≤ m → b ≤ n → a * b ≤ m * n
products = grind arith

module _ (lots : List (Option Lot)) (views : List (Option View)) (spare capacity held : ℕ) (ok : IsPool lots views spare capacity held) where
  the_block : (id : ℕ) (v : View) → slot views id ≡ Some v → (lot : Lot) × (slot lots v.block ≡ Some lot)
  the_block id v is = the_lot (slot lots v.block) (live_lot lots views spare capacity held ok id v is)

  pub keeps_blocks : (pool : PoolValue) → pool_value lots views spare ≡ pool → KeepsBlocks pool
  keeps_blocks pool e = subst KeepsBlocks e (record {
    lies = λ id seen there.
        let w = of_some (seen_over lots) (slot views id) seen (sym (get_view lots views spare id) ∙ there) in
        let lot = the_block id w.0 w.1 in
        let at : seen.block ≡ w.0.block = ap (λ (s : ViewValue). s.block) (sym w.2) in
        let size : seen.cells ≡ lot_cells lot.0 = ap (λ (s : ViewValue). s.cells) (sym w.2) ∙ ap (λ (o : Option Lot). cells_of (block_of o)) lot.1 in
        ap (λ b. get (pool_value lots views spare).blocks b) at ∙ get_block lots views spare w.0.block ∙ ap (option_map lot_cells) lot.1 ∙ ap Some (sym size);
    used = λ b count there.
        let lot = of_some lot_cells (slot lots b) count (sym (get_block lots views spare b) ∙ there) in
        let some = ok.used b (subst IsSome (sym lot.1) refl) in
        let r = a_user b views (omega (arith, some, ok.counted b)) in
        (r.0, seen_over lots r.1, is_seen lots views spare r.0 r.1 r.2, r.3);
    large = λ id seen there.
        let w = of_some (seen_over lots) (slot views id) seen (sym (get_view lots views spare id) ∙ there) in
        let lot = the_block id w.0 w.1 in
        let same : seen.cells ≡ lot_cells lot.0 = ap (λ (s : ViewValue). s.cells) (sym w.2) ∙ ap (λ (o : Option Lot). cells_of (block_of o)) lot.1 in
        let p = placed_on lots views spare capacity held ok id w.0 lot.0 w.1 lot.1 in
        let grid : seen.grid ≡ shown_grid lot.0.block w.0 = ap (λ (s : ViewValue). s.grid) (sym w.2) ∙ ap (λ (o : Option Lot). shown_grid (block_of o) w.0) lot.1 in
        let some_columns : w.0.columns ≤ length lot.0.block.columns = omega (arith, p.columns) in
        let less = products w.0.columns w.0.count (length lot.0.block.columns) lot.0.block.rows some_columns (count_within lot.0.block w.0 p) in
        let size : cells_of seen.grid ≡ w.0.columns * w.0.count = ap cells_of grid ∙ ap (λ n. n * w.0.count) (columns_of lot.0.block w.0) in
        omega (arith, size, less, same);
  })
