use Rattle.{std.proofs.Common.{◌≡◌, ◌+◌, ◌≤◌, ◌∙◌, ◌++◌, ◌∷◌, List, map, sum, sym, ap, subst, arith, length, ℕ}, column_core.specs.Blocks.{CellBlock}, block_pool.specs.Pools.{PoolValue, cells_of, live_count, total_of}, block_manager.{specs.{Managed.{times}, Changes.{EndsEach, grids_of, numbers_of}}, proofs.{LayLaws.{lays_gone}, AddingLaws.{grown_live, lays_one, sole_one, seen_one, held_one}}}}
use Rattle.block_manager.proofs.views.add_all.Goals as goal

pub loop-block-preserved : goal.loop-block-preserved
loop-block-preserved c =
    let step : c.loop-block.block-iterator.rest.items ≡ c.in-Some.block ∷ c.next.new.self.rest.items = c.in-Some.ensures.steps.0 in
    let seen : grids_of c.loop-block.pool (numbers_of c.loop-block.views.items) ++ c.in-Some.block ∷ c.next.new.self.rest.items ≡ c.args.blocks.items
    = ap (λ (bs : List CellBlock). grids_of c.loop-block.pool (numbers_of c.loop-block.views.items) ++ bs) (sym step) ∙ c.loop-block.invariant.seen in
    let held : total_of c.loop-block.pool + sum (map cells_of (c.in-Some.block ∷ c.next.new.self.rest.items)) ≡ total_of c.args.pool.now + sum (map cells_of c.args.blocks.items)
    = ap (λ (bs : List CellBlock). total_of c.loop-block.pool + sum (map cells_of bs)) (sym step) ∙ c.loop-block.invariant.held in
    record {
      lays = lays_one c.args.pool.now c.loop-block.pool c.add.new.self c.loop-block.views.items c.append.new.items.items c.in-Ok.view c.in-Some.block c.next.new.self.rest.items c.args.blocks.items c.loop-block.invariant.lays c.in-Ok.ensures.fresh c.in-Ok.ensures.ok c.append.ensures.items;
      sole = sole_one c.args.pool.now c.loop-block.pool c.add.new.self c.loop-block.views.items c.append.new.items.items c.in-Ok.view c.in-Some.block c.next.new.self.rest.items c.args.blocks.items c.loop-block.invariant.lays c.in-Ok.ensures.fresh c.in-Ok.ensures.ok c.append.ensures.items c.loop-block.invariant.sole;
      seen = seen_one c.args.pool.now c.loop-block.pool c.add.new.self c.loop-block.views.items c.append.new.items.items c.in-Ok.view c.in-Some.block c.next.new.self.rest.items c.args.blocks.items c.loop-block.invariant.lays c.in-Ok.ensures.fresh c.in-Ok.ensures.ok c.append.ensures.items seen;
      held = held_one c.args.pool.now c.loop-block.pool c.add.new.self c.loop-block.views.items c.append.new.items.items c.in-Ok.view c.in-Some.block c.next.new.self.rest.items c.args.blocks.items c.loop-block.invariant.lays c.in-Ok.ensures.fresh c.in-Ok.ensures.ok c.append.ensures.items _ held;
      room = omega (arith, c.append.ensures.len, c.append.ensures.capacity, c.loop-block.invariant.room, ap (λ (bs : List CellBlock). length bs) step);
    }

pub release_all-requires : goal.release_all-requires
release_all-requires c =
    subst (λ (p : PoolValue). (id : ℕ) → times id (numbers_of c.loop-block.views.items) ≤ live_count p id) (sym c.in-Err.ensures.err)
    (grown_live c.args.pool.now c.loop-block.pool (numbers_of c.loop-block.views.items) c.loop-block.invariant.lays)

pub returns-in-Err-clause-err : goal.returns-in-Err-clause-err
returns-in-Err-clause-err c =
    lays_gone c.args.pool.now (numbers_of c.loop-block.views.items) c.loop-block.pool c.release_all.new.pool c.loop-block.invariant.lays
    (subst (λ (p : PoolValue). EndsEach p (numbers_of c.loop-block.views.items) c.release_all.new.pool) c.in-Err.ensures.err c.release_all.ensures)
