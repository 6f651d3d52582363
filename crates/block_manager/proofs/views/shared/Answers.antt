use Rattle.{std.proofs.Common.{◌≡◌, ◌<◌, ◌∙◌, ap, arith, length, take, map, inr, rules}, std.proofs.lemmas.List.{get_or_default, take_all}, std.specs.Prelude.{slice_index_or}, block_pool.specs.{Pools.{IsLive}}, block_manager.{specs.{Changes.{grids_of, numbers_of}, Spots.{IsRunOf, no_run, run_grid, run_in}}, proofs.{GridLaws.{grids_long, numbers_long}, LayLaws.{lays_kept, partakes}, SharedLaws.{lays_start, grids_start, spare_start, blocks_start, run_live, run_columns, run_rows, run_shows, laid_more, grids_more}}}}
use Rattle.block_manager.proofs.views.shared.Goals as goal

pub loop-k-init : goal.loop-k-init
loop-k-init c = record {
  lays = lays_start c.args.pool.now c.reserve_views.new.self _ c.in_ok-made.made.items c.in_ok-made.ensures.items c.in_ok-reserve_views.ensures.ok;
  grids = grids_start c.args.pool.now c.reserve_views.new.self _ c.in_ok-made.made.items c.in_ok-made.ensures.items c.in_ok-reserve_views.ensures.ok;
  blocks = blocks_start c.args.pool.now c.reserve_views.new.self _ c.in_ok-made.made.items c.in_ok-made.ensures.items c.in_ok-reserve_views.ensures.ok;
  spare = spare_start c.args.pool.now c.reserve_views.new.self _ c.in_ok-made.made.items c.in_ok-made.ensures.items c.in_ok-reserve_views.ensures.ok;
  count = c.in_ok-made.ensures.len;
  room = omega (arith, c.in_ok-made.ensures.exact);
}

pub bounds-views-run : goal.bounds-views-run
bounds-views-run c =
    let old = c.args.pool.now in
    let ids = numbers_of c.args.views.now in
    let is : IsRunOf (grids_of old ids) c.args.rows (run_in c.args.runs.now c.loop-k.k) = c.requires.runs c.loop-k.k no_run (omega arith) in
    omega (arith, is.view, numbers_long c.args.views.now, grids_long old ids)

pub part-requires : goal.part-requires
part-requires c =
    let old = c.args.pool.now in
    let ids = numbers_of c.args.views.now in
    let views = c.args.views.now in
    let runs = c.args.runs.now in
    let run = run_in runs c.loop-k.k in
    let lt : c.loop-k.k < length runs = omega arith in
    let run_at : run ≡ slice_index_or runs c.loop-k.k run = get_or_default runs c.loop-k.k no_run run lt in
    let now = c.loop-k.pool in
    let is : IsRunOf (grids_of old ids) c.args.rows run = c.requires.runs c.loop-k.k no_run lt in
    let v = slice_index_or views run.view record { 0 = 0 } in
    let inside : run.view < length views = omega (arith, is.view, numbers_long views, grids_long old ids) in
    let at : v ≡ slice_index_or views run.view v = get_or_default views run.view record { 0 = 0 } v inside in
    let kept = lays_kept old (numbers_of c.loop-k.made.items) now c.loop-k.invariant.lays in
    record {
      live = run_live old now c.args.views.now run c.args.rows v c.requires.live is at kept;
      spare = omega (arith, c.loop-k.invariant.spare);
      some = is.some;
      columns = run_columns old now c.args.views.now run c.args.rows v c.requires.live is at kept;
      rows = run_rows old now c.args.views.now run c.args.rows v c.requires.live is at kept;
    }

pub loop-k-preserved : goal.loop-k-preserved
loop-k-preserved c =
    let old = c.args.pool.now in
    let ids = numbers_of c.args.views.now in
    let views = c.args.views.now in
    let runs = c.args.runs.now in
    let run = run_in runs c.loop-k.k in
    let lt : c.loop-k.k < length runs = omega arith in
    let run_at : run ≡ slice_index_or runs c.loop-k.k run = get_or_default runs c.loop-k.k no_run run lt in
    let now = c.loop-k.pool in
    let is : IsRunOf (grids_of old ids) c.args.rows run = c.requires.runs c.loop-k.k no_run lt in
    let v = slice_index_or views run.view record { 0 = 0 } in
    let inside : run.view < length views = omega (arith, is.view, numbers_long views, grids_long old ids) in
    let at : v ≡ slice_index_or views run.view v = get_or_default views run.view record { 0 = 0 } v inside in
    let kept = lays_kept old (numbers_of c.loop-k.made.items) now c.loop-k.invariant.lays in
    let live : IsLive now v.0 = run_live old now c.args.views.now run c.args.rows v c.requires.live is at kept in
    let laid = inr (partakes now c.part.new.pool c.part.result.0 v.0 _ live c.part.ensures.shares) in
    record {
      lays = laid_more old now c.part.new.pool c.loop-k.made.items c.append.new.items.items c.part.result _ c.loop-k.invariant.lays c.part.ensures.fresh laid c.append.ensures.items;
      grids = grids_more old now c.part.new.pool c.loop-k.made.items c.append.new.items.items c.part.result _ c.loop-k.invariant.lays c.part.ensures.fresh laid c.append.ensures.items
          (run_grid (grids_of old ids) c.args.rows) runs c.loop-k.k run lt run_at c.loop-k.invariant.grids (run_shows old now c.args.views.now run c.args.rows v c.requires.live is at kept);
      blocks = c.part.ensures.shares.blocks ∙ c.loop-k.invariant.blocks;
      spare = omega (arith, c.part.ensures.shares.spare, c.loop-k.invariant.spare);
      count = omega (arith, c.append.ensures.len, c.loop-k.invariant.count);
      room = omega (arith, c.append.ensures.capacity, c.loop-k.invariant.room);
    }

pub returns : goal.returns
returns c =
    let all : take c.loop-k.k c.args.runs.now ≡ c.args.runs.now = take_all c.loop-k.k c.args.runs.now (omega arith) in
    record {
      lays = c.loop-k.invariant.lays;
      grids = c.loop-k.invariant.grids ∙ ap (map (run_grid (grids_of c.args.pool.now (numbers_of c.args.views.now)) c.args.rows)) all;
      room = omega (arith, c.loop-k.invariant.room, c.loop-k.invariant.count);
      blocks = c.loop-k.invariant.blocks;
      err = search rules;
    }
