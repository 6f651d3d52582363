use Rattle.{std.proofs.Common.{◌≡◌, ◌+◌, ◌<◌, ◌∙◌, ap, subst, arith, length, take, map, List, None, sum_by, rules}, std.proofs.lemmas.List.{get_or_default, take_all}, std.specs.Prelude.{slice_index_or}, block_pool.specs.{Pools.{PoolValue, IsLive, total_of}}, block_manager.{specs.{declared.spots.Run.{Run}, Changes.{grids_of, numbers_of}, Spots.{AreOwnRuns, LieThere, IsRunOf, copied_cells, no_run, run_grid, run_in}}, proofs.{GridLaws.{grids_long, numbers_long}, LayLaws.{lays_kept, lays_live, lays_same, lays_gone}, SharedLaws.{lays_start, grids_start, spare_start, live_then, run_live, run_columns, run_shows, laid_more, grids_more, named, own_more, lie_more, held_more, laid_now}}}}
use Rattle.block_manager.proofs.views.laid.Goals as goal

pub loop-k-init : goal.loop-k-init
loop-k-init c = record {
  lays = lays_start c.args.pool.now c.reserve_views.new.self _ c.in_ok-made.made.items c.in_ok-made.ensures.items c.in_ok-reserve_views.ensures.ok;
  grids = grids_start c.args.pool.now c.reserve_views.new.self _ c.in_ok-made.made.items c.in_ok-made.ensures.items c.in_ok-reserve_views.ensures.ok;
  own = λ i lt. absurd (omega (arith, lt));
  lie = λ i lt. absurd (omega (arith, lt));
  held = omega (arith, ap (λ (p : PoolValue). total_of p) c.in_ok-reserve_views.ensures.ok);
  spare = spare_start c.args.pool.now c.reserve_views.new.self _ c.in_ok-made.made.items c.in_ok-made.ensures.items c.in_ok-reserve_views.ensures.ok;
  count = c.in_ok-made.ensures.len;
  room = omega (arith, c.in_ok-made.ensures.exact);
}

pub bounds-views-run : goal.bounds-views-run
bounds-views-run c =
    let old = c.args.pool.now in
    let ids = numbers_of c.args.views.now in
    let is : IsRunOf (grids_of old ids) None (run_in c.args.runs.now c.loop-k.k) = c.requires.runs c.loop-k.k no_run (omega arith) in
    omega (arith, is.view, numbers_long c.args.views.now, grids_long old ids)

pub laid_run-requires : goal.laid_run-requires
laid_run-requires c =
    let old = c.args.pool.now in
    let ids = numbers_of c.args.views.now in
    let views = c.args.views.now in
    let runs = c.args.runs.now in
    let run = run_in runs c.loop-k.k in
    let lt : c.loop-k.k < length runs = omega arith in
    let run_at : run ≡ slice_index_or runs c.loop-k.k run = get_or_default runs c.loop-k.k no_run run lt in
    let now = c.loop-k.pool in
    let is : IsRunOf (grids_of old ids) None run = c.requires.runs c.loop-k.k no_run lt in
    let v = slice_index_or views run.view record { 0 = 0 } in
    let inside : run.view < length views = omega (arith, is.view, numbers_long views, grids_long old ids) in
    let at : v ≡ slice_index_or views run.view v = get_or_default views run.view record { 0 = 0 } v inside in
    let kept = lays_kept old (numbers_of c.loop-k.made.items) now c.loop-k.invariant.lays in
    record {
      live = run_live old now c.args.views.now run None v c.requires.live is at kept;
      spare = omega (arith, c.loop-k.invariant.spare);
      some = is.some;
      columns = run_columns old now c.args.views.now run None v c.requires.live is at kept;
    }

pub release_all-requires : goal.release_all-requires
release_all-requires c =
    let made = numbers_of c.loop-k.made.items in
    lays_live c.args.pool.now made c.laid_run.new.pool (lays_same c.args.pool.now made c.loop-k.pool c.laid_run.new.pool c.loop-k.invariant.lays c.in-Err.ensures.err)

pub returns-in-Err-clause-err : goal.returns-in-Err-clause-err
returns-in-Err-clause-err c =
    let made = numbers_of c.loop-k.made.items in
    lays_gone c.args.pool.now made c.laid_run.new.pool c.release_all.new.pool (lays_same c.args.pool.now made c.loop-k.pool c.laid_run.new.pool c.loop-k.invariant.lays c.in-Err.ensures.err) c.release_all.ensures

pub loop-k-preserved : goal.loop-k-preserved
loop-k-preserved c =
    let old = c.args.pool.now in
    let ids = numbers_of c.args.views.now in
    let views = c.args.views.now in
    let runs = c.args.runs.now in
    let run = run_in runs c.loop-k.k in
    let lt : c.loop-k.k < length runs = omega arith in
    let run_at : run ≡ slice_index_or runs c.loop-k.k run = get_or_default runs c.loop-k.k no_run run lt in
    let now = c.loop-k.pool in
    let is : IsRunOf (grids_of old ids) None run = c.requires.runs c.loop-k.k no_run lt in
    let v = slice_index_or views run.view record { 0 = 0 } in
    let inside : run.view < length views = omega (arith, is.view, numbers_long views, grids_long old ids) in
    let at : v ≡ slice_index_or views run.view v = get_or_default views run.view record { 0 = 0 } v inside in
    let kept = lays_kept old (numbers_of c.loop-k.made.items) now c.loop-k.invariant.lays in
    let live : IsLive old v.0 = live_then old now c.args.views.now run None v c.requires.live is at kept in
    let shows = run_shows old now c.args.views.now run None v c.requires.live is at kept in
    let many : length c.loop-k.made.items ≡ c.loop-k.k = omega (arith, c.loop-k.invariant.count) in
    let laid = laid_now old now c.laid_run.new.pool c.loop-k.made.items c.append.new.items.items c.in-Ok.view v _ (grids_of old ids) run runs c.loop-k.k c.loop-k.invariant.lays c.in-Ok.ensures.fresh live c.in-Ok.ensures.lays c.append.ensures.items (omega arith) run_at many shows in
    record {
      lays = laid_more old now c.laid_run.new.pool c.loop-k.made.items c.append.new.items.items c.in-Ok.view _ c.loop-k.invariant.lays c.in-Ok.ensures.fresh laid c.append.ensures.items;
      grids = grids_more old now c.laid_run.new.pool c.loop-k.made.items c.append.new.items.items c.in-Ok.view _ c.loop-k.invariant.lays c.in-Ok.ensures.fresh laid c.append.ensures.items
          (run_grid (grids_of old ids) None) runs c.loop-k.k run lt run_at c.loop-k.invariant.grids shows;
      own = own_more old now c.laid_run.new.pool c.loop-k.made.items c.append.new.items.items c.in-Ok.view v _ (grids_of old ids) run runs c.loop-k.k c.loop-k.invariant.lays c.in-Ok.ensures.fresh live c.in-Ok.ensures.lays c.append.ensures.items (omega arith) run_at many shows c.loop-k.invariant.own;
      lie = lie_more old now c.laid_run.new.pool c.loop-k.made.items c.append.new.items.items c.in-Ok.view v _ (grids_of old ids) run runs c.loop-k.k c.loop-k.invariant.lays c.in-Ok.ensures.fresh live c.in-Ok.ensures.lays c.append.ensures.items (omega arith) run_at many shows
          ids (named old now c.args.views.now run None v c.requires.live is at kept) c.loop-k.invariant.lie;
      held = held_more old now c.laid_run.new.pool c.loop-k.made.items c.append.new.items.items c.in-Ok.view v _ (grids_of old ids) run runs c.loop-k.k c.loop-k.invariant.lays c.in-Ok.ensures.fresh live c.in-Ok.ensures.lays c.append.ensures.items (omega arith) run_at many shows c.loop-k.invariant.held;
      spare = omega (arith, c.in-Ok.ensures.lays.spare, c.loop-k.invariant.spare);
      count = omega (arith, c.append.ensures.len, c.loop-k.invariant.count);
      room = omega (arith, c.append.ensures.capacity, c.loop-k.invariant.room);
    }

pub returns : goal.returns
returns c =
    let all : take c.loop-k.k c.args.runs.now ≡ c.args.runs.now = take_all c.loop-k.k c.args.runs.now (omega arith) in
    let grids = grids_of c.args.pool.now (numbers_of c.args.views.now) in
    record {
      lays = c.loop-k.invariant.lays;
      grids = c.loop-k.invariant.grids ∙ ap (map (run_grid grids None)) all;
      own = subst (λ (rs : List Run). AreOwnRuns c.loop-k.pool (numbers_of c.loop-k.made.items) rs) all c.loop-k.invariant.own;
      lie = subst (λ (rs : List Run). LieThere c.args.pool.now c.loop-k.pool (numbers_of c.args.views.now) (numbers_of c.loop-k.made.items) rs) all c.loop-k.invariant.lie;
      held = c.loop-k.invariant.held ∙ ap (λ (rs : List Run). total_of c.args.pool.now + sum_by (copied_cells grids) rs) all;
      err = search rules;
    }
