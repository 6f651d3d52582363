use Rattle.{std.proofs.Common.{◌≡◌, ◌+◌, ◌∙◌, List, Bool, true, All, ap, sym, subst, map, length, None, rules, sum_by}, block_pool.specs.Pools.{total_of}, block_manager.{specs.{declared.spots.{Run.{Run}}, Changes.{grids_of, numbers_of}, Spots.{AreOwnAt, AreOwnRuns, AreWholesOf, IsRunOf, LieThere, Shows, copied_cells, marked, picked_cost, rows_at, run_grid, spot_at, spot_columns}}, proofs.{TimesLaws.{live_in}, GridLaws.{numbers_long}, PlanLaws.{FullPlan, full_all, plan_runs, plan_copied}, WholesLaws.{split_free}, SoleLaws.{separated_sole}, LayLaws.{lays_live}, LayoutLaws.{whole_picks, all_columns, made_shows, made_own, made_some}}}}
use Rattle.block_manager.proofs.layout.separated.Goals as goal

pub whole_runs-requires : goal.whole_runs-requires
whole_runs-requires c = λ k d lt. live_in c.args.pool.now (numbers_of c.args.views.now) k d c.requires.stands.live lt

pub planned-requires : goal.planned-requires
planned-requires c =
    let grids = grids_of c.args.pool.now (numbers_of c.args.views.now) in
    let split = c.args.marks.now.views.items in
    let wholes = c.in_ok-wholes.wholes in
    let are : AreWholesOf grids (length c.args.views.now) split wholes.runs.items wholes.places.items =
    subst (λ (s : List Bool). AreWholesOf grids (length c.args.views.now) s wholes.runs.items wholes.places.items) c.deref.ensures.value c.in_ok-wholes.ensures in
    record {
      wholes = are.wholes;
      marks = λ k lt is. split_free grids (length c.args.views.now) split wholes.runs.items wholes.places.items are (spot_at c.args.spots.now k).view
          (c.requires.split k lt (subst (λ (ms : List Bool). marked ms k ≡ true) c.deref-2.ensures.value is));
    }

pub laid-requires : goal.laid-requires
laid-requires c =
    let grids = grids_of c.args.pool.now (numbers_of c.args.views.now) in
    let split = c.args.marks.now.views.items in
    let wholes = c.in_ok-wholes.wholes in
    let plan = c.in_ok-plan.plan in
    let spots = c.args.spots.now in
    let are : AreWholesOf grids (length c.args.views.now) split wholes.runs.items wholes.places.items =
    subst (λ (s : List Bool). AreWholesOf grids (length c.args.views.now) s wholes.runs.items wholes.places.items) c.deref.ensures.value c.in_ok-wholes.ensures in
    let full : FullPlan plan.runs.items plan.spots.items spots c.deref-2.result.now =
    full_all grids (length c.args.views.now) split wholes.runs.items wholes.places.items plan.runs.items plan.spots.items spots c.deref-2.result.now are c.requires.stands.fits.covers c.in_ok-plan.ensures in
    record {
      live = c.requires.stands.live;
      runs = subst (All (IsRunOf grids None)) (sym c.deref-3.ensures.value)
          (plan_runs plan.runs.items plan.spots.items spots c.deref-2.result.now full grids None c.requires.stands.fits.even (whole_picks c.args.pool.now (numbers_of c.args.views.now) spots c.requires.stands));
    }

pub returns : goal.returns
returns c =
    let old = c.args.pool.now in
    let new = c.laid.new.pool in
    let ids = numbers_of c.args.views.now in
    let grids = grids_of old ids in
    let split = c.args.marks.now.views.items in
    let wholes = c.in_ok-wholes.wholes in
    let plan = c.in_ok-plan.plan in
    let made = c.in_ok-made.made in
    let spots = c.args.spots.now in
    let marks = c.deref-2.result.now in
    let are : AreWholesOf grids (length c.args.views.now) split wholes.runs.items wholes.places.items =
    subst (λ (s : List Bool). AreWholesOf grids (length c.args.views.now) s wholes.runs.items wholes.places.items) c.deref.ensures.value c.in_ok-wholes.ensures in
    let full : FullPlan plan.runs.items plan.spots.items spots marks =
    full_all grids (length c.args.views.now) split wholes.runs.items wholes.places.items plan.runs.items plan.spots.items spots marks are c.requires.stands.fits.covers c.in_ok-plan.ensures in
    let picks = whole_picks old ids spots c.requires.stands in
    let even = c.requires.stands.fits.even in
    let live = lays_live old (numbers_of made.items) new c.in_ok-made.ensures.lays in
    let laid : grids_of new (numbers_of made.items) ≡ map (run_grid grids None) plan.runs.items = c.in_ok-made.ensures.grids ∙ ap (map (run_grid grids None)) c.deref-3.ensures.value in
    let own = subst (λ (rs : List Run). AreOwnRuns new (numbers_of made.items) rs) c.deref-3.ensures.value c.in_ok-made.ensures.own in
    let lie = subst (λ (rs : List Run). LieThere old new ids (numbers_of made.items) rs) c.deref-3.ensures.value c.in_ok-made.ensures.lie in
    record {
      shows = subst (Shows new (numbers_of made.items) plan.spots.items) (all_columns (spot_columns grids spots))
          (made_shows new grids None plan.runs.items plan.spots.items spots marks full even picks (numbers_of made.items) live laid);
      lays = c.in_ok-made.ensures.lays;
      some = made_some new grids None plan.runs.items plan.spots.items spots marks full even picks (numbers_of made.items) live laid;
      own = subst (λ (ms : List Bool). AreOwnAt new (numbers_of made.items) plan.spots.items ms) c.deref-2.ensures.value
          (made_own new grids None plan.runs.items plan.spots.items spots marks full even picks (numbers_of made.items) live laid own);
      sole = separated_sole old new ids (numbers_of made.items) spots plan.spots.items marks split wholes.runs.items plan.runs.items wholes.places.items c.requires.stands c.in_ok-made.ensures.lays
          (subst (λ n. AreWholesOf grids n split wholes.runs.items wholes.places.items) (sym (numbers_long c.args.views.now)) are) c.in_ok-plan.ensures
          (plan_runs plan.runs.items plan.spots.items spots marks full grids None even picks) laid lie own;
      held = c.in_ok-made.ensures.held
          ∙ ap (λ (rs : List Run). total_of old + sum_by (copied_cells grids) rs) c.deref-3.ensures.value
          ∙ ap (λ n. total_of old + n) (plan_copied plan.runs.items plan.spots.items spots marks full grids None even picks)
          ∙ ap (λ (ms : List Bool). total_of old + picked_cost (rows_at grids) ms spots) c.deref-2.ensures.value;
      err = search rules;
    }
