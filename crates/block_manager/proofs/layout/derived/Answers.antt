use Rattle.{std.proofs.Common.{◌∙◌, List, [], All, ap, sym, subst, map}, std.proofs.lemmas.Bool.{false≢true}, block_manager.{specs.{declared.spots.{Spot.{Spot}}, Changes.{grids_of, numbers_of}, Spots.{IsRunOf, Shows, column_by, run_grid, spot_columns}}, proofs.{PlanLaws.{full_none, plan_runs}, WholesLaws.{wholes_none}, LayLaws.{lays_live}, LayoutLaws.{made_shows}}}}
use Rattle.block_manager.proofs.layout.derived.Goals as goal

pub planned-requires : goal.planned-requires
planned-requires c = record {
  wholes = wholes_none c.no_wholes.result.runs.items c.no_wholes.result.places.items c.no_wholes.ensures.runs c.no_wholes.ensures.places;
  marks = λ k lt is. absurd (false≢true is);
}

pub shared-requires-clause-runs : goal.shared-requires-clause-runs
shared-requires-clause-runs c =
    let plan = c.in_ok-plan.plan in
    let grids = grids_of c.args.pool.now (numbers_of c.args.views.now) in
    let full = full_none c.no_wholes.result.runs.items c.no_wholes.result.places.items plan.runs.items plan.spots.items c.args.picks.now [] c.no_wholes.ensures.runs c.in_ok-plan.ensures in
    subst (All (IsRunOf grids c.args.rows)) (sym c.deref.ensures.value)
    (plan_runs plan.runs.items plan.spots.items c.args.picks.now [] full grids c.args.rows c.requires.even c.requires.picks)

pub returns-clause-shows : goal.returns-clause-shows
returns-clause-shows c =
    let plan = c.in_ok-plan.plan in
    let made = c.in_ok-made.made in
    let old = c.args.pool.now in
    let new = c.shared.new.pool in
    let ids = numbers_of made.items in
    let grids = grids_of old (numbers_of c.args.views.now) in
    let full = full_none c.no_wholes.result.runs.items c.no_wholes.result.places.items plan.runs.items plan.spots.items c.args.picks.now [] c.no_wholes.ensures.runs c.in_ok-plan.ensures in
    subst (λ (ss : List Spot). Shows new ids ss (map (column_by c.args.rows) (spot_columns grids c.args.picks.now))) (sym c.reserve.ensures.items)
    (made_shows new grids c.args.rows plan.runs.items plan.spots.items c.args.picks.now [] full c.requires.even c.requires.picks ids
    (lays_live old ids new c.in_ok-made.ensures.lays)
    (c.in_ok-made.ensures.grids ∙ ap (map (run_grid grids c.args.rows)) c.deref.ensures.value))
