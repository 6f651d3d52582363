use Rattle.{std.proofs.Common.{◌≡◌, ◌∙◌, ◌<◌, ◌+◌, ◌^◌, ℕ, List, All, ap, ap₂, sym, subst, arith, length, map, get_or}, std.proofs.lemmas.List.{length-map, with_items_is}, column_core.specs.Blocks.{CellBlock}, block_pool.specs.{Pools.{IsSole, grid_at}}, block_manager.{specs.{declared.spots.Spot.{Spot}, Managed.{AreJoined, Exchanges, Keeps, StandsOn, columns_on}, Changes.{grids_of, numbers_of}, Spots.{AreOn, laid_out, spot_at, width_in}, Groups.{AreGroups, IsFilled, groups_seen, moved}}, proofs.{GridLaws.{numbers_long}, SpotLaws.{grid_there, spot_within, spots_on}, ShowLaws.{shows_stand, shows_columns}, LayoutLaws.{inner_shows, views_are}, ConsolidateLaws.{all_groups, joined_shows, joined_views, joined_kept, joined_kinds}}}}
use Rattle.block_manager.proofs.manager.Manager.join.Goals as goal

pub move_spots-requires-clause-few : goal.move_spots-requires-clause-few
move_spots-requires-clause-few c =
    let old = c.args.pool.now in
    let views = c.self.inside.views.items in
    let spots = c.self.inside.spots.items in
    let ids = numbers_of views in
    let targets = c.args.groups.targets.items in
    let is = views_are old c.args.self.now views spots c.self.view_is c.self.invariant c.requires.stands in
    let there = inner_shows old c.args.self.now views spots c.self.view_is c.self.invariant c.requires.stands in
    let are : AreGroups (grid_at old) ids (groups_seen c.args.groups.groups.items) targets = subst (λ (vs : List ℕ). AreGroups (grid_at old) vs (groups_seen c.args.groups.groups.items) targets) is c.requires.groups in
    let few : All (λ (s : Spot). (spot_at targets s.view).column + s.column < 2 ^ 64) spots = λ k d lt.
    let s : Spot = get_or spots k d in
    let on : s.view < length ids = spots_on old ids spots there.stands k d lt in
    let below = spot_within (width_in (grids_of old ids)) spots there.stands.fits.covers k d lt in
    omega (arith, are.targets_are.few s.view on, below, ap (λ (g : CellBlock). length g.columns) (grid_there old ids s.view on)) in
    subst (λ (ts : List Spot). All (λ (s : Spot). (spot_at ts s.view).column + s.column < 2 ^ 64) c.deref_mut.result.now) (sym c.deref.ensures.value)
    (subst (All (λ (s : Spot). (spot_at targets s.view).column + s.column < 2 ^ 64)) (sym c.deref_mut.ensures.value) few)

pub join_all-requires-clause-groups : goal.join_all-requires-clause-groups
join_all-requires-clause-groups c =
    let old = c.args.pool.now in
    let m = c.args.self.now in
    let views = c.self.inside.views.items in
    let spots = c.self.inside.spots.items in
    let ids = numbers_of views in
    let targets = c.args.groups.targets.items in
    let is = views_are old m views spots c.self.view_is c.self.invariant c.requires.stands in
    all_groups old ids spots (columns_on old m) (inner_shows old m views spots c.self.view_is c.self.invariant c.requires.stands) (subst (All (IsSole old)) is c.requires.sole) (subst (All (IsFilled old)) is c.requires.filled) c.requires.rows (groups_seen c.args.groups.groups.items) targets
    (subst (λ (vs : List ℕ). AreGroups (grid_at old) vs (groups_seen c.args.groups.groups.items) targets) is c.requires.groups)

pub invariant_of-self : goal.invariant_of-self
invariant_of-self c =
    let old = c.args.pool.now in
    let new = c.join_all.new.pool in
    let m = c.args.self.now in
    let views = c.self.inside.views.items in
    let spots = c.self.inside.spots.items in
    let ids = numbers_of views in
    let targets = c.args.groups.targets.items in
    let groups = groups_seen c.args.groups.groups.items in
    let left = c.join_all.new.list.items in
    let is = views_are old m views spots c.self.view_is c.self.invariant c.requires.stands in
    let are : AreGroups (grid_at old) ids groups targets = subst (λ (vs : List ℕ). AreGroups (grid_at old) vs groups targets) is c.requires.groups in
    let moved_is : c.move_spots.new.spots ≡ map (moved targets) spots = c.move_spots.ensures ∙ ap₂ (λ (ts ss : List Spot). map (moved ts) ss) c.deref.ensures.value c.deref_mut.ensures.value in
    let after_spots = with_items_is c.self.inside.spots c.move_spots.new.spots (omega (arith, ap length moved_is, length-map spots (moved targets))) ∙ moved_is in
    let shows = joined_shows old ids spots (columns_on old m) (inner_shows old m views spots c.self.view_is c.self.invariant c.requires.stands) (subst (All (IsSole old)) is c.requires.sole) (subst (All (IsFilled old)) is c.requires.filled) c.requires.rows groups targets are new (numbers_of left) c.join_all.ensures.joins in
    subst (AreOn (length left)) (sym after_spots) (subst (λ n. AreOn n (map (moved targets) spots)) (numbers_long left) (spots_on new (numbers_of left) (map (moved targets) spots) shows.stands))

pub returns : goal.returns
returns c =
    let old = c.args.pool.now in
    let new = c.join_all.new.pool in
    let m = c.args.self.now in
    let views = c.self.inside.views.items in
    let spots = c.self.inside.spots.items in
    let ids = numbers_of views in
    let targets = c.args.groups.targets.items in
    let groups = groups_seen c.args.groups.groups.items in
    let left = numbers_of c.join_all.new.list.items in
    let is = views_are old m views spots c.self.view_is c.self.invariant c.requires.stands in
    let are : AreGroups (grid_at old) ids groups targets = subst (λ (vs : List ℕ). AreGroups (grid_at old) vs groups targets) is c.requires.groups in
    let there = inner_shows old m views spots c.self.view_is c.self.invariant c.requires.stands in
    let sole = subst (All (IsSole old)) is c.requires.sole in
    let filled = subst (All (IsFilled old)) is c.requires.filled in
    let joins = c.join_all.ensures.joins in
    let moved_is : c.move_spots.new.spots ≡ map (moved targets) spots = c.move_spots.ensures ∙ ap₂ (λ (ts ss : List Spot). map (moved ts) ss) c.deref.ensures.value c.deref_mut.ensures.value in
    let after_spots = with_items_is c.self.inside.spots c.move_spots.new.spots (omega (arith, ap length moved_is, length-map spots (moved targets))) ∙ moved_is in
    let after = ap (laid_out left) after_spots in
    let shows = joined_shows old ids spots (columns_on old m) there sole filled c.requires.rows groups targets are new left joins in
    record {
      columns = ap (columns_on new) after ∙ shows_columns new left (map (moved targets) spots) (columns_on old m) shows;
      stands = subst (StandsOn new) (sym after) (shows_stand new left (map (moved targets) spots) (columns_on old m) shows);
      views = subst (λ (vs : List ℕ). Exchanges old new vs left) (sym is) (joined_views old ids spots (columns_on old m) there sole filled c.requires.rows groups targets are new left joins);
      kept = subst (Keeps old new) (sym is) (joined_kept old ids spots (columns_on old m) there sole filled c.requires.rows groups targets are new left joins);
      held = joins.held;
      joined = subst (AreJoined new) (sym after) (joined_kinds old ids spots (columns_on old m) there sole filled c.requires.rows groups targets are new left joins);
    }
