use Rattle.{std.proofs.Common.{◌≡◌, ◌∙◌, ◌+◌, ℕ, List, Bool, true, All, ap, ap₂, sym, subst, refl, arith, rules, length, replicate}, block_pool.specs.{declared.views.ViewId.{ViewId}, Pools.{IsLive, IsSole, grid_at, total_of}}, block_manager.{specs.{declared.spots.Spot.{Spot}, Managed.{ManagerValue, columns_on}, Changes.{grids_of, numbers_of}, Spots.{AreOn, AreOwnAt, AreSplit, Shows, Stands, marked, picked_cost, rows_at, spot_at, spot_columns}, Groups.{AreGroups, IsFilled, groups_seen}}, proofs.{TimesLaws.{live_in}, GridLaws.{numbers_long}, SpotLaws.{spots_on}, PlanLaws.{s0}, ShowLaws.{shows_many}, LayoutLaws.{inner, inner_shows, views_are}, LayLaws.{lays_live, lays_gone}, RenewLaws.{still_live}, AddingLaws.{stays_held, stays_stands, stays_traded, stays_kept}, ManagerLaws.{renewed_columns, renewed_stands, renewed_views, renewed_kept}, WholeLaws.{all_marked, all_own, copied_grids, copied_sole, copied_filled, copied_held}, AlikeLaws.{same_groups}}}}
use Rattle.block_manager.proofs.manager.Manager.own_all.Goals as goal

pub separated-requires : goal.separated-requires
separated-requires c =
    let old = c.args.pool.now in
    let views = c.self.inside.views.items in
    let spots = c.self.inside.spots.items in
    let there = inner old c.args.self.now views spots c.self.view_is c.self.invariant c.requires.stands in
    let split : c.in_ok-all.all.views.items ≡ replicate (length views) true = c.in_ok-all.ensures.views ∙ ap (λ n. replicate n true) (let e : c.len-2.result ≡ length views = omega (arith, c.len-2.ensures) in e) in
    record {
      stands = subst (λ (vs : List ViewId). Stands old (numbers_of vs) c.deref-2.result.now) (sym c.deref.ensures.value) (subst (Stands old (numbers_of views)) (sym c.deref-2.ensures.value) there);
      split = subst (λ (ss : List Spot). AreSplit ss c.in_ok-all.all.columns.items c.in_ok-all.all.views.items) (sym c.deref-2.ensures.value)
          (λ place lt is. ap (λ (bs : List Bool). marked bs (spot_at spots place).view) split ∙ all_marked (length views) (spot_at spots place).view (c.self.invariant place s0 lt));
    }

pub grouped-requires : goal.grouped-requires
grouped-requires c =
    let ids = numbers_of c.in_ok-made.made.views.items in
    let mid = c.separated.new.pool in
    subst (λ (vs : List ViewId). All (IsLive mid) (numbers_of vs)) (sym c.deref-3.ensures.value)
    (λ k d lt. live_in mid ids k d (lays_live c.args.pool.now ids mid c.in_ok-made.ensures.lays) lt)

pub renew-requires : goal.renew-requires
renew-requires c =
    let made = c.in_ok-made.made in
    record {
      live = still_live c.args.pool.now c.separated.new.pool (numbers_of made.views.items) c.args.self.now.views c.in_ok-made.ensures.lays c.requires.stands.live;
      on = subst (λ n. AreOn n made.spots.items) (numbers_long made.views.items) (spots_on c.separated.new.pool (numbers_of made.views.items) made.spots.items c.in_ok-made.ensures.shows.stands);
    }

pub release_all-requires : goal.release_all-requires
release_all-requires c = lays_live c.args.pool.now (numbers_of c.in_ok-made.made.views.items) c.separated.new.pool c.in_ok-made.ensures.lays

pub returns-in_err-made-clause-stands : goal.returns-in_err-made-clause-stands
returns-in_err-made-clause-stands c = stays_stands c.args.pool.now c.separated.new.pool c.args.self.now c.in_err-made.ensures.err c.requires.stands

pub returns : goal.returns
returns c =
    let old = c.args.pool.now in
    let new = c.release_all.new.pool in
    let m = c.args.self.now in
    let stays = lays_gone old (numbers_of c.in_ok-made.made.views.items) c.separated.new.pool new c.in_ok-made.ensures.lays c.release_all.ensures in
    record {
      columns = search rules;
      stands = stays_stands old new m stays c.requires.stands;
      views = stays_traded old new m.views stays;
      kept = stays_kept old new m.views stays;
      held = omega (arith, stays_held old new stays);
      sole = search rules;
      filled = search rules;
      groups = search rules;
      rooms = search rules;
      err = (refl, stays);
    }

pub returns-in-Ok : goal.returns-in-Ok
returns-in-Ok c =
    let old = c.args.pool.now in
    let mid = c.separated.new.pool in
    let new = c.renew.new.pool in
    let m = c.args.self.now in
    let after = c.renew.new.self in
    let views = c.self.inside.views.items in
    let spots = c.self.inside.spots.items in
    let made = c.in_ok-made.made in
    let ids = numbers_of made.views.items in
    let ensures = c.in_ok-made.ensures in
    let marks = c.in_ok-all.all.columns.items in
    let then = inner_shows old m views spots c.self.view_is c.self.invariant c.requires.stands in
    let seen : spot_columns (grids_of old (numbers_of c.deref.result.now)) c.deref-2.result.now ≡ columns_on old m =
    ap₂ (λ (vs : List ViewId) (ss : List Spot). spot_columns (grids_of old (numbers_of vs)) ss) c.deref.ensures.value c.deref-2.ensures.value ∙ then.columns_are in
    let shows : Shows mid ids made.spots.items (columns_on old m) = subst (Shows mid ids made.spots.items) seen ensures.shows in
    let is = views_are old m views spots c.self.view_is c.self.invariant c.requires.stands in
    let many : length made.spots.items ≡ length spots = sym (shows_many mid ids made.spots.items (columns_on old m) shows) ∙ shows_many old (numbers_of views) spots (columns_on old m) then in
    let all : marks ≡ replicate (length spots) true = c.in_ok-all.ensures.columns ∙ ap (λ n. replicate n true) (let e : c.len.result ≡ length spots = omega (arith, c.len.ensures) in e) in
    let own = all_own mid ids made.spots.items shows.stands.fits ensures.some (subst (λ (bs : List Bool). AreOwnAt mid ids made.spots.items bs) (all ∙ ap (λ n. replicate n true) (sym many)) ensures.own) in
    let after_is : after.views ≡ ids = ap (λ (n : ManagerValue). n.views) c.renew.ensures.is in
    let held : total_of mid ≡ total_of old + picked_cost (rows_at (grids_of old m.views)) (replicate (length spots) true) spots =
    ensures.held
    ∙ ap₂ (λ (vs : List ViewId) (ss : List Spot). total_of old + picked_cost (rows_at (grids_of old (numbers_of vs))) marks ss) c.deref.ensures.value c.deref-2.ensures.value
    ∙ ap₂ (λ (bs : List Bool) (vs : List ℕ). total_of old + picked_cost (rows_at (grids_of old vs)) bs spots) all (sym is) in
    let grids = copied_grids old mid new m ids c.requires.stands c.requires.sole ensures.lays own c.renew.ensures.ended in
    let groups : AreGroups (grid_at mid) ids (groups_seen c.in-Ok.groups.groups.items) c.in-Ok.groups.targets.items =
    subst (λ (vs : List ViewId). AreGroups (grid_at mid) (numbers_of vs) (groups_seen c.in-Ok.groups.groups.items) c.in-Ok.groups.targets.items) c.deref-3.ensures.value c.in-Ok.ensures.groups in
    record {
      columns = renewed_columns old mid new m after ids made.spots.items (columns_on old m) c.requires.stands ensures.lays shows c.renew.ensures.is c.renew.ensures.ended;
      stands = renewed_stands old mid new m after ids made.spots.items (columns_on old m) c.requires.stands ensures.lays shows c.renew.ensures.is c.renew.ensures.ended;
      views = renewed_views old mid new m after ids made.spots.items (columns_on old m) c.requires.stands ensures.lays shows c.renew.ensures.is c.renew.ensures.ended;
      kept = renewed_kept old mid new m after ids made.spots.items (columns_on old m) c.requires.stands ensures.lays shows c.renew.ensures.is c.renew.ensures.ended;
      held = omega (arith, copied_held old mid new m ids c.requires.stands c.requires.sole ensures.lays own c.renew.ensures.ended c.held-held.ensures.kept spots (subst (λ (vs : List ℕ). Stands old vs spots) (sym is) then.stands) held);
      sole = subst (All (IsSole new)) (sym after_is) (copied_sole old mid new m ids c.requires.stands c.requires.sole ensures.lays own c.renew.ensures.ended);
      filled = subst (All (IsFilled new)) (sym after_is) (copied_filled old mid new m ids c.requires.stands c.requires.sole ensures.lays own c.renew.ensures.ended ensures.some);
      groups = subst (λ (vs : List ℕ). AreGroups (grid_at new) vs (groups_seen c.in-Ok.groups.groups.items) c.in-Ok.groups.targets.items) (sym after_is)
          (same_groups (grid_at mid) (grid_at new) ids (groups_seen c.in-Ok.groups.groups.items) c.in-Ok.groups.targets.items grids groups);
      rooms = c.in-Ok.ensures.room;
      err = search rules;
    }
