use Rattle.{std.proofs.Common.{◌≡◌, ◌∙◌, ◌+◌, List, ap, ap₂, sym, subst, arith, rules, length}, std.proofs.lemmas.{Bool.{false≢true}}, block_pool.specs.{declared.views.ViewId.{ViewId}, Pools.{total_of}}, block_manager.{specs.{declared.spots.Spot.{Spot}, Parts.{AreBelow}, Managed.{cells_named, columns_on}, Changes.{grids_of, numbers_of}, Spots.{AreAloneAt, AreMarked, AreOn, AreSoleBut, Shows, Stands, picked_cost, rows_at, spot_columns}}, proofs.{ManagerLaws.{renewed_columns, renewed_stands, renewed_views, renewed_kept, renewed_held, own_alone, own_held, sole_there, sole_here}, RenewLaws.{still_live}, SpotLaws.{spots_on}, GridLaws.{numbers_long}, ShowLaws.{shows_many}, LayoutLaws.{inner, inner_shows, places_count, views_are}, AddingLaws.{stays_stands}}}}
use Rattle.block_manager.proofs.manager.Manager.own_columns.Goals as goal

pub are_sole-requires : goal.are_sole-requires
are_sole-requires c =
    let old = c.args.pool.now in
    let there = inner old c.args.self.now c.self.inside.views.items c.self.inside.spots.items c.self.view_is c.self.invariant c.requires.stands in
    let many = places_count old c.args.self.now c.self.inside.views.items c.self.inside.spots.items c.self.view_is c.self.invariant c.requires.stands in
    record {
      stands = subst (λ (vs : List ViewId). Stands old (numbers_of vs) c.deref-2.result.now) (sym c.deref.ensures.value) (subst (Stands old (numbers_of c.self.inside.views.items)) (sym c.deref-2.ensures.value) there);
      places = λ k d lt. omega (arith, c.requires.columns k d lt, many, ap length c.deref-2.ensures.value);
    }

pub marked_at-requires : goal.marked_at-requires
marked_at-requires c =
    let old = c.args.pool.now in
    let there = inner old c.args.self.now c.self.inside.views.items c.self.inside.spots.items c.self.view_is c.self.invariant c.requires.stands in
    let many = places_count old c.args.self.now c.self.inside.views.items c.self.inside.spots.items c.self.view_is c.self.invariant c.requires.stands in
    record {
      stands = subst (λ (vs : List ViewId). Stands old (numbers_of vs) c.deref-4.result.now) (sym c.deref-3.ensures.value) (subst (Stands old (numbers_of c.self.inside.views.items)) (sym c.deref-4.ensures.value) there);
      places = λ k d lt. omega (arith, c.requires.columns k d lt, many, ap length c.deref-4.ensures.value);
    }

pub separated-requires : goal.separated-requires
separated-requires c =
    let old = c.args.pool.now in
    let there = inner old c.args.self.now c.self.inside.views.items c.self.inside.spots.items c.self.view_is c.self.invariant c.requires.stands in
    let same : c.deref-4.result.now ≡ c.deref-6.result.now = c.deref-4.ensures.value ∙ sym c.deref-6.ensures.value in
    record {
      stands = subst (λ (vs : List ViewId). Stands old (numbers_of vs) c.deref-6.result.now) (sym c.deref-5.ensures.value) (subst (Stands old (numbers_of c.self.inside.views.items)) (sym c.deref-6.ensures.value) there);
      split = (subst (λ (ss : List Spot). AreMarked old (numbers_of c.deref-3.result.now) ss c.in_ok-marks.marks.columns.items c.in_ok-marks.marks.views.items c.args.columns.now) same c.in_ok-marks.ensures).split_too;
    }

pub renew-requires : goal.renew-requires
renew-requires c =
    let made = c.in_ok-made.made in
    record {
      live = still_live c.args.pool.now c.separated.new.pool (numbers_of made.views.items) c.args.self.now.views c.in_ok-made.ensures.lays c.requires.stands.live;
      on = subst (λ n. AreOn n made.spots.items) (numbers_long made.views.items) (spots_on c.separated.new.pool (numbers_of made.views.items) made.spots.items c.in_ok-made.ensures.shows.stands);
    }

pub returns-then-are_sole-clause-alone : goal.returns-then-are_sole-clause-alone
returns-then-are_sole-clause-alone c =
    let old = c.args.pool.now in
    let m = c.args.self.now in
    let views = c.self.inside.views.items in
    let spots = c.self.inside.spots.items in
    let places = c.args.columns.now in
    let count = places_count old m views spots c.self.view_is c.self.invariant c.requires.stands in
    let below : AreBelow (length spots) places = λ k d lt. omega (arith, c.requires.columns k d lt, count) in
    sole_here old m (numbers_of views) spots c.self.view_is places below
    (subst (λ (vs : List ViewId). AreAloneAt old (numbers_of vs) spots places) c.deref.ensures.value
    (subst (λ (ss : List Spot). AreAloneAt old (numbers_of c.deref.result.now) ss places) c.deref-2.ensures.value (c.are_sole.ensures.0 c.if-are_sole.true)))

pub returns-in_err-made-clause-stands : goal.returns-in_err-made-clause-stands
returns-in_err-made-clause-stands c = stays_stands c.args.pool.now c.separated.new.pool c.args.self.now c.in_err-made.ensures.err c.requires.stands

pub returns : goal.returns
returns c =
    let old = c.args.pool.now in
    let mid = c.separated.new.pool in
    let new = c.renew.new.pool in
    let m = c.args.self.now in
    let after = c.renew.new.self in
    let views = c.self.inside.views.items in
    let spots = c.self.inside.spots.items in
    let places = c.args.columns.now in
    let made = c.in_ok-made.made in
    let ids = numbers_of made.views.items in
    let ensures = c.in_ok-made.ensures in
    let marks = c.in_ok-marks.marks.columns.items in
    let split = c.in_ok-marks.marks.views.items in
    let then = inner_shows old m views spots c.self.view_is c.self.invariant c.requires.stands in
    let seen : spot_columns (grids_of old (numbers_of c.deref-5.result.now)) c.deref-6.result.now ≡ columns_on old m =
    ap₂ (λ (vs : List ViewId) (ss : List Spot). spot_columns (grids_of old (numbers_of vs)) ss) c.deref-5.ensures.value c.deref-6.ensures.value ∙ then.columns_are in
    let shows : Shows mid ids made.spots.items (columns_on old m) = subst (Shows mid ids made.spots.items) seen ensures.shows in
    let named : AreMarked old (numbers_of views) spots marks split places =
    subst (λ (ss : List Spot). AreMarked old (numbers_of views) ss marks split places) c.deref-4.ensures.value (subst (λ (vs : List ViewId). AreMarked old (numbers_of vs) c.deref-4.result.now marks split places) c.deref-3.ensures.value c.in_ok-marks.ensures) in
    let sole_but : AreSoleBut old mid (numbers_of views) ids spots made.spots.items split =
    subst (λ (ss : List Spot). AreSoleBut old mid (numbers_of views) ids ss made.spots.items split) c.deref-6.ensures.value (subst (λ (vs : List ViewId). AreSoleBut old mid (numbers_of vs) ids c.deref-6.result.now made.spots.items split) c.deref-5.ensures.value ensures.sole) in
    let held : total_of mid ≡ total_of old + picked_cost (rows_at (grids_of old (numbers_of views))) marks spots =
    ensures.held ∙ ap₂ (λ (vs : List ViewId) (ss : List Spot). total_of old + picked_cost (rows_at (grids_of old (numbers_of vs))) marks ss) c.deref-5.ensures.value c.deref-6.ensures.value in
    let many : length made.spots.items ≡ length spots = sym (shows_many mid ids made.spots.items (columns_on old m) shows) ∙ shows_many old (numbers_of views) spots (columns_on old m) then in
    let count = places_count old m views spots c.self.view_is c.self.invariant c.requires.stands in
    let below : AreBelow (length spots) places = λ k d lt. omega (arith, c.requires.columns k d lt, count) in
    let is = views_are old m views spots c.self.view_is c.self.invariant c.requires.stands in
    record {
      columns = renewed_columns old mid new m after ids made.spots.items (columns_on old m) c.requires.stands ensures.lays shows c.renew.ensures.is c.renew.ensures.ended;
      stands = renewed_stands old mid new m after ids made.spots.items (columns_on old m) c.requires.stands ensures.lays shows c.renew.ensures.is c.renew.ensures.ended;
      views = renewed_views old mid new m after ids made.spots.items (columns_on old m) c.requires.stands ensures.lays shows c.renew.ensures.is c.renew.ensures.ended;
      kept = renewed_kept old mid new m after ids made.spots.items (columns_on old m) c.requires.stands ensures.lays shows c.renew.ensures.is c.renew.ensures.ended;
      alone = own_alone old mid new m after (numbers_of views) ids spots made.spots.items (columns_on old m) marks split places c.requires.stands is then.stands ensures.lays shows many ensures.own sole_but named below c.renew.ensures.is c.renew.ensures.ended;
      held = renewed_held old mid new m after ids made.spots.items (columns_on old m) c.requires.stands ensures.lays shows c.renew.ensures.is c.renew.ensures.ended (cells_named (columns_on old m) places) (own_held old mid (numbers_of views) spots (columns_on old m) marks split places then named held);
      sole = λ all. absurd (false≢true (sym c.if-are_sole.false ∙ c.are_sole.ensures.1
          (subst (λ (ss : List Spot). AreAloneAt old (numbers_of c.deref.result.now) ss places) (sym c.deref-2.ensures.value)
          (subst (λ (vs : List ViewId). AreAloneAt old (numbers_of vs) spots places) (sym c.deref.ensures.value) (sole_there old m (numbers_of views) spots c.self.view_is places below all)))));
      err = search rules;
    }
