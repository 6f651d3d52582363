use Rattle.{std.proofs.Common.{◌≡◌, ◌∙◌, List, All, ap, ap₂, sym, subst, rules, map, Some}, block_pool.specs.{declared.views.ViewId.{ViewId}}, block_manager.{specs.{declared.spots.Spot.{Spot}, Managed.{AreLive, columns_on}, Changes.{grids_of, numbers_of}, Spots.{AreOn, column_by, spot_columns, IsEvenGrid, IsPick}}, proofs.{GridLaws.{numbers_long}, SpotLaws.{spots_on}, LayLaws.{lays_views, lays_keep}, LayoutLaws.{inner, inner_columns, row_picks}, ShowLaws.{shows_columns, shows_stand}}}}
use Rattle.block_manager.proofs.manager.Manager.slice.Goals as goal

pub derived-requires : goal.derived-requires
derived-requires c =
    let old = c.args.pool.now in
    let inside = inner c.args.pool.now c.args.self.now c.self.inside.views.items c.self.inside.spots.items c.self.view_is c.self.invariant c.requires.stands in
    record {
      live = subst (λ (vs : List ViewId). AreLive c.args.pool.now (numbers_of vs)) (sym c.deref.ensures.value) inside.live;
      even = subst (λ (vs : List ViewId). All IsEvenGrid (grids_of c.args.pool.now (numbers_of vs))) (sym c.deref.ensures.value) inside.fits.even;
      picks = subst (λ (ss : List Spot). All (IsPick (grids_of old (numbers_of c.deref.result.now)) (Some c.args.rows)) ss) (sym c.deref-2.ensures.value)
          (subst (λ (vs : List ViewId). All (IsPick (grids_of old (numbers_of vs)) (Some c.args.rows)) c.self.inside.spots.items) (sym c.deref.ensures.value) (row_picks c.args.pool.now c.args.self.now c.self.inside.views.items c.self.inside.spots.items c.self.view_is c.self.invariant c.requires.stands c.args.rows c.requires.rows));
    }

pub returns : goal.returns
returns c =
    let old = c.args.pool.now in
    let seen : spot_columns (grids_of old (numbers_of c.deref.result.now)) c.deref-2.result.now ≡ columns_on old c.args.self.now =
    ap₂ (λ (vs : List ViewId) (ss : List Spot). spot_columns (grids_of old (numbers_of vs)) ss) c.deref.ensures.value c.deref-2.ensures.value ∙ sym (inner_columns c.args.pool.now c.args.self.now c.self.inside.views.items c.self.inside.spots.items c.self.view_is c.self.invariant c.requires.stands) in
    let made = c.in_ok-made.made in
    let ids = numbers_of made.views.items in
    let new = c.derived.new.pool in
    record {
      columns = shows_columns new ids made.spots.items _ c.in_ok-made.ensures.shows ∙ ap (map (column_by (Some c.args.rows))) seen;
      stands = shows_stand new ids made.spots.items _ c.in_ok-made.ensures.shows;
      views = lays_views old ids new c.in_ok-made.ensures.lays;
      kept = lays_keep old ids new c.in_ok-made.ensures.lays;
      blocks = c.in_ok-made.ensures.blocks;
      err = search rules;
    }

pub invariant_of-result : goal.invariant_of-result
invariant_of-result c =
    let made = c.in_ok-made.made in
    subst (λ n. AreOn n made.spots.items) (numbers_long made.views.items) (spots_on c.derived.new.pool (numbers_of made.views.items) made.spots.items c.in_ok-made.ensures.shows.stands)
