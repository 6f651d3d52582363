use Rattle.{std.proofs.Common.{◌≡◌, ◌∙◌, List, All, ap, ap₂, sym, subst, arith, rules, map, length, None}, cell_core.specs.declared.{cell.Cell.{Cell}}, meaning_tables.specs.Table.{ColumnOf, column_at}, block_pool.specs.{declared.views.ViewId.{ViewId}}, block_manager.{specs.{declared.spots.Spot.{Spot}, Managed.{AreLive, columns_on}, Changes.{grids_of, numbers_of}, Spots.{AreOn, spot_at, spot_columns, IsEvenGrid, IsPick}, Parts.{AreBelow}}, proofs.{GridLaws.{numbers_long}, SpotLaws.{spots_on}, LayLaws.{lays_views, lays_keep}, LayoutLaws.{inner, inner_columns, all_picks, all_columns, places_count, picked_columns, picked_picks}, ShowLaws.{shows_columns, shows_stand}}}}
use Rattle.block_manager.proofs.manager.Manager.select.Goals as goal

pub picked-requires : goal.picked-requires
picked-requires c = λ k d lt. omega (arith, c.requires.columns k d lt, places_count c.args.pool.now c.args.self.now c.self.inside.views.items c.self.inside.spots.items c.self.view_is c.self.invariant c.requires.stands, ap length c.deref.ensures.value)

pub derived-requires : goal.derived-requires
derived-requires c =
    let old = c.args.pool.now in
    let inside = inner c.args.pool.now c.args.self.now c.self.inside.views.items c.self.inside.spots.items c.self.view_is c.self.invariant c.requires.stands in
    let below : AreBelow (length c.self.inside.spots.items) c.args.columns.now = λ k d lt. omega (arith, c.requires.columns k d lt, places_count c.args.pool.now c.args.self.now c.self.inside.views.items c.self.inside.spots.items c.self.view_is c.self.invariant c.requires.stands) in
    let picks : c.deref-3.result.now ≡ map (spot_at c.self.inside.spots.items) c.args.columns.now = c.deref-3.ensures.value ∙ c.in_ok-picks.ensures ∙ ap (λ (ss : List Spot). map (spot_at ss) c.args.columns.now) c.deref.ensures.value in
    record {
      live = subst (λ (vs : List ViewId). AreLive old (numbers_of vs)) (sym c.deref-2.ensures.value) inside.live;
      even = subst (λ (vs : List ViewId). All IsEvenGrid (grids_of old (numbers_of vs))) (sym c.deref-2.ensures.value) inside.fits.even;
      picks = subst (λ (vs : List ViewId). All (IsPick (grids_of old (numbers_of vs)) None) c.deref-3.result.now) (sym c.deref-2.ensures.value)
          (subst (All (IsPick (grids_of old (numbers_of c.self.inside.views.items)) None)) (sym picks)
          (picked_picks (IsPick (grids_of old (numbers_of c.self.inside.views.items)) None) c.self.inside.spots.items c.args.columns.now (all_picks c.args.pool.now c.args.self.now c.self.inside.views.items c.self.inside.spots.items c.self.view_is c.self.invariant c.requires.stands) below));
    }

pub returns : goal.returns
returns c =
    let old = c.args.pool.now in
    let below : AreBelow (length c.self.inside.spots.items) c.args.columns.now = λ k d lt. omega (arith, c.requires.columns k d lt, places_count c.args.pool.now c.args.self.now c.self.inside.views.items c.self.inside.spots.items c.self.view_is c.self.invariant c.requires.stands) in
    let picks : c.deref-3.result.now ≡ map (spot_at c.self.inside.spots.items) c.args.columns.now = c.deref-3.ensures.value ∙ c.in_ok-picks.ensures ∙ ap (λ (ss : List Spot). map (spot_at ss) c.args.columns.now) c.deref.ensures.value in
    let seen : spot_columns (grids_of old (numbers_of c.deref-2.result.now)) c.deref-3.result.now ≡ map (column_at (columns_on old c.args.self.now)) c.args.columns.now =
    ap₂ (λ (vs : List ViewId) (ss : List Spot). spot_columns (grids_of old (numbers_of vs)) ss) c.deref-2.ensures.value picks
    ∙ picked_columns (grids_of old (numbers_of c.self.inside.views.items)) c.self.inside.spots.items c.args.columns.now below
    ∙ ap (λ (cs : List (ColumnOf Cell)). map (column_at cs) c.args.columns.now) (sym (inner_columns c.args.pool.now c.args.self.now c.self.inside.views.items c.self.inside.spots.items c.self.view_is c.self.invariant c.requires.stands)) in
    let made = c.in_ok-made.made in
    let ids = numbers_of made.views.items in
    let new = c.derived.new.pool in
    record {
      columns = shows_columns new ids made.spots.items _ c.in_ok-made.ensures.shows ∙ all_columns _ ∙ seen;
      stands = shows_stand new ids made.spots.items _ c.in_ok-made.ensures.shows;
      views = lays_views old ids new c.in_ok-made.ensures.lays;
      kept = lays_keep old ids new c.in_ok-made.ensures.lays;
      blocks = c.in_ok-made.ensures.blocks;
      err = search rules;
    }

pub invariant_of-result : goal.invariant_of-result
invariant_of-result c =
    let made = c.in_ok-made.made in
    subst (λ n. AreOn n made.spots.items) (numbers_long made.views.items) (spots_on c.derived.new.pool (numbers_of made.views.items) made.spots.items c.in_ok-made.ensures.shows.stands)
