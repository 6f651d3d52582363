use Rattle.{std.proofs.Common.{◌≡◌, ◌∙◌, ◌+◌, List, All, ap, ap₂, sym, subst, arith, rules, map, length, None}, std.proofs.lemmas.{List.{length-map}, List.Edits.{length-remove}}, std.specs.Prelude.{IfOk, remove}, cell_core.specs.declared.{cell.Cell.{Cell}}, meaning_tables.specs.Table.{ColumnOf}, block_pool.specs.{declared.views.ViewId.{ViewId}}, block_manager.{specs.{declared.spots.{Layout.{Layout}, Spot.{Spot}}, Managed.{placed_column, AreLive, columns_on}, Changes.{grids_of, numbers_of}, Spots.{column_by, spot_columns, Shows, IsEvenGrid, IsPick}}, proofs.{ShowLaws.{shows_many}, LayoutLaws.{if_ok, inner, inner_columns, all_picks, all_columns, places_count, other_columns_are, removed_picks}}}}
use Rattle.block_manager.proofs.manager.Manager.without.Goals as goal

pub without-requires : goal.without-requires
without-requires c = omega (arith, c.requires.column, places_count c.args.pool.now c.args.self.now c.self.inside.views.items c.self.inside.spots.items c.self.view_is c.self.invariant c.requires.stands, ap length c.deref.ensures.value)

pub derived-requires : goal.derived-requires
derived-requires c =
    let old = c.args.pool.now in
    let inside = inner c.args.pool.now c.args.self.now c.self.inside.views.items c.self.inside.spots.items c.self.view_is c.self.invariant c.requires.stands in
    let picks : c.deref-3.result.now ≡ remove c.self.inside.spots.items c.args.column = c.deref-3.ensures.value ∙ c.in_ok-picks.ensures ∙ ap (λ (ss : List Spot). remove ss c.args.column) c.deref.ensures.value in
    record {
      live = subst (λ (vs : List ViewId). AreLive old (numbers_of vs)) (sym c.deref-2.ensures.value) inside.live;
      even = subst (λ (vs : List ViewId). All IsEvenGrid (grids_of old (numbers_of vs))) (sym c.deref-2.ensures.value) inside.fits.even;
      picks = subst (λ (vs : List ViewId). All (IsPick (grids_of old (numbers_of vs)) None) c.deref-3.result.now) (sym c.deref-2.ensures.value)
          (subst (All (IsPick (grids_of old (numbers_of c.self.inside.views.items)) None)) (sym picks)
          (removed_picks (IsPick (grids_of old (numbers_of c.self.inside.views.items)) None) c.self.inside.spots.items c.args.column (all_picks c.args.pool.now c.args.self.now c.self.inside.views.items c.self.inside.spots.items c.self.view_is c.self.invariant c.requires.stands)));
    }

pub returns : goal.returns
returns c =
    let old = c.args.pool.now in
    let new = c.derived.new.pool in
    let m = c.args.self.now in
    let views = c.self.inside.views.items in
    let spots = c.self.inside.spots.items in
    let column = c.args.column in
    let picks : c.deref-3.result.now ≡ remove spots column = c.deref-3.ensures.value ∙ c.in_ok-picks.ensures ∙ ap (λ (ss : List Spot). remove ss column) c.deref.ensures.value in
    let seen : map (column_by None) (spot_columns (grids_of old (numbers_of c.deref-2.result.now)) c.deref-3.result.now) ≡ remove (columns_on old m) column =
    all_columns _
    ∙ ap₂ (λ (vs : List ViewId) (ss : List Spot). spot_columns (grids_of old (numbers_of vs)) ss) c.deref-2.ensures.value picks
    ∙ other_columns_are (grids_of old (numbers_of views)) spots column
    ∙ ap (λ (cs : List (ColumnOf Cell)). remove cs column) (sym (inner_columns old m views spots c.self.view_is c.self.invariant c.requires.stands)) in
    let shows = subst (λ (cs : List (ColumnOf Cell)). IfOk c.derived.result (λ made. Shows new (numbers_of made.views.items) made.spots.items cs)) seen c.derived.ensures.shows in
    let many : length (columns_on old m) ≡ length m.places = length-map m.places (placed_column old) in
    record {
      shows = shows;
      count = if_ok (λ (made : Layout). Shows new (numbers_of made.views.items) made.spots.items (remove (columns_on old m) column)) (λ (made : Layout). length made.spots.items + 1 ≡ length m.places) c.derived.result
          (λ made s. omega (arith, shows_many new (numbers_of made.views.items) made.spots.items (remove (columns_on old m) column) s, length-remove (columns_on old m) column (omega (arith, c.requires.column, many)), many)) shows;
      lays = c.derived.ensures.lays;
      views_room = c.derived.ensures.views_room;
      spots_room = c.derived.ensures.spots_room;
      blocks = c.derived.ensures.blocks;
      err = search rules;
    }
