use Rattle.{std.proofs.Common.{◌≡◌, ◌∙◌, List, ap, ap₂, sym, subst, arith, rules, length}, std.proofs.lemmas.List.{length-map}, meaning_tables.specs.{Table.{ColumnOf}, Change.{with_values_from}}, cell_core.specs.declared.cell.Cell.{Cell}, block_pool.specs.{declared.views.ViewId.{ViewId}}, block_manager.{specs.{declared.spots.Spot.{Spot}, Parts.{AreBelow, AreHeld, AreRowsIn}, Managed.{StandsOn, Exchanges, columns_on, placed_column}, Changes.{grids_of, numbers_of, Writes}, Spots.{AreAloneAt, Shows, Stands, spot_column, spot_columns}}, proofs.{WritingLaws.{set_views, set_kept, set_held, set_stays}, ShowLaws.{shows_stand, shows_columns}, LayoutLaws.{inner, inner_columns, views_are}, ManagerLaws.{sole_there}}}}
use Rattle.block_manager.proofs.manager.Manager.set_cells.Goals as goal

pub put_values-requires : goal.put_values-requires
put_values-requires c =
    let old = c.args.pool.now in
    let m = c.args.self.now in
    let mid = c.own_columns.new.pool in
    let now = c.own_columns.new.self in
    let views = c.self.inside.views.items in
    let spots = c.self.inside.spots.items in
    let places = c.args.columns.now in
    let ensures = c.in_ok-own_columns.ensures in
    let there = inner mid now views spots c.self.view_is c.self.invariant ensures.stands in
    let same : spot_columns (grids_of mid (numbers_of views)) spots ≡ columns_on old m = sym (inner_columns mid now views spots c.self.view_is c.self.invariant ensures.stands) ∙ ensures.columns in
    let below : AreBelow (length spots) places = λ k d lt. omega (arith, c.requires.columns k d lt, ap length same, length-map spots (spot_column (grids_of mid (numbers_of views))), length-map m.places (placed_column old)) in
    let seen : spot_columns (grids_of mid (numbers_of c.deref.result.now)) c.deref-2.result.now ≡ columns_on old m =
    ap₂ (λ (vs : List ViewId) (ss : List Spot). spot_columns (grids_of mid (numbers_of vs)) ss) c.deref.ensures.value c.deref-2.ensures.value ∙ same in
    record {
      stands = subst (λ (vs : List ViewId). Stands mid (numbers_of vs) c.deref-2.result.now) (sym c.deref.ensures.value) (subst (Stands mid (numbers_of views)) (sym c.deref-2.ensures.value) there);
      places = subst (λ (ss : List Spot). AreBelow (length ss) places) (sym c.deref-2.ensures.value) below;
      alone = subst (λ (vs : List ViewId). AreAloneAt mid (numbers_of vs) c.deref-2.result.now places) (sym c.deref.ensures.value)
          (subst (λ (ss : List Spot). AreAloneAt mid (numbers_of views) ss places) (sym c.deref-2.ensures.value) (sole_there mid now (numbers_of views) spots c.self.view_is places below ensures.alone));
      rows = subst (λ (cs : List (ColumnOf Cell)). AreRowsIn cs places c.args.rows.now) (sym seen) c.requires.rows;
      values = c.requires.values;
      held = subst (λ (cs : List (ColumnOf Cell)). AreHeld cs places c.args.values.now) (sym seen) c.requires.held;
    }

pub returns : goal.returns
returns c =
    let old = c.args.pool.now in
    let m = c.args.self.now in
    let mid = c.own_columns.new.pool in
    let now = c.own_columns.new.self in
    let new = c.put_values.new.pool in
    let views = c.self.inside.views.items in
    let spots = c.self.inside.spots.items in
    let ids = numbers_of views in
    let ensures = c.in_ok-own_columns.ensures in
    let same : spot_columns (grids_of mid ids) spots ≡ columns_on old m = sym (inner_columns mid now views spots c.self.view_is c.self.invariant ensures.stands) ∙ ensures.columns in
    let is : now.views ≡ ids = views_are mid now views spots c.self.view_is c.self.invariant ensures.stands in
    let traded = subst (Exchanges old mid m.views) is ensures.views in
    let stands : Stands new ids spots = subst (Stands new ids) c.deref-2.ensures.value (subst (λ (vs : List ViewId). Stands new (numbers_of vs) c.deref-2.result.now) c.deref.ensures.value c.put_values.ensures.stands) in
    let writes : Writes mid new ids = subst (λ (vs : List ViewId). Writes mid new (numbers_of vs)) c.deref.ensures.value c.put_values.ensures.writes in
    let written : spot_columns (grids_of new ids) spots ≡ with_values_from 0 (columns_on old m) c.args.rows.now c.args.columns.now c.args.values.now =
    sym (ap₂ (λ (vs : List ViewId) (ss : List Spot). spot_columns (grids_of new (numbers_of vs)) ss) c.deref.ensures.value c.deref-2.ensures.value)
    ∙ c.put_values.ensures.columns
    ∙ ap (λ (cs : List (ColumnOf Cell)). with_values_from 0 cs c.args.rows.now c.args.columns.now c.args.values.now)
    (ap₂ (λ (vs : List ViewId) (ss : List Spot). spot_columns (grids_of mid (numbers_of vs)) ss) c.deref.ensures.value c.deref-2.ensures.value ∙ same) in
    let shows : Shows new ids spots (with_values_from 0 (columns_on old m) c.args.rows.now c.args.columns.now c.args.values.now) = record { stands = stands; columns_are = written } in
    record {
      columns = ap (columns_on new) (sym c.self.view_is) ∙ shows_columns new ids spots _ shows;
      stands = subst (StandsOn new) c.self.view_is (shows_stand new ids spots _ shows);
      views = subst (Exchanges old new m.views) (sym is) (set_views old mid new m.views ids traded ensures.kept writes);
      kept = set_kept old mid new m.views ids traded ensures.kept writes;
      held = set_held old mid new m.views ids traded ensures.kept writes _ ensures.held;
      sole = λ all. ((ensures.sole all).0, set_stays old mid new m.views ids traded ensures.kept writes (ensures.sole all).1);
      err = search rules;
    }
