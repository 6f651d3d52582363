use Rattle.{std.proofs.Common.{◌∙◌, ◌<◌, ℕ, ap, subst, refl, arith, rules, length}, std.proofs.lemmas.List.{length-map}, std.specs.{Prelude.{remove}, FinMap.{FinMap}, Ordering.{nat_cmp}}, block_pool.specs.{Pools.{PoolValue, cells_of, total_of}}, block_manager.{specs.{declared.spots.Spot.{Spot}, Parts.{block_column}, Managed.{columns_on, placed_column}, Changes.{numbers_of, EndsEach}, Spots.{AreOn}}, proofs.{ManagerLaws.{put_lays, put_shows, put_held, put_columns, renewed_columns, renewed_stands, renewed_views, renewed_kept, renewed_held}, RenewLaws.{still_live}, LayLaws.{lays_gone}, SpotLaws.{spots_on}, GridLaws.{numbers_long}, LayoutLaws.{places_count}, AddingLaws.{stays_stands, stays_traded, stays_kept}}}}
use Rattle.block_manager.proofs.manager.Manager.put_column.Goals as goal

pub renew-requires : goal.renew-requires
renew-requires c =
    let old = c.args.pool.now in
    let m = c.args.self.now in
    let mid = c.without.new.pool in
    let added = c.add.new.self in
    let rest = c.in-Ok.ensures in
    let made = c.in-Ok.rest.views.items in
    let spots = c.in-Ok.rest.spots.items in
    let after = c.put_in.new.views.items in
    let after_spots = c.put_in.new.spots.items in
    let view = c.in-Ok-add.view in
    let cols = remove (columns_on old m) c.args.column in
    let first : Spot = record { view = 0; column = 0 } in
    let lays = put_lays mid added made after spots after_spots cols view c.args.block first rest.shows c.in-Ok-add.ensures.fresh c.in-Ok-add.ensures.ok c.requires.single refl c.args.column c.put_in.ensures.views c.put_in.ensures.spots old rest.lays in
    let shows = put_shows mid added made after spots after_spots cols view c.args.block first rest.shows c.in-Ok-add.ensures.fresh c.in-Ok-add.ensures.ok c.requires.single refl c.args.column c.put_in.ensures.views c.put_in.ensures.spots in
    record {
      live = still_live old added (numbers_of after) m.views lays c.requires.stands.live;
      on = subst (λ n. AreOn n after_spots) (numbers_long after) (spots_on added (numbers_of after) after_spots shows.stands);
    }

pub returns-in-Ok-add : goal.returns-in-Ok-add
returns-in-Ok-add c =
    let old = c.args.pool.now in
    let m = c.args.self.now in
    let mid = c.without.new.pool in
    let added = c.add.new.self in
    let new = c.renew.new.pool in
    let now = c.renew.new.self in
    let rest = c.in-Ok.ensures in
    let made = c.in-Ok.rest.views.items in
    let spots = c.in-Ok.rest.spots.items in
    let after = c.put_in.new.views.items in
    let after_spots = c.put_in.new.spots.items in
    let ids = numbers_of after in
    let view = c.in-Ok-add.view in
    let cols = remove (columns_on old m) c.args.column in
    let first : Spot = record { view = 0; column = 0 } in
    let lays = put_lays mid added made after spots after_spots cols view c.args.block first rest.shows c.in-Ok-add.ensures.fresh c.in-Ok-add.ensures.ok c.requires.single refl c.args.column c.put_in.ensures.views c.put_in.ensures.spots old rest.lays in
    let shows = put_shows mid added made after spots after_spots cols view c.args.block first rest.shows c.in-Ok-add.ensures.fresh c.in-Ok-add.ensures.ok c.requires.single refl c.args.column c.put_in.ensures.views c.put_in.ensures.spots in
    let held = put_held mid added made after spots after_spots cols view c.args.block first rest.shows c.in-Ok-add.ensures.fresh c.in-Ok-add.ensures.ok c.requires.single refl c.args.column c.put_in.ensures.views c.put_in.ensures.spots in
    let many = places_count old m c.self.inside.views.items c.self.inside.spots.items c.self.view_is c.self.invariant c.requires.stands in
    let below : c.args.column < length m.places = omega (arith, c.requires.column, c.if-column-len.false, c.len.ensures, many) in
    let lt : c.args.column < length (columns_on old m) = omega (arith, below, length-map m.places (placed_column old)) in
    record {
      columns = renewed_columns old added new m now ids after_spots _ c.requires.stands lays shows c.renew.ensures.is c.renew.ensures.ended ∙ put_columns (columns_on old m) c.args.column (block_column c.args.block) lt;
      stands = renewed_stands old added new m now ids after_spots _ c.requires.stands lays shows c.renew.ensures.is c.renew.ensures.ended;
      views = renewed_views old added new m now ids after_spots _ c.requires.stands lays shows c.renew.ensures.is c.renew.ensures.ended;
      kept = renewed_kept old added new m now ids after_spots _ c.requires.stands lays shows c.renew.ensures.is c.renew.ensures.ended;
      held = renewed_held old added new m now ids after_spots _ c.requires.stands lays shows c.renew.ensures.is c.renew.ensures.ended (cells_of c.args.block)
          (omega (arith, held, ap (λ (b : FinMap nat_cmp ℕ). total_of (record old { blocks = b })) rest.blocks));
      sole = λ last. absurd (omega (arith, last, below));
      err = search rules;
      returned = search rules;
    }

pub returns-in-Err-clause-err : goal.returns-in-Err-clause-err
returns-in-Err-clause-err c =
    let ids = numbers_of c.in-Ok.rest.views.items in
    (refl, lays_gone c.args.pool.now ids c.without.new.pool c.release_all.new.pool c.in-Ok.ensures.lays (subst (λ (p : PoolValue). EndsEach p ids c.release_all.new.pool) c.in-Err.ensures.err c.release_all.ensures))

pub returns-in-Err-clause-stands : goal.returns-in-Err-clause-stands
returns-in-Err-clause-stands c =
    let ids = numbers_of c.in-Ok.rest.views.items in
    let stays = lays_gone c.args.pool.now ids c.without.new.pool c.release_all.new.pool c.in-Ok.ensures.lays (subst (λ (p : PoolValue). EndsEach p ids c.release_all.new.pool) c.in-Err.ensures.err c.release_all.ensures) in
    stays_stands c.args.pool.now c.release_all.new.pool c.args.self.now stays c.requires.stands

pub returns-in-Err-clause-views : goal.returns-in-Err-clause-views
returns-in-Err-clause-views c =
    let ids = numbers_of c.in-Ok.rest.views.items in
    let stays = lays_gone c.args.pool.now ids c.without.new.pool c.release_all.new.pool c.in-Ok.ensures.lays (subst (λ (p : PoolValue). EndsEach p ids c.release_all.new.pool) c.in-Err.ensures.err c.release_all.ensures) in
    stays_traded c.args.pool.now c.release_all.new.pool c.args.self.now.views stays

pub returns-in-Err-clause-kept : goal.returns-in-Err-clause-kept
returns-in-Err-clause-kept c =
    let ids = numbers_of c.in-Ok.rest.views.items in
    let stays = lays_gone c.args.pool.now ids c.without.new.pool c.release_all.new.pool c.in-Ok.ensures.lays (subst (λ (p : PoolValue). EndsEach p ids c.release_all.new.pool) c.in-Err.ensures.err c.release_all.ensures) in
    stays_kept c.args.pool.now c.release_all.new.pool c.args.self.now.views stays
