use Rattle.{std.proofs.Common.{◌≡◌, ◌∙◌, ◌<◌, ◌+◌, ◌++◌, ℕ, List, Result, Ok, Err, OnOk, OnErr, ap, sym, subst, arith, rules, length}, std.proofs.lemmas.{List.{length-map}}, std.specs.{Prelude.{remove}, FinMap.{FinMap}, Ordering.{nat_cmp}}, meaning_tables.specs.{Table.{column_at}}, block_pool.specs.{declared.views.ViewId.{ViewId}, Pools.{PoolValue, live_count, total_of}}, block_manager.{specs.{Changes.{numbers_of}, Managed.{ManagerValue, AreLive, Exchanges, StandsOn, columns_on, placed_column, times}, Spots.{TakesLast}}, proofs.{ManagerLaws.{took_on, took_columns, took_stands, took_views, took_kept, put_columns}, RenewLaws.{still_live, renew_held}, LayoutLaws.{inner_shows, places_count, views_are}}}}
use Rattle.block_manager.proofs.manager.Manager.take_column.Goals as goal

-- what was put last, where memory wasn't refused
taken_stands : {X E : Type 0} (r : Result X E) (pool : PoolValue) (old from new : ManagerValue) → OnOk r ((p : PoolValue) → StandsOn p old → StandsOn p from → AreLive p (old.views ++ from.views) → TakesLast p old from new) → OnErr r (new ≡ old)
    → StandsOn pool old → StandsOn pool from → AreLive pool (old.views ++ from.views) → StandsOn pool new
taken_stands (Ok x) pool old from new ok err stands others live = (ok pool stands others live).stands
taken_stands (Err e) pool old from new ok err stands others live = subst (StandsOn pool) (sym err) stands

taken_views : {X E : Type 0} (r : Result X E) (pool : PoolValue) (old from new : ManagerValue) → OnOk r ((p : PoolValue) → StandsOn p old → StandsOn p from → AreLive p (old.views ++ from.views) → TakesLast p old from new)
    → StandsOn pool old → StandsOn pool from → AreLive pool (old.views ++ from.views) → OnOk r (Exchanges pool pool (old.views ++ from.views) new.views)
taken_views (Ok x) pool old from new ok stands others live = λ q. ap (λ (vs : List ℕ). live_count pool q + times q vs) (ok pool stands others live).views
taken_views (Err e) pool old from new ok stands others live = ok

pub returns-then-column-len-clause-stands : goal.returns-then-column-len-clause-stands
returns-then-column-len-clause-stands c =
    taken_stands c.append_from.result c.args.pool.now c.args.self.now c.args.from c.append_from.new.self c.append_from.ensures.ok c.append_from.ensures.err c.requires.stands c.requires.from c.requires.apart

pub returns-then-column-len-clause-views : goal.returns-then-column-len-clause-views
returns-then-column-len-clause-views c =
    taken_views c.append_from.result c.args.pool.now c.args.self.now c.args.from c.append_from.new.self c.append_from.ensures.ok c.requires.stands c.requires.from c.requires.apart

pub renew-requires : goal.renew-requires
renew-requires c =
    let old = c.args.pool.now in
    let mid = c.without.new.pool in
    let m = c.args.self.now in
    let from = c.args.from in
    let made = c.in-Ok.rest.views.items in
    let spots = c.in-Ok.rest.spots.items in
    let others = c.from.inside.views.items in
    let from_spots = c.from.inside.spots.items in
    let s = c.index.result.now in
    let e = c.in-Ok.ensures in
    let views_now : c.put_in.new.views.items ≡ made ++ others = c.put_in.ensures.views ∙ ap (λ (l : List ViewId). made ++ l) c.deref.ensures.value in
    let one : length from_spots ≡ 1 = sym (places_count old from others from_spots c.from.view_is c.from.invariant c.requires.from) ∙ c.requires.one in
    record {
      live = still_live old mid (numbers_of made) m.views e.lays c.requires.stands.live;
      on = took_on old mid m from made others c.put_in.new.views.items spots c.put_in.new.spots.items from_spots (remove (columns_on old m) c.args.column) s e.lays e.shows
          (inner_shows old from others from_spots c.from.view_is c.from.invariant c.requires.from) one c.index.ensures (views_are old from others from_spots c.from.view_is c.from.invariant c.requires.from) c.requires.apart c.args.column views_now c.put_in.ensures.spots;
    }

pub returns : goal.returns
returns c =
    let old = c.args.pool.now in
    let mid = c.without.new.pool in
    let new = c.renew.new.pool in
    let m = c.args.self.now in
    let from = c.args.from in
    let after = c.renew.new.self in
    let made = c.in-Ok.rest.views.items in
    let spots = c.in-Ok.rest.spots.items in
    let others = c.from.inside.views.items in
    let from_spots = c.from.inside.spots.items in
    let s = c.index.result.now in
    let e = c.in-Ok.ensures in
    let cols = remove (columns_on old m) c.args.column in
    let views_now : c.put_in.new.views.items ≡ made ++ others = c.put_in.ensures.views ∙ ap (λ (l : List ViewId). made ++ l) c.deref.ensures.value in
    let one : length from_spots ≡ 1 = sym (places_count old from others from_spots c.from.view_is c.from.invariant c.requires.from) ∙ c.requires.one in
    let seen = inner_shows old from others from_spots c.from.view_is c.from.invariant c.requires.from in
    let is = views_are old from others from_spots c.from.view_is c.from.invariant c.requires.from in
    let many = places_count old m c.self.inside.views.items c.self.inside.spots.items c.self.view_is c.self.invariant c.requires.stands in
    let lt : c.args.column < length (columns_on old m) = omega (arith, c.requires.column, c.if-column-len.false, c.len.ensures, many, length-map m.places (placed_column old)) in
    record {
      columns = took_columns old mid m from made others c.put_in.new.views.items spots c.put_in.new.spots.items from_spots cols s e.lays e.shows seen one c.index.ensures is c.requires.apart c.args.column views_now c.put_in.ensures.spots new after c.renew.ensures.is c.renew.ensures.ended
          ∙ put_columns (columns_on old m) c.args.column (column_at (columns_on old from) 0) lt;
      stands = took_stands old mid m from made others c.put_in.new.views.items spots c.put_in.new.spots.items from_spots cols s e.lays e.shows seen one c.index.ensures is c.requires.apart c.args.column views_now c.put_in.ensures.spots new after c.renew.ensures.is c.renew.ensures.ended;
      views = took_views old mid m from made others c.put_in.new.views.items spots c.put_in.new.spots.items from_spots cols s e.lays e.shows seen one c.index.ensures is c.requires.apart c.args.column views_now c.put_in.ensures.spots new after c.renew.ensures.is c.renew.ensures.ended;
      kept = took_kept old mid m from made others c.put_in.new.views.items spots c.put_in.new.spots.items from_spots cols s e.lays e.shows seen one c.index.ensures is c.requires.apart c.args.column views_now c.put_in.ensures.spots new after c.renew.ensures.is c.renew.ensures.ended;
      held = renew_held old mid new (numbers_of made) m.views e.lays c.requires.stands.live c.renew.ensures.ended 0 (omega (arith, ap (λ (b : FinMap nat_cmp ℕ). total_of (record old { blocks = b })) e.blocks));
      err = search rules;
      returned = search rules;
    }
