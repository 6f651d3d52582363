use Rattle.{std.proofs.Common.{ℕ, ap, subst, arith, rules}, std.specs.{FinMap.{FinMap}, Ordering.{nat_cmp}}, block_pool.specs.{Pools.{total_of}}, block_manager.{specs.{Changes.{numbers_of}, Spots.{AreOn}}, proofs.{ManagerLaws.{renewed_columns, renewed_stands, renewed_views, renewed_kept, renewed_held}, RenewLaws.{still_live}, SpotLaws.{spots_on}, GridLaws.{numbers_long}}}}
use Rattle.block_manager.proofs.manager.Manager.remove_column.Goals as goal

pub renew-requires : goal.renew-requires
renew-requires c =
    let made = c.in_ok-made.made in
    let ids = numbers_of made.views.items in
    record {
      live = still_live c.args.pool.now c.without.new.pool ids c.args.self.now.views c.in_ok-made.ensures.lays c.requires.stands.live;
      on = subst (λ n. AreOn n made.spots.items) (numbers_long made.views.items) (spots_on c.without.new.pool ids made.spots.items c.in_ok-made.ensures.shows.stands);
    }

pub returns : goal.returns
returns c =
    let old = c.args.pool.now in
    let mid = c.without.new.pool in
    let new = c.renew.new.pool in
    let m = c.args.self.now in
    let after = c.renew.new.self in
    let made = c.in_ok-made.made in
    let ids = numbers_of made.views.items in
    let ensures = c.in_ok-made.ensures in
    record {
      columns = renewed_columns old mid new m after ids made.spots.items _ c.requires.stands ensures.lays ensures.shows c.renew.ensures.is c.renew.ensures.ended;
      stands = renewed_stands old mid new m after ids made.spots.items _ c.requires.stands ensures.lays ensures.shows c.renew.ensures.is c.renew.ensures.ended;
      views = renewed_views old mid new m after ids made.spots.items _ c.requires.stands ensures.lays ensures.shows c.renew.ensures.is c.renew.ensures.ended;
      kept = renewed_kept old mid new m after ids made.spots.items _ c.requires.stands ensures.lays ensures.shows c.renew.ensures.is c.renew.ensures.ended;
      held = renewed_held old mid new m after ids made.spots.items _ c.requires.stands ensures.lays ensures.shows c.renew.ensures.is c.renew.ensures.ended 0 (omega (arith, ap (λ (b : FinMap nat_cmp ℕ). total_of (record old { blocks = b })) ensures.blocks));
      err = search rules;
    }
