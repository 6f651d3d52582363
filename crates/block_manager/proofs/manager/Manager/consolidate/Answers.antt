use Rattle.{std.proofs.Common.{◌∙◌, ℕ, List, All, ap, sym, subst, refl, arith, rules, length}, cell_core.specs.declared.cell.Cell.{Cell}, meaning_tables.specs.Table.{ColumnOf}, block_pool.specs.{declared.views.ViewId.{ViewId}, Pools.{IsLive, grid_at}}, block_manager.{specs.{Parts.{HaveRows}, Managed.{rows_of}, Changes.{numbers_of}, Groups.{AreGroups, IsFilled, groups_seen}}, proofs.{TimesLaws.{live_in}, GridLaws.{numbers_long}, LayoutLaws.{inner, views_are}, ManagerLaws.{joined_few}, RenewLaws.{then_views, then_kept}}}}
use Rattle.block_manager.proofs.manager.Manager.consolidate.Goals as goal

pub returns-then-len-lt2 : goal.returns-then-len-lt2
returns-then-len-lt2 c =
    let old = c.args.pool.now in
    let m = c.args.self.now in
    let views = c.self.inside.views.items in
    let is = views_are old m views c.self.inside.spots.items c.self.view_is c.self.invariant c.requires.stands in
    record {
      columns = refl;
      stands = c.requires.stands;
      views = λ q. refl;
      kept = λ q none one. refl;
      held = omega arith;
      joined = joined_few old m c.requires.stands (omega (arith, c.if-len-lt2.true, c.len.ensures, ap length is, numbers_long views));
      err = search rules;
    }

pub are_filled-requires : goal.are_filled-requires
are_filled-requires c =
    let old = c.args.pool.now in
    let views = c.self.inside.views.items in
    let there = inner old c.args.self.now views c.self.inside.spots.items c.self.view_is c.self.invariant c.requires.stands in
    subst (λ (vs : List ViewId). All (IsLive old) (numbers_of vs)) (sym c.deref.ensures.value) (λ k d lt. live_in old (numbers_of views) k d there.live lt)

pub grouped-requires : goal.grouped-requires
grouped-requires c =
    let old = c.args.pool.now in
    let views = c.self.inside.views.items in
    let there = inner old c.args.self.now views c.self.inside.spots.items c.self.view_is c.self.invariant c.requires.stands in
    subst (λ (vs : List ViewId). All (IsLive old) (numbers_of vs)) (sym c.deref-then-are_filled.ensures.value) (λ k d lt. live_in old (numbers_of views) k d there.live lt)

pub join-requires : goal.join-requires
join-requires c =
    let old = c.args.pool.now in
    let m = c.args.self.now in
    let views = c.self.inside.views.items in
    let groups = c.in_ok-groups.groups in
    let is = views_are old m views c.self.inside.spots.items c.self.view_is c.self.invariant c.requires.stands in
    record {
      stands = c.requires.stands;
      sole = c.requires.sole;
      filled = subst (All (IsFilled old)) (ap numbers_of c.deref.ensures.value ∙ sym is) (c.are_filled.ensures.0 c.if-are_filled.true);
      rows = c.requires.rows;
      groups = subst (λ (vs : List ℕ). AreGroups (grid_at old) vs (groups_seen groups.groups.items) groups.targets.items) (ap numbers_of c.deref-then-are_filled.ensures.value ∙ sym is) c.in_ok-groups.ensures.groups;
      rooms = c.in_ok-groups.ensures.room;
    }

pub join-requires-2 : goal.join-requires-2
join-requires-2 c =
    let e = c.in_ok-groups-2.ensures in
    let m = c.args.self.now in
    record {
      stands = e.stands;
      sole = e.sole;
      filled = e.filled;
      rows = subst (λ (cs : List (ColumnOf Cell)). HaveRows (rows_of cs) cs) (sym e.columns) c.requires.rows;
      groups = e.groups;
      rooms = e.rooms;
    }

pub returns-then-are_filled : goal.returns-then-are_filled
returns-then-are_filled c =
    let e = c.join.ensures in
    record {
      columns = e.columns;
      stands = e.stands;
      views = e.views;
      kept = e.kept;
      held = omega (arith, e.held);
      joined = e.joined;
      err = search rules;
    }

pub returns : goal.returns
returns c =
    let old = c.args.pool.now in
    let mid = c.own_all.new.pool in
    let new = c.join-2.new.pool in
    let m = c.args.self.now in
    let between = c.own_all.new.self in
    let a = c.in_ok-groups-2.ensures in
    let b = c.join-2.ensures in
    record {
      columns = b.columns ∙ a.columns;
      stands = b.stands;
      views = then_views old mid new m.views between.views c.join-2.new.self.views a.views b.views;
      kept = then_kept old mid new m.views between.views a.views a.kept b.kept;
      held = omega (arith, a.held, b.held);
      joined = b.joined;
      err = search rules;
    }
