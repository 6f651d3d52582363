use Rattle.{std.proofs.Common.{◌≡◌, ◌<◌, ◌≤◌, ◌∙◌, ◌++◌, ◌+◌, ◌∷◌, [], List, ℕ, ap, sym, subst, arith, length, take, slice_set, slice_index_or, length-set, get_or-set_same, get_or-set_other, inl, inr}, std.proofs.lemmas.{Bool.{cases_eq}, List.{length-map, get_or-map, take_more}, List.Elements.{All-set}}, std.specs.Prelude.{vec_capacity}, block_pool.specs.{declared.views.ViewId.{ViewId}, Pools.{IsLive, grid_at}}, block_manager.{specs.{declared.{groups.Group.{Group}}, Changes.{numbers_of}, Groups.{GroupValue, AreGroups, AreSorted, AreTargets, HasRoom, group_seen, groups_seen}}, proofs.{GridLaws.{numbers_long}, EnterLaws.{sorted_more, targets_more, some_more, groups_more, room_made}}}}
use Rattle.block_manager.proofs.groups.grouped.Goals as goal

pub enter-requires-clause-live : goal.enter-requires-clause-live
enter-requires-clause-live c =
    let views = c.args.views.now in
    let k = c.loop-k.k in
    let lt : k < length views = omega arith in
    subst (IsLive c.args.pool.now) (get_or-map (λ (v : ViewId). v.0) views k record { 0 = 0 } 0 lt) (c.requires k 0 (omega (arith, lt, numbers_long views)))

pub loop-k-preserved : goal.loop-k-preserved
loop-k-preserved c =
    let grids = grid_at c.args.pool.now in
    let views = c.args.views.now in
    let ids = numbers_of views in
    let k = c.loop-k.k in
    let lt : k < length views = omega arith in
    let view : ℕ = (slice_index_or views k record { 0 = 0 }).0 in
    let old = groups_seen c.loop-k.groups.items in
    let new = groups_seen c.enter.new.groups.items in
    let targets = c.loop-k.targets.items in
    let target = c.in_ok-target.target in
    let inv = c.loop-k.invariant in
    let enters = c.in_ok-target.ensures.enters in
    let more : take (k + 1) ids ≡ take k ids ++ view ∷ [] = take_more ids k 0 (omega (arith, lt, numbers_long views)) ∙ ap (λ (v : ℕ). take k ids ++ v ∷ []) (get_or-map (λ (v : ViewId). v.0) views k record { 0 = 0 } 0 lt) in
    record {
      sorted = subst (λ (vs : List ℕ). AreSorted grids vs new) (sym more) (sorted_more grids (take k ids) old new targets view target enters inv.sorted inv.targets_are);
      targets_are = subst (λ (vs : List ℕ). AreTargets grids vs new c.push.new.self.items) (sym more)
          (subst (AreTargets grids (take k ids ++ view ∷ []) new) (sym c.in_ok-push.ensures.items) (targets_more grids (take k ids) old new targets view target enters inv.sorted inv.targets_are));
      some = some_more grids (take k ids) old new targets view target enters inv.sorted inv.targets_are inv.some;
      fewer = omega (arith, inv.fewer, groups_more grids (take k ids) old new targets view target enters inv.sorted inv.targets_are, length-map c.loop-k.groups.items group_seen, length-map c.enter.new.groups.items group_seen);
      empty = c.in_ok-target.ensures.empty;
    }

pub loop-place-preserved : goal.loop-place-preserved
loop-place-preserved c =
    let ids = numbers_of c.args.views.now in
    let groups = c.loop-place.groups.items in
    let p = c.loop-place.place in
    let group = c.index_mut-group.result.now in
    let g : Group = record { kind = group.kind; views = group.views; count = group.count; room = c.reserve.new.self } in
    let lt : p < length groups = omega (arith, c.loop-place.invariant.long) in
    let value = c.index_mut-group.ensures.value in
    let inv = c.loop-place.invariant in
    let was : group.room.items ≡ [] = ap (λ (x : Group). x.room.items) value ∙ inv.empty p group lt in
    let empty : c.reserve.new.self.items ≡ [] = c.in_ok-reserve.ensures.items ∙ was in
    let enough : group.count ≤ vec_capacity c.reserve.new.self = omega (arith, c.in_ok-reserve.ensures.ok) in
    record {
      groups = subst (λ (gs : List GroupValue). AreGroups (grid_at c.args.pool.now) ids gs c.loop-k.targets.items) (sym (room_made groups p g group lt (ap group_seen value))) inv.groups;
      long = length-set groups p g ∙ inv.long;
      empty = All-set (λ (x : Group). x.room.items ≡ []) groups p g empty inv.empty;
      rooms = λ k d below. elim (cases_eq k p) [
        | inl e ↦ subst HasRoom (sym (ap (λ (i : ℕ). slice_index_or (slice_set groups p g) i d) e ∙ get_or-set_same groups p g d lt)) (empty, enough)
        | inr ne ↦ subst HasRoom (sym (get_or-set_other groups p k g d ne)) (inv.rooms k d (omega (arith, below, ne)))
      ];
    }

pub returns-clause-room : goal.returns-clause-room
returns-clause-room c = λ k d lt. c.loop-place.invariant.rooms k d (omega (arith, lt, c.loop-place.invariant.long))
