use Rattle.{std.proofs.Common.{◌≡◌, ◌∙◌, ◌≤◌, ◌++◌, ◌∷◌, [], ℕ, List, All, ap, sym, subst, arith, length, append_assoc}, std.proofs.lemmas.{List.Elements.{All-tail}}, block_pool.specs.{declared.views.ViewId.{ViewId}, Pools.{grid_at, live_count}}, block_manager.{specs.{declared.groups.Group.{Group}, Changes.{numbers_of}, Groups.{GroupValue, HasRoom, IsGroup, group_columns, group_seen, groups_seen, times_in}}, proofs.{GridLaws.{numbers_push}, JoinedLaws.{AreJoinedSo, joined_start, joined_more, group_still, columns_still}}}}
use Rattle.block_manager.proofs.groups.join_all.Goals as goal

middle : {X : Type 0} (P : X → Type 0) (done rest : List X) (g : X) → All P (done ++ g ∷ rest) → P g
middle P [] rest g all = all 0 g (omega arith)
middle P (x ∷ done) rest g all = middle P done rest g (All-tail P x (done ++ g ∷ rest) all)

pub loop-group-init : goal.loop-group-init
loop-group-init c =
    let old = c.args.pool.now in
    let rest = c.into_iter-group-iterator.result.rest.items in
    let e : rest ≡ c.args.groups.items = c.into_iter-group-iterator.ensures.into_iter_gives.0 in (
      [],
      ap groups_seen e,
      subst (λ (vs : List ViewId). AreJoinedSo old old [] (groups_seen rest) (numbers_of vs)) (sym c.requires.empty) (joined_start old (groups_seen rest)),
      subst (All HasRoom) (sym e) c.requires.rooms,
      omega (arith, c.requires.room, ap length e, ap length c.requires.empty),
    )

pub join-view-requires : goal.join-view-requires
join-view-requires c =
    let old = c.args.pool.now in
    let now = c.loop-group.pool in
    let inv = c.loop-group.invariant in
    let done = inv.0 in
    let g = c.in-Some.group in
    let rest = c.next.new.self.rest.items in
    let left = numbers_of c.loop-group.list.items in
    let step : c.loop-group.group-iterator.rest.items ≡ g ∷ rest = c.in-Some.ensures.steps.0 in
    let whole : done ++ group_seen g ∷ groups_seen rest ≡ groups_seen c.args.groups.items = ap (λ (gs : List Group). done ++ groups_seen gs) (sym step) ∙ inv.1 in
    let so_far : AreJoinedSo old now done (group_seen g ∷ groups_seen rest) left = subst (λ (gs : List Group). AreJoinedSo old now done (groups_seen gs) left) step inv.2 in
    let apart : (q : ℕ) → times_in q (done ++ group_seen g ∷ groups_seen rest) ≤ live_count old q = λ q. omega (arith, c.requires.apart q, ap (times_in q) whole) in
    let group : IsGroup old (group_seen g) = middle (IsGroup old) done (groups_seen rest) (group_seen g) (subst (All (IsGroup old)) (sym whole) c.requires.groups) in
    let count : g.count ≡ length (group_columns (grid_at old) (group_seen g)) = middle (λ (x : GroupValue). x.count ≡ length (group_columns (grid_at old) x)) done (groups_seen rest) (group_seen g)
    (subst (All (λ (x : GroupValue). x.count ≡ length (group_columns (grid_at old) x))) (sym whole) c.requires.counts) in
    let rooms : All HasRoom (g ∷ rest) = subst (All HasRoom) step inv.3 in
    record {
      group = group_still old now done (groups_seen rest) left (group_seen g) so_far apart group;
      room = rooms 0 g (omega arith);
      count = count ∙ sym (columns_still old now done (groups_seen rest) left (group_seen g) so_far apart group);
    }

pub loop-group-preserved : goal.loop-group-preserved
loop-group-preserved c =
    let old = c.args.pool.now in
    let now = c.loop-group.pool in
    let new = c.join-view.new.pool in
    let view = c.join-view.result in
    let inv = c.loop-group.invariant in
    let done = inv.0 in
    let g = c.in-Some.group in
    let rest = c.next.new.self.rest.items in
    let list = c.loop-group.list.items in
    let left = numbers_of list in
    let step : c.loop-group.group-iterator.rest.items ≡ g ∷ rest = c.in-Some.ensures.steps.0 in
    let whole : done ++ group_seen g ∷ groups_seen rest ≡ groups_seen c.args.groups.items = ap (λ (gs : List Group). done ++ groups_seen gs) (sym step) ∙ inv.1 in
    let so_far : AreJoinedSo old now done (group_seen g ∷ groups_seen rest) left = subst (λ (gs : List Group). AreJoinedSo old now done (groups_seen gs) left) step inv.2 in
    let apart : (q : ℕ) → times_in q (done ++ group_seen g ∷ groups_seen rest) ≤ live_count old q = λ q. omega (arith, c.requires.apart q, ap (times_in q) whole) in
    let group : IsGroup old (group_seen g) = middle (IsGroup old) done (groups_seen rest) (group_seen g) (subst (All (IsGroup old)) (sym whole) c.requires.groups) in
    let rooms : All HasRoom (g ∷ rest) = subst (All HasRoom) step inv.3 in (
      done ++ group_seen g ∷ [],
      append_assoc done (group_seen g ∷ []) (groups_seen rest) ∙ whole,
      subst (AreJoinedSo old new (done ++ group_seen g ∷ []) (groups_seen rest)) (sym (ap numbers_of c.append.ensures.items ∙ numbers_push list view))
          (joined_more old now done (groups_seen rest) left (group_seen g) so_far apart group new view.0 c.join-view.ensures),
      All-tail HasRoom g rest rooms,
      omega (arith, inv.4, c.append.ensures.len, c.append.ensures.capacity, ap length step),
    )
