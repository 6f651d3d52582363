use Rattle.{std.proofs.Common.{◌≡◌, ◌<◌, ◌∙◌, ◌++◌, ◌+◌, ◌^◌, ◌∷◌, [], List, ℕ, refl, ap, ap₂, sym, subst, arith, length, slice_set}, std.proofs.lemmas.{List.{length-map, get_or-map}, List.Elements.{All-set}}, cell_core.specs.declared.cell.{Kind.{Kind}, Kind.TheVariants.{Int64}}, block_pool.specs.{Pools.{grid_at}}, block_manager.{specs.{declared.groups.Group.{Group}, Changes.{numbers_of}, Groups.{GroupValue, HasGroup, no_views, group_at, group_seen, groups_seen, with_view}}, proofs.{GridLaws.{numbers_push}, EnterLaws.{view_entered}}}}
use Rattle.block_manager.proofs.groups.enter.Goals as goal

pub returns : goal.returns
returns c =
    let old = groups_seen c.args.groups.now.items in
    let grids = grid_at c.args.pool.now in
    let view = c.args.view in
    let groups = c.group_of.new.groups.items in
    let place = c.in_ok-place.place in
    let group = c.index_mut-group.result.now in
    let width : ℕ = length (grids view.0).columns in
    let g : Group = record { kind = group.kind; views = c.push.new.self; count = c.in-Some.count; room = group.room } in
    let has : HasGroup old (groups_seen groups) (grids view.0).kind place = subst (λ (k : Kind). HasGroup old (groups_seen groups) k place) c.kind.ensures c.in_ok-place.ensures.has in
    let lt : place < length groups = omega (arith, has.there, length-map groups group_seen) in
    let at_group : group_at (groups_seen groups) place ≡ group_seen group = get_or-map group_seen groups place group (no_views Int64) lt ∙ ap group_seen (sym c.index_mut-group.ensures.value) in
    let count : c.in-Some.count ≡ group.count + width = grind arith in
    let numbers : numbers_of c.push.new.self.items ≡ numbers_of group.views.items ++ view.0 ∷ [] = ap numbers_of c.in_ok-push.ensures.items ∙ numbers_push group.views.items view in
    let seen : group_seen g ≡ with_view (group_at (groups_seen groups) place) view.0 width =
    ap₂ (λ (vs : List ℕ) (n : ℕ). record { kind = group.kind; views = vs; count = n }) numbers count ∙ ap (λ (x : GroupValue). with_view x view.0 width) (sym at_group) in
    let few : group.count + width < 2 ^ 64 = omega arith in
    let empty : group.room.items ≡ [] = ap (λ (x : Group). x.room.items) c.index_mut-group.ensures.value ∙ c.in_ok-place.ensures.empty place group lt in
    record {
      enters = view_entered grids view.0 old groups (slice_set groups place g) place group.count g has refl seen (ap (λ (x : GroupValue). x.count) (sym at_group)) few;
      empty = All-set (λ (x : Group). x.room.items ≡ []) groups place g empty c.in_ok-place.ensures.empty;
    }
