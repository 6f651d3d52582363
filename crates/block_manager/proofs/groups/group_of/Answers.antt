use Rattle.cell_core.specs.contracts.cell.Kind.{the_type}
use denote.Enum.Bare.{same_false}
use Rattle.{
  std.proofs.Common.{◌≡◌, ◌≢◌, ◌<◌, ◌∙◌, ◌++◌, ◌+◌, ◌-◌, ◌∷◌, [], List, All, ap, sym, subst, arith, length, take},
  std.proofs.lemmas.{List.{map_more, take_all}, List.Elements.{All-push}},
  block_pool.specs.declared.views.ViewId.{ViewId},
  block_manager.{specs.{declared.groups.Group.{Group}, Changes.{numbers_of}, Groups.{GroupValue, no_views, group_seen, groups_seen}}, proofs.EnterLaws.{group_begun}},
}
use Rattle.block_manager.proofs.groups.group_of.Goals as goal

pub loop-place-preserved : goal.loop-place-preserved
loop-place-preserved c =
    let groups = c.args.groups.now.items in
    let p = c.loop-place.place in
    let g = c.index.result.now in
    let kind = c.args.kind in
    let lt : p < length groups = omega arith in
    let more : groups_seen (take (p + 1) groups) ≡ groups_seen (take p groups) ++ group_seen g ∷ [] =
    map_more group_seen groups p g lt ∙ ap (λ (x : Group). groups_seen (take p groups) ++ group_seen x ∷ []) (sym c.index.ensures) in
    subst (All (λ (x : GroupValue). x.kind ≢ kind)) (sym more)
    (All-push (λ (x : GroupValue). x.kind ≢ kind) (groups_seen (take p groups)) (group_seen g) c.loop-place.invariant (same_false the_type g.kind kind (sym c.eq.ensures ∙ c.if-eq.false)))

pub returns-clause-has : goal.returns-clause-has
returns-clause-has c =
    let groups = c.args.groups.now.items in
    let kind = c.args.kind in
    let g : Group = record { kind = kind; views = c.new.result; count = 0; room = c.new-2.result } in
    let new : group_seen g ≡ no_views kind = ap (λ (vs : List ViewId). record { kind = kind; views = numbers_of vs; count = 0 }) c.new.ensures.items in
    let last : c.len.result - 1 ≡ length groups = omega (arith, c.len.ensures, c.in_ok-push.ensures.len) in
    let none : All (λ (x : GroupValue). x.kind ≢ kind) (groups_seen groups) = subst (λ (gs : List Group). All (λ (x : GroupValue). x.kind ≢ kind) (groups_seen gs)) (take_all c.loop-place.place groups (omega arith)) c.loop-place.invariant in
    group_begun groups c.push.new.self.items g kind (c.len.result - 1) c.in_ok-push.ensures.items new last none
