use Rattle.{std.proofs.Common.{◌≡◌, ◌∙◌, ◌≤◌, ◌++◌, ◌∷◌, [], List, refl, ap, sym, subst, arith, length, map}, std.specs.Prelude.{vec_capacity}, block_pool.specs.{declared.views.ViewId.{ViewId}, Pools.{grid_at, beside, CanJoin, Joins}}, block_manager.{specs.{Changes.{numbers_of}, Groups.{group_seen}}, proofs.{GridLaws.{numbers_push}, JoinedLaws.{group_can, group_joins, group_same, group_width}}}}
use Rattle.block_manager.proofs.groups.join.Goals as goal

nothing : {X : Type 0} (xs : List X) → length xs ≡ 0 → xs ≡ []
nothing [] e = refl
nothing (x ∷ xs) e = absurd (omega (arith, e))

pub returns-then-len-eq0 : goal.returns-then-len-eq0
returns-then-len-eq0 c =
    let old = c.args.pool.now in
    let first = c.pop.new.self.items in
    let last = c.in-Some.last in
    let is : numbers_of c.args.group.views.items ≡ numbers_of first ++ last.0 ∷ [] = ap numbers_of c.in-Some.ensures.items ∙ numbers_push first last in
    let none : first ≡ [] = nothing first (omega (arith, c.len.ensures, c.if-len-eq0.true)) in
    group_same old old (group_seen c.args.group) (numbers_of first) last.0 is c.requires.group (ap numbers_of none) refl

pub join-requires : goal.join-requires
join-requires c =
    let old = c.args.pool.now in
    let first = c.pop.new.self.items in
    let last = c.in-Some.last in
    let is : numbers_of c.args.group.views.items ≡ numbers_of first ++ last.0 ∷ [] = ap numbers_of c.in-Some.ensures.items ∙ numbers_push first last in
    record {
      views = subst (λ (vs : List ViewId). CanJoin old (numbers_of vs) last.0) (sym c.deref.ensures.value) (group_can old old (group_seen c.args.group) (numbers_of first) last.0 is c.requires.group);
      empty = c.requires.room.0;
      room = subst (λ (vs : List ViewId). length (beside (map (grid_at old) (numbers_of vs)) (grid_at old last.0)).columns ≤ vec_capacity c.args.group.room) (sym c.deref.ensures.value)
          (omega (arith, group_width old old (group_seen c.args.group) (numbers_of first) last.0 is c.requires.group, c.requires.count, c.requires.room.1));
    }

pub returns : goal.returns
returns c =
    let old = c.args.pool.now in
    let new = c.join.new.self in
    let first = c.pop.new.self.items in
    let last = c.in-Some.last in
    let is : numbers_of c.args.group.views.items ≡ numbers_of first ++ last.0 ∷ [] = ap numbers_of c.in-Some.ensures.items ∙ numbers_push first last in
    group_joins old new (group_seen c.args.group) (numbers_of first) last.0 is c.requires.group (subst (λ (vs : List ViewId). Joins old new (numbers_of vs) last.0) c.deref.ensures.value c.join.ensures.joins) c.join.ensures.held
