use Rattle.{std.proofs.Common.{◌≡◌, ◌<◌, ◌∙◌, ◌++◌, ◌+◌, ◌∷◌, [], List, ℕ, refl, ap, sym, subst, arith, length, take, get_or, All}, std.proofs.lemmas.{Bool.{false≢true}, List.{get_or-map, take_all, take_more}, List.Elements.{All-push}}, std.specs.Prelude.{slice_index_or}, block_pool.specs.{declared.views.ViewId.{ViewId}, Pools.{IsLive}}, block_manager.{specs.{Changes.{numbers_of}, Groups.{IsFilled}}, proofs.GridLaws.{numbers_long}}}
use Rattle.block_manager.proofs.groups.are_filled.Goals as goal

number_at : (views : List ViewId) (k : ℕ) → k < length views → get_or (numbers_of views) k 0 ≡ (slice_index_or views k record { 0 = 0 }).0
number_at views k lt = get_or-map (λ (v : ViewId). v.0) views k record { 0 = 0 } 0 lt

pub is_filled-requires : goal.is_filled-requires
is_filled-requires c =
    let views = c.args.views.now in
    let lt : c.loop-k.k < length views = omega arith in
    subst (IsLive c.args.pool.now) (number_at views c.loop-k.k lt) (c.requires c.loop-k.k 0 (omega (arith, lt, numbers_long views)))

pub returns-then-not-is_filled : goal.returns-then-not-is_filled
returns-then-not-is_filled c =
    let views = c.args.views.now in
    let lt : c.loop-k.k < length views = omega arith in (
      λ e. absurd (false≢true e),
      λ all. absurd (false≢true (sym c.if-not-is_filled.true ∙ c.is_filled.ensures.1 (subst (IsFilled c.args.pool.now) (number_at views c.loop-k.k lt) (all c.loop-k.k 0 (omega (arith, lt, numbers_long views)))))),
    )

pub loop-k-preserved : goal.loop-k-preserved
loop-k-preserved c =
    let views = c.args.views.now in
    let ids = numbers_of views in
    let k = c.loop-k.k in
    let lt : k < length views = omega arith in
    let v : ℕ = (slice_index_or views k record { 0 = 0 }).0 in
    let more : take (k + 1) ids ≡ take k ids ++ v ∷ [] = take_more ids k 0 (omega (arith, lt, numbers_long views)) ∙ ap (λ (n : ℕ). take k ids ++ n ∷ []) (number_at views k lt) in
    subst (All (IsFilled c.args.pool.now)) (sym more) (All-push (IsFilled c.args.pool.now) (take k ids) v c.loop-k.invariant (c.is_filled.ensures.0 c.if-not-is_filled.false))

pub returns : goal.returns
returns c =
    let all = subst (All (IsFilled c.args.pool.now)) (take_all c.loop-k.k (numbers_of c.args.views.now) (omega (arith, numbers_long c.args.views.now))) c.loop-k.invariant in
    (λ e. all, λ a. refl)
