use Rattle.{std.proofs.Common.{◌≡◌, ◌<◌, ◌∙◌, ◌++◌, ◌+◌, ◌∷◌, [], refl, ap, sym, subst, arith, rules, length, take}, std.proofs.lemmas.{Bool.{false≢true}, List.{take_all, take_more}, List.Elements.{All-push}, Option.{get_or_from_slice_get, slice_get_within}}, std.specs.Prelude.{slice_index}, block_pool.specs.Pools.{IsSole}, block_manager.{specs.{Changes.{numbers_of}, Spots.{AreAloneAt, spot_at}}, proofs.{GridLaws.{numbers_long}, SpotLaws.{spots_on}, PlanLaws.{s0}, CellLaws.{set_live, set_sole, sole_back}, WritingLaws.{holds_at}}}}
use Rattle.block_manager.proofs.setting.are_sole.Goals as goal

pub bounds-views-spot : goal.bounds-views-spot
bounds-views-spot c =
    let spots = c.args.spots.now in
    let below = holds_at (λ p. p < length spots) c.args.places.now c.loop-k.k c.at.result.now c.requires.places c.at.ensures in
    omega (arith, spots_on c.args.pool.now (numbers_of c.args.views.now) spots c.requires.stands c.at.result.now s0 below, numbers_long c.args.views.now)

pub offset_bounds-views-spot : goal.offset_bounds-views-spot
offset_bounds-views-spot c =
    let spots = c.args.spots.now in
    let below = holds_at (λ p. p < length spots) c.args.places.now c.loop-k.k c.at.result.now c.requires.places c.at.ensures in
    let lt : (spot_at spots c.at.result.now).view < length c.args.views.now = omega (arith, spots_on c.args.pool.now (numbers_of c.args.views.now) spots c.requires.stands c.at.result.now s0 below, numbers_long c.args.views.now) in
    search rules

pub sole-requires : goal.sole-requires
sole-requires c =
    let lt = holds_at (λ p. p < length c.args.spots.now) c.args.places.now c.loop-k.k c.at.result.now c.requires.places c.at.ensures in
    set_live c.args.pool.now c.args.views.now c.args.spots.now c.at.result.now c.requires.stands lt

pub returns-then-not-sole : goal.returns-then-not-sole
returns-then-not-sole c =
    let old = c.args.pool.now in
    let views = c.args.views.now in
    let spots = c.args.spots.now in
    let places = c.args.places.now in
    let p = c.at.result.now in
    let lt = holds_at (λ q. q < length spots) places c.loop-k.k p c.requires.places c.at.ensures in (
      λ e. absurd (false≢true e),
      λ all. absurd (false≢true (sym c.if-not-sole.true ∙ c.sole.ensures.1 (set_sole old views spots p c.requires.stands lt (holds_at (λ q. IsSole old (slice_index (numbers_of views) (spot_at spots q).view)) places c.loop-k.k p all c.at.ensures)))),
    )

pub loop-k-preserved : goal.loop-k-preserved
loop-k-preserved c =
    let old = c.args.pool.now in
    let views = c.args.views.now in
    let spots = c.args.spots.now in
    let places = c.args.places.now in
    let k = c.loop-k.k in
    let p = c.at.result.now in
    let inside : k < length places = slice_get_within places k p c.at.ensures in
    let lt = holds_at (λ q. q < length spots) places k p c.requires.places c.at.ensures in
    let more : take (k + 1) places ≡ take k places ++ p ∷ [] = take_more places k 0 inside ∙ ap (λ q. take k places ++ q ∷ []) (get_or_from_slice_get places k p 0 c.at.ensures) in
    subst (AreAloneAt old (numbers_of views) spots) (sym more)
    (All-push (λ q. IsSole old (slice_index (numbers_of views) (spot_at spots q).view)) (take k places) p c.loop-k.invariant (sole_back old views spots p c.requires.stands lt (c.sole.ensures.0 c.if-not-sole.false)))

pub returns : goal.returns
returns c =
    let all = subst (AreAloneAt c.args.pool.now (numbers_of c.args.views.now) c.args.spots.now) (take_all c.loop-k.k c.args.places.now (omega arith)) c.loop-k.invariant in
    (λ e. all, λ a. refl)
