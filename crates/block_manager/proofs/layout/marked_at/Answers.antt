use Rattle.{std.proofs.Common.{◌≡◌, ◌<◌, ◌∙◌, ◌++◌, ◌+◌, ◌∷◌, [], true, false, ap, sym, subst, arith, rules, length, slice_set, take}, std.proofs.lemmas.{Bool.{false≢true}, List.{take_more}, Option.{get_or_from_slice_get, slice_get_within}}, std.specs.Prelude.{replicate}, block_manager.{specs.{Changes.{numbers_of}, Spots.{AreMarked, IsAloneAt, spot_at}}, proofs.{GridLaws.{numbers_long}, SpotLaws.{spots_on}, PlanLaws.{s0}, CellLaws.{set_live, set_sole, sole_back}, WritingLaws.{holds_at}, MarkLaws.{marks_start, marks_alone, marks_more}}}}
use Rattle.block_manager.proofs.layout.marked_at.Goals as goal

pub loop-k-init : goal.loop-k-init
loop-k-init c =
    let ids = numbers_of c.args.views.now in
    let columns : c.in_ok-columns.columns.items ≡ replicate (length c.args.spots.now) false = search rules in
    let split : c.in_ok-split.split.items ≡ replicate (length c.args.views.now) false = search rules in
    marks_start c.args.pool.now ids c.args.spots.now c.in_ok-columns.columns.items c.in_ok-split.split.items columns (split ∙ ap (λ n. replicate n false) (sym (numbers_long c.args.views.now)))

pub bounds-spots-place : goal.bounds-spots-place
bounds-spots-place c = holds_at (λ p. p < length c.args.spots.now) c.args.places.now c.loop-k.k c.at-place.result.now c.requires.places c.at-place.ensures

pub offset_bounds-spots-place : goal.offset_bounds-spots-place
offset_bounds-spots-place c =
    let lt : c.at-place.result.now < length c.args.spots.now = holds_at (λ p. p < length c.args.spots.now) c.args.places.now c.loop-k.k c.at-place.result.now c.requires.places c.at-place.ensures in
    search rules

pub bounds-views-view : goal.bounds-views-view
bounds-views-view c =
    let spots = c.args.spots.now in
    let lt : c.at-place.result.now < length spots = holds_at (λ p. p < length spots) c.args.places.now c.loop-k.k c.at-place.result.now c.requires.places c.at-place.ensures in
    omega (arith, spots_on c.args.pool.now (numbers_of c.args.views.now) spots c.requires.stands c.at-place.result.now s0 lt, numbers_long c.args.views.now)

pub offset_bounds-views-view : goal.offset_bounds-views-view
offset_bounds-views-view c =
    let spots = c.args.spots.now in
    let below : c.at-place.result.now < length spots = holds_at (λ p. p < length spots) c.args.places.now c.loop-k.k c.at-place.result.now c.requires.places c.at-place.ensures in
    let lt : (spot_at spots c.at-place.result.now).view < length c.args.views.now = omega (arith, spots_on c.args.pool.now (numbers_of c.args.views.now) spots c.requires.stands c.at-place.result.now s0 below, numbers_long c.args.views.now) in
    search rules

pub sole-requires : goal.sole-requires
sole-requires c =
    let lt = holds_at (λ p. p < length c.args.spots.now) c.args.places.now c.loop-k.k c.at-place.result.now c.requires.places c.at-place.ensures in
    set_live c.args.pool.now c.args.views.now c.args.spots.now c.at-place.result.now c.requires.stands lt

pub index_mut-requires : goal.index_mut-requires
index_mut-requires c =
    let lt = holds_at (λ p. p < length c.args.spots.now) c.args.places.now c.loop-k.k c.at-place.result.now c.requires.places c.at-place.ensures in
    omega (arith, lt, c.loop-k.invariant.long)

pub index_mut-requires-in-loop-k : goal.index_mut-requires-in-loop-k
index_mut-requires-in-loop-k c =
    let spots = c.args.spots.now in
    let lt = holds_at (λ p. p < length spots) c.args.places.now c.loop-k.k c.at-place.result.now c.requires.places c.at-place.ensures in
    omega (arith, spots_on c.args.pool.now (numbers_of c.args.views.now) spots c.requires.stands c.at-place.result.now s0 lt, c.loop-k.invariant.wide)

pub loop-k-preserved-then-sole : goal.loop-k-preserved-then-sole
loop-k-preserved-then-sole c =
    let old = c.args.pool.now in
    let views = c.args.views.now in
    let spots = c.args.spots.now in
    let places = c.args.places.now in
    let k = c.loop-k.k in
    let p = c.at-place.result.now in
    let inside : k < length places = slice_get_within places k p c.at-place.ensures in
    let lt = holds_at (λ q. q < length spots) places k p c.requires.places c.at-place.ensures in
    let more : take (k + 1) places ≡ take k places ++ p ∷ [] = take_more places k 0 inside ∙ ap (λ q. take k places ++ q ∷ []) (get_or_from_slice_get places k p 0 c.at-place.ensures) in
    subst (AreMarked old (numbers_of views) spots c.loop-k.columns.items c.loop-k.split.items) (sym more)
    (marks_alone old (numbers_of views) spots c.loop-k.columns.items c.loop-k.split.items (take k places) c.loop-k.invariant p (sole_back old views spots p c.requires.stands lt (c.sole.ensures.0 c.if-sole.true)))

pub loop-k-preserved : goal.loop-k-preserved
loop-k-preserved c =
    let old = c.args.pool.now in
    let views = c.args.views.now in
    let spots = c.args.spots.now in
    let places = c.args.places.now in
    let k = c.loop-k.k in
    let p = c.at-place.result.now in
    let inside : k < length places = slice_get_within places k p c.at-place.ensures in
    let lt = holds_at (λ q. q < length spots) places k p c.requires.places c.at-place.ensures in
    let more : take (k + 1) places ≡ take k places ++ p ∷ [] = take_more places k 0 inside ∙ ap (λ q. take k places ++ q ∷ []) (get_or_from_slice_get places k p 0 c.at-place.ensures) in
    let not_alone : IsAloneAt old (numbers_of views) spots p → ⊥ = λ alone. false≢true (sym c.if-sole.false ∙ c.sole.ensures.1 (set_sole old views spots p c.requires.stands lt alone)) in
    subst (AreMarked old (numbers_of views) spots (slice_set c.loop-k.columns.items p true) (slice_set c.loop-k.split.items (spot_at spots p).view true)) (sym more)
    (marks_more old (numbers_of views) spots c.loop-k.columns.items c.loop-k.split.items (take k places) c.loop-k.invariant p lt (spots_on old (numbers_of views) spots c.requires.stands p s0 lt) not_alone)
