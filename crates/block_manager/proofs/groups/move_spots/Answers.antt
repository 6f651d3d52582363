use Rattle.{
  std.proofs.Common.{◌≡◌, ◌<◌, ◌∙◌, ◌++◌, ◌+◌, ◌∷◌, [], List, ℕ, zero, suc, refl, ap, sym, arith, length, take, drop, map, slice_set, slice_index_or},
  block_manager.{specs.{declared.spots.Spot.{Spot}, Groups.{moved}}, proofs.PlanLaws.{s0}},
}
use Rattle.block_manager.proofs.groups.move_spots.Goals as goal

-- items that are changed in place, one after another
read_place : {X : Type 0} (f : X → X) (xs : List X) (k : ℕ) (d : X) → k < length xs → slice_index_or (take k (map f xs) ++ drop k xs) k d ≡ slice_index_or xs k d
read_place f [] k d lt = absurd (omega (arith, lt))
read_place f (x ∷ xs) zero d lt = refl
read_place f (x ∷ xs) (suc k) d lt = read_place f xs k d (omega (arith, lt))

set_place : {X : Type 0} (f : X → X) (xs : List X) (k : ℕ) (d : X) → k < length xs → slice_set (take k (map f xs) ++ drop k xs) k (f (slice_index_or xs k d)) ≡ take (k + 1) (map f xs) ++ drop (k + 1) xs
set_place f [] k d lt = absurd (omega (arith, lt))
set_place f (x ∷ xs) zero d lt = refl
set_place f (x ∷ xs) (suc k) d lt =
    let next : suc k + 1 ≡ suc (k + 1) = omega arith in
    ap (λ l. f x ∷ l) (set_place f xs k d (omega (arith, lt))) ∙ ap (λ (n : ℕ). take n (f x ∷ map f xs) ++ drop n (x ∷ xs)) (sym next)

pub loop-k-preserved : goal.loop-k-preserved
loop-k-preserved c =
    let targets = c.args.targets.now in
    let spots = c.args.spots.now in
    let k = c.loop-k.k in
    let lt : k < length spots = omega arith in
    ap (λ (ss : List Spot). slice_set ss k (moved targets (slice_index_or ss k s0))) c.loop-k.invariant
    ∙ ap (λ (s : Spot). slice_set (take k (map (moved targets) spots) ++ drop k spots) k (moved targets s)) (read_place (moved targets) spots k s0 lt)
    ∙ set_place (moved targets) spots k s0 lt
