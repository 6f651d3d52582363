-- Lists in order, and what is made of them.
use Rattle.{
  meaning_pick.proofs.cells.Common.{arith, ◌≡◌, ◌∙◌, refl, Bool, true, false, not, cond, List, [], ◌∷◌, map, filter, All, All-nil, All-cons, All-head, All-tail, All-filter, flat_map, distinct},
  sorting.specs.Sorting.{put_in, in_order},
}
pub use Rattle.std.proofs.lemmas.List.Elements.{All-append as all_append}
pub use Rattle.sorting.proofs.OrderLaws.{in_order_all as all_in_order}

pub all_flat : {X Y : Type 0} (P : Y → Type 0) (Q : X → Type 0) (f : X → List Y) → ((x : X) → Q x → All P (f x)) → (xs : List X) → All Q xs → All P (flat_map f xs)
all_flat P Q f _ [] _ = All-nil P
all_flat P Q f each (x ∷ xs) all = all_append P _ _ (each x (All-head Q x xs all)) (all_flat P Q f each xs (All-tail Q x xs all))

pub all_distinct : {X : Type 0} (P : X → Type 0) (same : X → X → Bool) (xs : List X) → All P xs → All P (distinct same xs)
all_distinct P _ [] all = all
all_distinct P same (x ∷ xs) all =
    All-cons P x (filter (λ q. not (same q x)) (distinct same xs)) (All-head P x xs all) (All-filter _ P _ (all_distinct P _ xs (All-tail P x xs all)))

-- a list in order has the elements of the list
module _ {X : Type 0} (P : X → Type 0) (less : X → X → Bool) where
  pub all_put_in : (x : X) (xs : List X) → P x → All P xs → All P (put_in less x xs)
  all_put_in x [] here all = grind arith
  all_put_in x (y ∷ ys) here all =
      elim (less y x) as (λ b. All P (cond b (y ∷ put_in less x ys) (x ∷ y ∷ ys))) [
        | true ↦ All-cons P y (put_in less x ys) (All-head P y ys all) (all_put_in x ys here (All-tail P y ys all))
        | false ↦ grind arith
      ]

-- and what is made of its elements is in the order that agrees
module _ {X Y : Type 0} (P : X → Type 0) (f : X → Y) (less : X → X → Bool) (less' : Y → Y → Bool) (below : (x y : X) → P x → P y → less' (f x) (f y) ≡ less x y) where
  put_in_map : (x : X) (xs : List X) → P x → All P xs → put_in less' (f x) (map f xs) ≡ map f (put_in less x xs)
  put_in_map x [] _ _ = refl
  put_in_map x (y ∷ ys) here all =
      (λ i. cond (below y x (All-head P y ys all) here i) (f y ∷ put_in_map x ys here (All-tail P y ys all) i) (f x ∷ f y ∷ map f ys))
      ∙ (grind arith)

  pub in_order_map : (xs : List X) → All P xs → in_order less' (map f xs) ≡ map f (in_order less xs)
  in_order_map [] _ = refl
  in_order_map (x ∷ xs) all = cc (in_order_map xs (All-tail P x xs all), put_in_map x (in_order less xs) (All-head P x xs all) (all_in_order P less xs (All-tail P x xs all)))
