-- Lists whose elements are seen otherwise, and tests that agree on elements.
use Rattle.{
  meaning_align.proofs.{cells.Common.{◌≡◌, ◌+◌, refl, Bool, not, cond, List, [], ◌∷◌, map, filter, All, Some, None, nat_lt, length-map, All-head, All-tail, position_or_len}, SeenLaws.{filter_map}},
  std.specs.List.{position},
}
pub use Rattle.std.proofs.lemmas.Simd.{map-map as map_map}

module _ {X : Type 0} (P : X → Type 0) where
  pub map_on : {Y : Type 0} (f g : X → Y) → ((x : X) → P x → f x ≡ g x) → (xs : List X) → All P xs → map f xs ≡ map g xs
  map_on f g _ [] _ = refl
  map_on f g same (x ∷ xs) all = λ i. same x (All-head P x xs all) i ∷ map_on f g same xs (All-tail P x xs all) i

  module _ {Y : Type 0} (f : X → Y) (p : Y → Bool) (q : X → Bool) (agree : (x : X) → P x → p (f x) ≡ q x) where
    pub filter_seen : (xs : List X) → All P xs → filter p (map f xs) ≡ map f (filter q xs)
    filter_seen = filter_map f P q p agree

    place_seen : (xs : List X) → All P xs → position_or_len p (map f xs) ≡ position_or_len q xs
    place_seen [] _ = refl
    place_seen (x ∷ xs) all = λ i. cond (not (agree x (All-head P x xs all) i)) (1 + place_seen xs (All-tail P x xs all) i) 0

    -- the first place that passes
    pub position_seen : (xs : List X) → All P xs → position p (map f xs) ≡ position q xs
    position_seen xs all = λ i. cond (nat_lt (place_seen xs all i) (length-map xs f i)) (Some (place_seen xs all i)) None
