-- Items that are copied, one after the other.
use Rattle.frame_parts.proofs.Common.{arith, ◌≡◌, ℕ, ◌+◌, List, [], ◌∷◌, ◌++◌, take, slice_get, Some, take_all, take_more, get_or_from_slice_get, slice_get_within}

pub one_more_item : {X : Type 0} (xs : List X) (k : ℕ) (x : X) (made made' : List X) → slice_get xs k ≡ Some x → made' ≡ made ++ x ∷ [] → made ≡ take k xs → made' ≡ take (k + 1) xs
one_more_item xs k x _ _ at pushed before = grind (arith, take_more xs k x (slice_get_within xs k x at), get_or_from_slice_get xs k x x at)

pub ruleset all_items = (one_more_item, take_all)
