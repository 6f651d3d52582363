-- What is left of a list behind a place.
use Rattle.frame_parts.proofs.Common.{◌≡◌, ℕ, zero, suc, List, [], ◌∷◌, drop, Some, slice_get}
pub use Rattle.std.proofs.Math.Seq.{drop-length as drop_all}

-- the item at a place and those after it
pub drop_next : {X : Type 0} (xs : List X) (i : ℕ) (x : X) → slice_get xs i ≡ Some x → drop i xs ≡ x ∷ drop (suc i) xs
drop_next [] i x is = cc
drop_next (y ∷ ys) zero x is = search
drop_next (y ∷ ys) (suc i) x is = drop_next ys i x is
