-- One more level, first or last.
use Rattle.{index_core.proofs.cells.Common.{◌≡◌, arith, ℕ, suc, ◌+◌, ◌-◌, ◌<◌, ◌≤◌, Bool, true, false, List, [], ◌∷◌, ◌++◌, length, take, set, replicate, slice_index_or, take-append_seam, length_push, take_more, length-take-le}, std.proofs.{Math.Seq.{set-append_seam, take-append-add}, lemmas.List.{append_assoc}}, multi_index.specs.Axes.{with_one, first_of}}

-- four places of which the old ones so far are written, and the new one stands in all others
abbrev pub four_with : {X : Type 0} → Bool → X → List X → List X
four_with true x xs = x ∷ (xs ++ replicate (3 - length xs) x)
four_with false x xs = xs ++ replicate (4 - length xs) x

module _ {X : Type 0} (x : X) where
  pub written : (outer : Bool) (old : List X) (y : X) (place : ℕ) → length old ≤ 2 → place ≡ first_of outer + length old → set (four_with outer x old) place y ≡ four_with outer x (old ++ y ∷ [])
  written true old y place few at =
      let left : 3 - length old ≡ suc (2 - length old) = omega arith in
      let next : 2 - length old ≡ 3 - length (old ++ y ∷ []) = omega (arith, length_push old y) in
      let here : place ≡ suc (length old) = omega (arith, at) in
      grind (arith, set-append_seam, append_assoc)
  written false old y place few at =
      let left : 4 - length old ≡ suc (3 - length old) = omega arith in
      let next : 3 - length old ≡ 4 - length (old ++ y ∷ []) = omega (arith, length_push old y) in
      let here : place ≡ length old = omega (arith, at) in
      grind (arith, set-append_seam, append_assoc)

  pub all_written : (outer : Bool) (old : List X) (n : ℕ) → length old ≤ 3 → n ≡ length old → take (n + 1) (four_with outer x old) ≡ with_one outer x old
  all_written true _ n few long = grind (arith, take-append_seam)
  all_written false old n few long =
      let left : 4 - length old ≡ suc (3 - length old) = omega arith in
      grind (arith, take-append-add)

-- one more of the old ones
pub next_written : {X : Type 0} (outer : Bool) (x : X) (room xs : List X) (k place : ℕ) (y : X) → k < length xs → length xs ≤ 3 → place ≡ first_of outer + k → y ≡ slice_index_or xs k y
    → room ≡ four_with outer x (take k xs) → set room place y ≡ four_with outer x (take (k + 1) xs)
next_written = grind (arith, length-take-le, written, take_more)
