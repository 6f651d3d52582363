-- Which row is the nearest one.
use Rattle.{meaning_pick.proofs.cells.Common.{◌≡◌, refl, arith, ℕ, zero, suc, ◌+◌, Bool, true, false, List, [], ◌∷◌, length, slice_index_or, slice_get, Option, Some, None}, std.specs.List.{last_or}, meaning_pick.specs.Rows.{rows_where}, meaning_asof.specs.{AsOf.{nearest, IsNearest}, declared.Direction.{Direction, TheVariants.{Backward, Forward}}}}

-- a row counted from another one, or else another one
abbrev counted_or : Option ℕ → ℕ → Option ℕ → Option ℕ
counted_or other at None = other
counted_or other at (Some row) = Some (at + row)

module _ {X : Type 0} (p : X → Bool) (d : X) where
  abbrev passes : List X → ℕ → Bool
  passes xs row = p (slice_index_or xs row d)

  first_is : (at : ℕ) (xs : List X) (r : Option ℕ) → IsNearest Forward (passes xs) (length xs) r → slice_get (rows_where p at xs) 0 ≡ counted_or None at r
  first_is at [] None h = refl
  first_is at [] (Some row) h = absurd (omega (arith, h.0))
  first_is at (x ∷ xs) None h = grind (arith, h 0 (omega arith), first_is (at + 1) xs None (λ k lt. h (suc k) (omega arith)))
  first_is at (x ∷ xs) (Some zero) h = let here : p x ≡ true = h.1 in grind arith
  first_is at (x ∷ xs) (Some (suc row)) h =
      let before : p x ≡ false = h.2 0 (omega arith) (omega arith) in
      grind (arith, first_is (at + 1) xs (Some row) (omega (arith, h.0), h.1, λ k lt earlier. h.2 (suc k) (omega arith) (omega arith)))

  last_is : (other : Option ℕ) (at : ℕ) (xs : List X) (r : Option ℕ) → IsNearest Backward (passes xs) (length xs) r → last_or other (rows_where p at xs) ≡ counted_or other at r
  last_is other at [] None h = refl
  last_is other at [] (Some row) h = absurd (omega (arith, h.0))
  last_is other at (x ∷ xs) None h = grind (arith, h 0 (omega arith), last_is other (at + 1) xs None (λ k lt. h (suc k) (omega arith)))
  last_is other at (x ∷ xs) (Some zero) h =
      let here : p x ≡ true = h.1 in
      grind (arith, last_is (Some at) (at + 1) xs None (λ k lt. h.2 (suc k) (omega arith) (omega arith)))
  last_is other at (x ∷ xs) (Some (suc row)) h =
      let later : IsNearest Backward (passes xs) (length xs) (Some row) = (omega (arith, h.0), h.1, λ k lt earlier. h.2 (suc k) (omega arith) (omega arith)) in
      grind (arith, last_is other (at + 1) xs (Some row) later, last_is (Some at) (at + 1) xs (Some row) later)

  pub nearest_is : (direction : Direction) (xs : List X) (r : Option ℕ) → IsNearest direction (passes xs) (length xs) r → nearest direction (rows_where p 0 xs) ≡ r
  nearest_is Backward xs None h = last_is None 0 xs None h
  nearest_is Backward xs (Some row) h = grind (arith, last_is None 0 xs (Some row) h)
  nearest_is Forward xs None h = first_is 0 xs None h
  nearest_is Forward xs (Some row) h = grind (arith, first_is 0 xs (Some row) h)
