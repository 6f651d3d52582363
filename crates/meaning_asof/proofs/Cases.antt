-- The definitions at examples.
use Rattle.{meaning_pick.proofs.cells.Common.{◌≡◌, refl, ℕ, ℤ, pos, nat_eq, true, List, [], ◌∷◌, Option, Some, None, Ok, Err}, meaning_pick.specs.cells.Fault.{left, right}, meaning_asof.specs.{AsOf.{asof_merged}, declared.Direction.{TheVariants.{Backward, Forward}}}}

abbrev row : ℕ → ℕ → Option ℤ × ℕ
row key group = (Some (pos key), group)

-- groups 0 and 1
abbrev lefts : List (Option ℤ × ℕ)
lefts = row 1 0 ∷ row 5 1 ∷ row 10 0 ∷ []

abbrev rights : List (Option ℤ × ℕ)
rights = row 1 0 ∷ row 5 1 ∷ row 5 1 ∷ row 9 0 ∷ []

last_of_a_group : asof_merged nat_eq Backward None lefts rights ≡ Ok (Some 0 ∷ Some 2 ∷ Some 3 ∷ [])
last_of_a_group = refl

-- of all rows
first_within : asof_merged (λ a b. true) Forward (Some 3) lefts rights ≡ Ok (Some 0 ∷ Some 1 ∷ None ∷ [])
first_within = refl

unsorted_side : asof_merged nat_eq Backward None (row 5 0 ∷ row 1 0 ∷ []) lefts ≡ Err record { side = left; row = 1 }
unsorted_side = refl

-- equal keys are sorted, and a missing one isn't
missing_key : asof_merged nat_eq Backward None lefts (row 1 0 ∷ row 1 0 ∷ (None, 0) ∷ []) ≡ Err record { side = right; row = 2 }
missing_key = refl
