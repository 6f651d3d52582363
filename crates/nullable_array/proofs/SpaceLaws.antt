-- Laws of the spaces at the ends of a text.
use Rattle.{
  column_core.{proofs.cells.Common.{◌≡◌, ◌≤◌, [], ◌∷◌, length, refl, arith, Text, after_spaces}, specs.cells.Cast.{without_spaces}},
  std.proofs.lemmas.List.{length-reverse, reverse-reverse},
}

no_longer : (t : Text) → length (after_spaces t) ≤ length t
no_longer [] = omega arith
no_longer (b ∷ bs) = grind (arith, no_longer bs)

-- a text as long as before has no space at the front
as_long : (t : Text) → length t ≤ length (after_spaces t) → after_spaces t ≡ t
as_long [] _ = refl
as_long (b ∷ bs) le = grind (arith, no_longer)

-- as long as before it has none at its ends
pub nothing_left_out : (t : Text) → length (without_spaces t) ≡ length t → without_spaces t ≡ t
nothing_left_out = grind (arith, no_longer, length-reverse, as_long, reverse-reverse)
