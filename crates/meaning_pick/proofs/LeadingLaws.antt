-- How leading labels of tuples in order stand to a bound.
use Rattle.{
  meaning_cells.proofs.Common.{rules, arith, ◌≡◌, refl, true, false, List, [], ◌∷◌, IsTotalOrder, is_lt, is_gt, Ordering, Less, Greater},
  meaning_pick.specs.Leading.{leading_cmp},
}

module _ {L : Type 0} {R : L → L → Ordering} (o : IsTotalOrder R) where
  -- a label that is less than one that isn't above a third is less than the third
  less_less : (x y z : L) → R y x ≡ Greater → R y z ≡ Less → R x z ≡ Less
  less_less = grind arith

  -- what isn't greater than a tuple below a bound lies below the bound
  pub leading_below : (a b c : List L) → is_lt (leading_cmp R b a) ≡ false → is_lt (leading_cmp R b c) ≡ true → is_lt (leading_cmp R a c) ≡ true
  leading_below a [] [] apart below = cc
  leading_below a (y ∷ b) [] apart below = cc
  leading_below [] b (z ∷ c) _ _ = refl
  leading_below (x ∷ a) [] (z ∷ c) apart below = cc
  leading_below (x ∷ a) (y ∷ b) (z ∷ c) apart below = search (rules, less_less, leading_below a b c)

  -- and what isn't greater than a tuple within a bound lies within it
  pub leading_within : (a b c : List L) → is_lt (leading_cmp R b a) ≡ false → is_gt (leading_cmp R b c) ≡ false → is_gt (leading_cmp R a c) ≡ false
  leading_within [] b [] _ _ = refl
  leading_within (x ∷ a) b [] _ _ = refl
  leading_within [] b (z ∷ c) _ _ = refl
  leading_within (x ∷ a) [] (z ∷ c) apart within = cc
  leading_within (x ∷ a) (y ∷ b) (z ∷ c) apart within = search (rules, less_less, leading_within a b c)
