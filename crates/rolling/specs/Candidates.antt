-- The values that can still be the least, or the greatest, of a window.
use Rattle.std.specs.Prelude.{ℤ, Bool, List, [], ◌∷◌, if◌then◌else◌}
use Rattle.std.specs.List.{list_any}
use Rattle.std.specs.Ordering.{int_cmp, is_lt}
use Rattle.rolling.specs.declared.candidates.Extreme.{Extreme}
use Rattle.rolling.specs.declared.candidates.Extreme.TheVariants.{Least, Greatest}

-- whether the first value is further out than the second
abbrev pub beats : Extreme → ℤ → ℤ → Bool
beats Least x y = is_lt (int_cmp x y)
beats Greatest x y = is_lt (int_cmp y x)

-- the values that none of those behind them beats
abbrev pub unbeaten : (ℤ → ℤ → Bool) → List ℤ → List ℤ
unbeaten beat [] = []
unbeaten beat (x ∷ xs) = if list_any (λ y. beat y x) xs then unbeaten beat xs else x ∷ unbeaten beat xs
