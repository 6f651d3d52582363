-- Laws of what the columns are made of.
use Rattle.column_core.proofs.cells.Common.{◌≡◌, ℕ, ◌+◌, ◌∷◌, ◌++◌, [], arith, map-range_with_len_more, tabulate}

-- one row more
pub tabulate_more : {C : Type 0} (f : ℕ → C) (n : ℕ) → tabulate (n + 1) f ≡ tabulate n f ++ f n ∷ []
tabulate_more f n = map-range_with_len_more f 0 n n (omega arith)
