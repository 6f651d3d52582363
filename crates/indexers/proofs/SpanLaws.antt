-- Rows at equal distances.
use Rattle.{
  column_core.proofs.cells.Common.{◌≡◌, sym, subst, refl, arith, ℕ, zero, suc, ◌+◌, ◌-◌, ◌≤◌, ℤ, pos, negsuc, true, false, List, [], ◌∷◌, ◌++◌, map, nat_tests, map-range_with_len_more, unsigned_abs, int_lt, ◌≢◌, div_ceil, range_with_len, AreRowsBelow},
  index_core.{proofs.{NumberLaws.{run_rows}, pick.PositionLaws.{forward_below, backward_below}}, specs.pick.Rows.{rows_of}},
}

-- one place more
pub place_pushed : (f : ℕ → ℕ) (row place : ℕ) (places places' : List ℕ) → places ≡ map f (range_with_len 0 row) → place ≡ f row → places' ≡ places ++ place ∷ [] → places' ≡ map f (range_with_len 0 (row + 1))
place_pushed = grind (arith, map-range_with_len_more)

-- all rows
pub all_listed : (count n : ℕ) → n ≡ count → range_with_len 0 count ≡ rows_of record { start = 0; step = pos 1; count = n }
all_listed _ n is =
    let whole : n ≡ n - 0 = omega arith in
    grind (arith, run_rows)

-- the rows of a slice with a step
pub forward_spaced : (low high count steps : ℕ) (z : ℤ) → int_lt (pos 0) z ≡ true → high ≤ count → steps ≡ div_ceil (high - low) (unsigned_abs z) → AreRowsBelow record { start = low; step = z; count = steps } count
forward_spaced _ _ _ _ (pos zero) ahead few is = grind (arith, nat_tests)
forward_spaced _ _ _ _ (pos (suc n)) ahead few is = grind (arith, forward_below)
forward_spaced _ _ _ _ (negsuc n) ahead _ _ = absurd cc

pub backward_spaced : (low high count start steps : ℕ) (z : ℤ) → z ≢ pos 0 → int_lt (pos 0) z ≡ false → high ≤ count → start ≡ high - 1 → steps ≡ div_ceil (high - low) (unsigned_abs z)
    → AreRowsBelow record { start = start; step = z; count = steps } count
backward_spaced _ _ _ _ _ (pos zero) moves _ _ _ _ = absurd (moves refl)
backward_spaced _ _ _ _ _ (pos (suc n)) moves back few at is = grind (arith, nat_tests)
backward_spaced _ _ count start _ (negsuc n) _ _ few at is =
    subst (λ r. AreRowsBelow r count) (λ j. record { start = sym at j; step = negsuc n; count = sym is j }) (backward_below _ _ n _ few)
