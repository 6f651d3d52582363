-- Numbers that stand for keys are numbered as the keys are.
use Rattle.{
  multi_index.proofs.{cells.Common.{◌≡◌, ◌+◌, Bool, ℕ, List, [], ◌∷◌, ◌++◌, map, refl, sym, length, slice_index_or, nat_eq, arith, fill_by_all, map-range_with_len_more, range_with_len}, LevelLaws.{levels_below}},
  row_keys.{specs.{Keys.{codes_of, first_rows}, Numbers.{StandFor}}, proofs.RecodeLaws.{AreNumbers, renumbered}},
}

-- one row more
pub row_more : (f : ℕ → ℕ) (row n : ℕ) (numbers numbers' : List ℕ) → n ≡ f row → numbers ≡ map f (range_with_len 0 row) → numbers' ≡ numbers ++ n ∷ [] → numbers' ≡ map f (range_with_len 0 (row + 1))
row_more = grind (arith, map-range_with_len_more)

-- a list is its elements row by row
read : {X : Type 0} (none : X) (xs : List X) (n : ℕ) → length xs ≡ n → xs ≡ map (λ (i : ℕ). slice_index_or xs i none) (range_with_len 0 n)
read _ xs n long = fill_by_all _ xs n _ long (λ k lt. refl)

pub codes_stand : {K : Type 0} (eq : K → K → Bool) (none : K) (keys : List K) (numbers made codes firsts : List ℕ) → StandFor eq none keys numbers → made ≡ numbers → codes ≡ codes_of nat_eq made → firsts ≡ first_rows nat_eq made → AreNumbers eq keys codes firsts
codes_stand eq none keys numbers _ codes firsts stand is coded first =
    rw (read none keys (length keys) refl) (renumbered _ nat_eq _ eq _ (λ i j hi hj. sym (stand.tells i j hi hj)) (range_with_len 0 (length keys)) (levels_below _) codes firsts
    (rw (← read 0 numbers (length keys) stand.count, ← is) (record { coded = coded; first = first })))
