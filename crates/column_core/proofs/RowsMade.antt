-- Laws of rows that are made one after another.
use Rattle.{
  meaning_cells.proofs.Common.{◌≡◌, ◌≢◌, ℕ, zero, suc, ◌+◌, ◌<◌, ◌≤◌, Bool, List, [], ◌∷◌, ◌++◌, length, map, take, slice_get, slice_set, refl, arith, Option, Some, None, is_some, unwrap_or, IsSome, Result, Ok, Err, inl, inr, cases_eq, get_or-set_same, get_or-set_other, take_at, range_with_len, try_each, then_rows},
  column_core.specs.{Lanes.{option_at}, Rows.{try_rows, made_rows, AreWritten, IsFirstRefused}},
}

-- what was put in a place
pub get-set_same : {X : Type 0} (xs : List X) (i : ℕ) (x : X) → i < length xs → slice_get (slice_set xs i x) i ≡ Some x
get-set_same [] i x h = absurd (omega arith)
get-set_same (y ∷ ys) zero x h = refl
get-set_same (y ∷ ys) (suc i) x h = get-set_same ys i x (omega arith)

-- what stands elsewhere
pub get-set_other : {X : Type 0} (xs : List X) (i j : ℕ) (x : X) → j ≢ i → slice_get (slice_set xs i x) j ≡ slice_get xs j
get-set_other (y ∷ ys) zero zero x h = absurd (h refl)
get-set_other (y ∷ ys) (suc i) (suc j) x h = search (get-set_other ys)
get-set_other _ _ _ x h = refl

-- a value and its flag
pub option-set_same : {T : Type 0} (values : List T) (present : List Bool) (i : ℕ) (o : Option T) (blank : T) → i < length values → i < length present → option_at (slice_set values i (unwrap_or o blank)) (slice_set present i (is_some o)) i ≡ o
option-set_same = grind (arith, get_or-set_same, slice_get, slice_set, get-set_same)

pub option-set_other : {T : Type 0} (values : List T) (present : List Bool) (i j : ℕ) (x : T) (b : Bool) → j ≢ i → option_at (slice_set values i x) (slice_set present i b) j ≡ option_at values present j
option-set_other = search (slice_get, slice_set, get_or-set_other, get-set_other)

-- one more row is written
pub row_written : {T : Type 0} (at : ℕ → Option (Option T)) (i : ℕ) (values : List T) (present : List Bool) (o : Option T) (blank : T) → AreWritten at i values present → i < length values → i < length present → at i ≡ Some o
    → AreWritten at (i + 1) (slice_set values i (unwrap_or o blank)) (slice_set present i (is_some o))
row_written = grind (arith, cases_eq, option-set_same, slice_set, unwrap_or, is_some, option-set_other)

-- rows that are all written
rows_from : {C : Type 0} (at : ℕ → Option C) (f : ℕ → C) (a n : ℕ) → ((k : ℕ) → a ≤ k → k < a + n → at k ≡ Some (f k)) → try_each at a (range_with_len a n) ≡ Ok (map f (range_with_len a n))
rows_from _ f a zero h = refl
rows_from at f a (suc n) h = grind (arith, rows_from at f (a + 1) n (λ k le lt. h k (omega arith) (omega arith)))

pub rows_written : {T : Type 0} (at : ℕ → Option (Option T)) (count : ℕ) (values : List T) (present : List Bool) → AreWritten at count values present → try_rows count at ≡ Ok (made_rows count values present)
rows_written = grind (arith, rows_from)

-- the same where the lists were written through the fronts of vectors
pub vectors_written : {T : Type 0} (at : ℕ → Option (Option T)) (count n m : ℕ) (values ws : List T) (present qs : List Bool) → AreWritten at count values present → length values ≡ n → length present ≡ m
    → try_rows count at ≡ Ok (made_rows count (take n (values ++ ws)) (take m (present ++ qs)))
vectors_written = search (rows_written, take_at)

-- the first row that is refused
refused_from : {C : Type 0} (at : ℕ → Option C) (row a n : ℕ) → a ≤ row → row < a + n → at row ≡ None → ((k : ℕ) → a ≤ k → k < row → IsSome (at k)) → try_each at a (range_with_len a n) ≡ Err row
refused_from _ _ a zero le lt e h = absurd (omega arith)
refused_from at row a (suc n) le lt e h =
    elim (cases_eq a row) [
      | inl same ↦ cc
      | inr other ↦ grind (arith, passes, refused_from at row (a + 1) n (omega (arith, other)) (omega arith) e (λ k l r. h k (omega arith) r))
    ]
  where
    passes : {C : Type 0} (o : Option C) (a : ℕ) (rest : Result (List C) ℕ) (row : ℕ) → IsSome o → rest ≡ Err row → then_rows o a rest ≡ Err row
    passes None a _ _ s e = absurd cc
    passes (Some x) a _ _ s e = cc

pub rows_refused : {C : Type 0} (at : ℕ → Option C) (count row : ℕ) → IsFirstRefused at count row → try_rows count at ≡ Err row
rows_refused at count row f = refused_from at row 0 count (omega arith) (omega (arith, f.within)) f.refused (λ k le lt. f.before k lt)
