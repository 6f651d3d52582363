-- Slices by labels, both ends included.
use Rattle.std.specs.Prelude.{ℕ, ◌+◌, ◌==◌, Bool, true, not, ◌&&◌, List, [], ◌∷◌, length, Option, Some, None, Result, Ok, Err, if◌then◌else◌}
use Rattle.std.specs.Ordering.{is_lt, is_eq, is_gt}
use Rattle.std.specs.declared.cmp.Ordering.{Ordering}
use Rattle.meaning_pick.specs.Faults.{PickFault, not_there, bound_not_unique, then_pick}
use Rattle.meaning_pick.specs.Rows.{rows_where, rows_between}

-- none is less than the one before, which for the first is x
abbrev pub goes_on_in_order : {X : Type 0} → (X → X → Ordering) → X → List X → Bool
goes_on_in_order cmp x [] = true
goes_on_in_order cmp x (y ∷ ys) = not (is_lt (cmp y x)) && goes_on_in_order cmp y ys

-- none is less than the one before
abbrev pub is_in_order : {X : Type 0} → (X → X → Ordering) → List X → Bool
is_in_order cmp [] = true
is_in_order cmp (x ∷ xs) = goes_on_in_order cmp x xs

-- a row isn't below a lower bound, or above an upper bound, where there is one
abbrev pub reaches : {X : Type 0} → (X → X → Ordering) → Option X → X → Bool
reaches cmp None x = true
reaches cmp (Some bound) x = not (is_lt (cmp x bound))

abbrev pub stays_within : {X : Type 0} → (X → X → Ordering) → Option X → X → Bool
stays_within cmp None x = true
stays_within cmp (Some bound) x = not (is_gt (cmp x bound))

-- where the rows are in order: those neither below the lower nor above the upper bound
abbrev pub sorted_slice : {X : Type 0} → (X → X → Ordering) → Option X → Option X → List X → List ℕ
sorted_slice cmp lower upper xs = rows_where (λ x. reaches cmp lower x && stays_within cmp upper x) 0 xs

-- the row of a bound, which must stand there once
abbrev pub one_row : {X : Type 0} → X → List ℕ → Result ℕ (PickFault X)
one_row bound [] = Err (not_there bound)
one_row bound (row ∷ []) = Ok row
one_row bound (row ∷ (other ∷ rows)) = Err (bound_not_unique bound)

abbrev pub row_of_bound : {X : Type 0} → (X → X → Ordering) → List X → X → Result ℕ (PickFault X)
row_of_bound cmp xs bound = one_row bound (rows_where (λ x. is_eq (cmp x bound)) 0 xs)

-- where they aren't: the row of the lower bound and that behind the upper bound's, or the ends of the axis
abbrev pub first_row : {X : Type 0} → (X → X → Ordering) → List X → Option X → Result ℕ (PickFault X)
first_row cmp xs None = Ok 0
first_row cmp xs (Some bound) = row_of_bound cmp xs bound

abbrev pub end_row : {X : Type 0} → (X → X → Ordering) → List X → Option X → Result ℕ (PickFault X)
end_row cmp xs None = Ok (length xs)
end_row cmp xs (Some bound) = then_pick (row_of_bound cmp xs bound) (λ row. Ok (row + 1))

abbrev pub unsorted_slice : {X : Type 0} → (X → X → Ordering) → Option X → Option X → List X → Result (List ℕ) (PickFault X)
unsorted_slice cmp lower upper xs = then_pick (first_row cmp xs lower) (λ first. then_pick (end_row cmp xs upper) (λ end. Ok (rows_between first end)))

-- the rows of a slice on one level
abbrev pub label_slice : {X : Type 0} → (X → X → Ordering) → Option X → Option X → List X → Result (List ℕ) (PickFault X)
label_slice cmp lower upper xs = if is_in_order cmp xs then Ok (sorted_slice cmp lower upper xs) else unsorted_slice cmp lower upper xs

-- on several levels no bound is looked up: where the rows aren't in order, the first one that is given is refused
abbrev pub unfound_slice : {X : Type 0} → Option X → Option X → List X → Result (List ℕ) (PickFault X)
unfound_slice (Some bound) upper xs = Err (not_there bound)
unfound_slice None (Some bound) xs = Err (not_there bound)
unfound_slice None None xs = Ok (rows_between 0 (length xs))

abbrev pub leading_slice : {X : Type 0} → (X → X → Ordering) → Option X → Option X → List X → Result (List ℕ) (PickFault X)
leading_slice cmp lower upper xs = if is_in_order cmp xs then Ok (sorted_slice cmp lower upper xs) else unfound_slice lower upper xs

-- the rows of a slice on so many levels
abbrev pub slice_on : {X : Type 0} → ℕ → (X → X → Ordering) → Option X → Option X → List X → Result (List ℕ) (PickFault X)
slice_on levels cmp lower upper xs = if levels == 1 then label_slice cmp lower upper xs else leading_slice cmp lower upper xs
