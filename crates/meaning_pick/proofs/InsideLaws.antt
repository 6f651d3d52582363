-- What keys pick lies within the axis, and what a label, a slice and a mask pick is in order.
use Rattle.{
  meaning_cells.proofs.Common.{◌≡◌, refl, arith, ℕ, suc, ◌+◌, ◌<◌, ◌≤◌, Bool, true, false, List, [], ◌∷◌, ◌++◌, length, All, Option, Some, Result, Ok, if◌then◌else◌, All-nil, All-append, All-head, length-range_with_len, get_or-range_with_len, IsTotalOrder, pointwise, is_lt, is_eq, Ordering},
  std.specs.List.Sorted.{IsStrictlyIncreasing},
  meaning_pick.{specs.{Faults.{PickFault, then_pick}, Rows.{rows_where, rows_between}, Labels.{rows_of_key, rows_of_keys}, Slices.{sorted_slice, one_row, row_of_bound, end_row, label_slice, slice_on}, Masks.{kept_by_label, masked_rows}}, proofs.OrderLaws.{below_too}},
}

pub ok_same : {A E : Type 0} (a b : A) → ◌≡◌ {A = Result A E} (Ok a) (Ok b) → a ≡ b
ok_same a b e = cc

-- a step that answers went on from an answer
pub went_on : {A B K : Type 0} (r : Result A (PickFault K)) (go : A → Result B (PickFault K)) (b : B) (P : Type 0) → ((a : A) → r ≡ Ok a → go a ≡ Ok b → P) → then_pick r go ≡ Ok b → P
went_on r _ b P = grind arith

abbrev IsFrom : ℕ → ℕ → ℕ → Type 0
IsFrom row count r = (row ≤ r) × (r < row + count)

rows_from : {X : Type 0} (p : X → Bool) (row : ℕ) (xs : List X) → All (IsFrom row (length xs)) (rows_where p row xs)
rows_from p row [] = All-nil (IsFrom row 0)
rows_from p row (x ∷ xs) = grind (arith, rows_from p (row + 1) xs)

pub rows_inside : {X : Type 0} (p : X → Bool) (xs : List X) → All (λ row. row < length xs) (rows_where p 0 xs)
rows_inside = grind (arith, rows_from)

-- they ascend
ascending : (row count : ℕ) (b : Bool) (later : List ℕ) → All (IsFrom (row + 1) count) later → IsStrictlyIncreasing later → IsStrictlyIncreasing (if b then row ∷ later else later)
ascending = grind arith

pub rows_ascend : {X : Type 0} (p : X → Bool) (row : ℕ) (xs : List X) → IsStrictlyIncreasing (rows_where p row xs)
rows_ascend p _ [] = grind arith
rows_ascend p row (x ∷ xs) = grind (arith, ascending, rows_from, rows_ascend p (row + 1) xs)

module _ {K X : Type 0} (meets : K → X → Bool) (xs : List X) where
  pub key_inside : (key : K) (rows : List ℕ) → rows_of_key meets xs key ≡ Ok rows → All (λ row. row < length xs) rows
  key_inside = grind (arith, rows_inside)

  pub key_ascends : (key : K) (rows : List ℕ) → rows_of_key meets xs key ≡ Ok rows → IsStrictlyIncreasing rows
  key_ascends = grind (arith, rows_ascend)

  -- the rows of a list of labels
  pub keys_inside : (keys : List K) (rows : List ℕ) → rows_of_keys meets xs keys ≡ Ok rows → All (λ row. row < length xs) rows
  keys_inside [] _ e = grind (arith, ok_same)
  keys_inside (key ∷ keys) rows e =
      went_on _ _ _ _
      (λ first is rest. went_on (rows_of_keys meets xs keys) (λ more. Ok (first ++ more)) rows (All (λ row. row < length xs) rows)
      (λ more are end. rw (← ok_same (first ++ more) rows end) (All-append (λ row. row < length xs) first more (key_inside key first is) (keys_inside keys more are))) rest)
      e

one_row_is : {X : Type 0} (bound : X) (rows : List ℕ) (row : ℕ) → one_row bound rows ≡ Ok row → rows ≡ row ∷ []
one_row_is = grind arith

pub between_other_way : (first end : ℕ) → end ≤ first → rows_between first end ≡ []
between_other_way = grind arith

module _ {X : Type 0} (cmp : X → X → Ordering) where
  pub bound_inside : (xs : List X) (bound : X) (row : ℕ) → row_of_bound cmp xs bound ≡ Ok row → row < length xs
  bound_inside xs bound row e =
      All-head (λ r. r < length xs) row [] (rw (one_row_is bound (rows_where (λ x. is_eq (cmp x bound)) 0 xs) row e) at (rows_inside (λ x. is_eq (cmp x bound)) xs))

  pub end_inside : (xs : List X) (bound : Option X) (end : ℕ) → end_row cmp xs bound ≡ Ok end → end ≤ length xs
  end_inside = grind (arith, ok_same, went_on, bound_inside)

  pub slice_inside : (lower upper : Option X) (xs : List X) (rows : List ℕ) → label_slice cmp lower upper xs ≡ Ok rows → All (λ row. row < length xs) rows
  slice_inside = grind (arith, ok_same, rows_inside, went_on, length-range_with_len, get_or-range_with_len, end_inside)

  pub slice_on_inside : (levels : ℕ) (lower upper : Option X) (xs : List X) (rows : List ℕ) → slice_on levels cmp lower upper xs ≡ Ok rows → All (λ row. row < length xs) rows
  slice_on_inside = grind (arith, slice_inside, ok_same, rows_inside, length-range_with_len, get_or-range_with_len)

  -- none where the bounds stand the other way
  none_pass : (p : X → Bool) (row : ℕ) (xs : List X) → ((x : X) → p x ≡ false) → rows_where p row xs ≡ []
  none_pass p _ [] _ = refl
  none_pass p row (x ∷ xs) none = cc (none x, none_pass p (row + 1) xs none)

  pub slice_other_way : IsTotalOrder cmp → (lower upper : X) (xs : List X) → is_lt (cmp upper lower) ≡ true → sorted_slice cmp (Some lower) (Some upper) xs ≡ []
  slice_other_way = grind (arith, none_pass, below_too)

-- the rows of a mask
module _ {X : Type 0} (same : X → X → Bool) (labels : List X) (mask : List Bool) where
  by_label_from : (row : ℕ) (xs : List X) (rows : List ℕ) → kept_by_label same labels mask row xs ≡ Ok rows → All (IsFrom row (length xs)) rows
  by_label_from _ [] _ e = grind (arith, ok_same)
  by_label_from row (x ∷ xs) rows e =
      went_on _ _ _ _
      (λ kept is rest. went_on (kept_by_label same labels mask (row + 1) xs) (λ more. Ok (if kept then row ∷ more else more)) rows (All (IsFrom row (suc (length xs))) rows)
      (λ more are made. grind (arith, ok_same, by_label_from (row + 1) xs more are)) rest)
      e

  pub by_label_inside : (xs : List X) (rows : List ℕ) → kept_by_label same labels mask 0 xs ≡ Ok rows → All (λ row. row < length xs) rows
  by_label_inside = grind (arith, by_label_from)

  by_label_ascends : (row : ℕ) (xs : List X) (rows : List ℕ) → kept_by_label same labels mask row xs ≡ Ok rows → IsStrictlyIncreasing rows
  by_label_ascends _ [] _ e = grind (arith, ok_same)
  by_label_ascends row (x ∷ xs) rows e =
      went_on _ _ _ _
      (λ kept is rest. went_on (kept_by_label same labels mask (row + 1) xs) (λ more. Ok (if kept then row ∷ more else more)) rows (IsStrictlyIncreasing rows)
      (λ more are made. rw (← ok_same (if kept then row ∷ more else more) rows made) (ascending row (length xs) kept more (by_label_from (row + 1) xs more are) (by_label_ascends (row + 1) xs more are))) rest)
      e

  -- within the axis, where a mask by position has a cell for each row
  pub mask_inside : (xs : List X) (rows : List ℕ) → (pointwise same xs labels ≡ true → length mask ≡ length xs) → masked_rows same xs labels mask ≡ Ok rows → All (λ row. row < length xs) rows
  mask_inside = grind (arith, ok_same, rows_inside, by_label_inside)

  pub mask_ascends : (xs : List X) (rows : List ℕ) → masked_rows same xs labels mask ≡ Ok rows → IsStrictlyIncreasing rows
  mask_ascends = grind (arith, ok_same, rows_ascend, by_label_ascends)
