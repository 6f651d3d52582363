-- Laws of the cells of a column, row by row.
use Rattle.{
  meaning_cells.proofs.Common.{◌≡◌, ℕ, zero, suc, ◌+◌, ◌<◌, List, length, map, slice_get, arith, Option, Some, length-map-range_with_len, get_or-map-range_with_len, range_with_len, Cell, Kind, tabulate, IsGiven, AreGiven},
  column_core.specs.Columns.{CellColumn, column_with},
}

-- how many values a function of the row has
pub length-tabulate : {C : Type 0} (n : ℕ) (f : ℕ → C) → length (tabulate n f) ≡ n
length-tabulate n f = length-map-range_with_len f 0 n

-- how many cells
pub length-column : (kind : Kind) (n : ℕ) (f : ℕ → Cell) (whole : CellColumn) → record { kind = kind; cells = tabulate n f } ≡ whole → n ≡ length whole.cells
length-column _ n f _ e = cc (length-tabulate n f)

get-range : {C : Type 0} (f : ℕ → C) (a n row : ℕ) → row < n → slice_get (map f (range_with_len a n)) row ≡ Some (f (a + row))
get-range f a zero _ h = absurd (omega arith)
get-range f a (suc n) zero h = grind arith
get-range f a (suc n) (suc row) h = grind (arith, get-range f (a + 1) n row (omega arith))

-- the value of a row
pub get-tabulate : {C : Type 0} (n : ℕ) (f : ℕ → C) (row : ℕ) → row < n → slice_get (tabulate n f) row ≡ Some (f row)
get-tabulate = grind (arith, get-range)

-- cells whose texts are all given
pub given-tabulate : (texts : List (List ℕ)) (n : ℕ) (f : ℕ → Cell) → ((k : ℕ) → k < n → IsGiven texts (f k)) → AreGiven texts (tabulate n f)
given-tabulate = grind (arith, length-tabulate, get_or-map-range_with_len)

-- a column of values that need no dictionary
pub given-plain : {U : Type 0} (texts : List (List ℕ)) (kind : Kind) (cell : Option U → Cell) (n : ℕ) (rows : ℕ → Option U) (col : CellColumn) → ((x : Option U) → IsGiven texts (cell x)) → col ≡ column_with kind cell n rows → AreGiven texts col.cells
given-plain _ _ _ n rows _ plain e = rw e (given-tabulate _ n _ (λ k lt. plain (rows k)))

-- each row of given cells is given
pub given-row : (texts : List (List ℕ)) (n : ℕ) (f : ℕ → Cell) → AreGiven texts (tabulate n f) → (k : ℕ) → k < n → IsGiven texts (f k)
given-row _ n f g k lt = rw (← get_or-map-range_with_len f 0 n k k (f 0) lt (omega arith)) (g k (f 0) (omega (arith, length-tabulate n f, lt)))
