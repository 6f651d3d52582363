-- As-of merges: for each row of a table the nearest row of another one, by their keys.
use Rattle.std.specs.Prelude.{◌≡◌, ◌<◌, ℕ, ℤ, ◌-ℤ◌, unsigned_abs, int_le, int_lt, nat_le, Bool, true, false, ◌&&◌, List, ◌∷◌, map, slice_get, Option, Some, None, Result, Ok, Err}
use Rattle.std.specs.List.{zip, position, last_or}
use Rattle.meaning_pick.specs.cells.Cell.{CellValue, int_cell}
use Rattle.meaning_pick.specs.cells.Fault.{Side, left, right}
use Rattle.meaning_pick.specs.Rows.{rows_where}
use Rattle.meaning_asof.specs.declared.Direction.{Direction}
use Rattle.meaning_asof.specs.declared.Direction.TheVariants.{Backward, Forward}

-- a whole number is a key
abbrev pub key_of : CellValue → Option ℤ
key_of (int_cell z) = Some z
key_of c = None

-- a key is missing, or less than the one before it
abbrev pub breaks_order : Option ℤ → Option ℤ → Bool
breaks_order before None = true
breaks_order None (Some key) = false
breaks_order (Some before) (Some key) = int_lt key before

-- the first row whose key is missing or less than the one before it: none stands before the first
abbrev pub first_unsorted : List (Option ℤ) → Option ℕ
first_unsorted keys = position (λ pair. breaks_order pair.0 pair.1) (zip (None ∷ keys) keys)

-- looking back, a key that isn't above a row's own; looking forward, one that isn't below it
abbrev pub is_on_side : Direction → ℤ → ℤ → Bool
is_on_side Backward key other = int_le other key
is_on_side Forward key other = int_le key other

-- the keys are as far apart as the tolerance at most, where there is one
abbrev pub is_within : Option ℕ → ℤ → ℤ → Bool
is_within None key other = true
is_within (Some tolerance) key other = nat_le (unsigned_abs (key -ℤ other)) tolerance

-- a row with the one key may meet a row with the other; none meets a missing key
abbrev pub may_meet : Direction → Option ℕ → Option ℤ → Option ℤ → Bool
may_meet direction tolerance (Some key) (Some other) = is_on_side direction key other && is_within tolerance key other
may_meet direction tolerance key other = false

-- the rows that a row may meet, of its own group. A row is its key and its group.
abbrev pub candidates : {G : Type 0} → (G → G → Bool) → Direction → Option ℕ → List (Option ℤ × G) → Option ℤ × G → List ℕ
candidates same direction tolerance others row = rows_where (λ other. same row.1 other.1 && may_meet direction tolerance row.0 other.0) 0 others

-- looking back the last of them, looking forward the first, if there is one
abbrev pub nearest : Direction → List ℕ → Option ℕ
nearest Backward rows = last_or None rows
nearest Forward rows = slice_get rows 0

-- for each row of the left side the nearest row of the right one
abbrev pub asof_rows : {G : Type 0} → (G → G → Bool) → Direction → Option ℕ → List (Option ℤ × G) → List (Option ℤ × G) → List (Option ℕ)
asof_rows same direction tolerance lefts rights = map (λ row. nearest direction (candidates same direction tolerance rights row)) lefts

-- why no rows are met: a key of a side that is missing or less than the one before it
pub record UnsortedKey : Type 0 where
  pub side : Side
  pub row : ℕ

-- of both sides the left one first
abbrev pub unless_unsorted : Option ℕ → Option ℕ → List (Option ℕ) → Result (List (Option ℕ)) UnsortedKey
unless_unsorted (Some row) other rows = Err record { side = left; row = row }
unless_unsorted None (Some row) rows = Err record { side = right; row = row }
unless_unsorted None None rows = Ok rows

-- the same, unless a side isn't sorted by its keys
abbrev pub asof_merged : {G : Type 0} → (G → G → Bool) → Direction → Option ℕ → List (Option ℤ × G) → List (Option ℤ × G) → Result (List (Option ℕ)) UnsortedKey
asof_merged same direction tolerance lefts rights =
    unless_unsorted (first_unsorted (map (λ row. row.0) lefts)) (first_unsorted (map (λ row. row.0) rights)) (asof_rows same direction tolerance lefts rights)

-- what the nearest one is: looking back a later row is nearer, looking forward an earlier one
abbrev pub IsNearer : Direction → ℕ → ℕ → Type 0
IsNearer Backward row other = row < other
IsNearer Forward row other = other < row

-- of the rows below a count that pass none is nearer
abbrev pub IsNearest : Direction → (ℕ → Bool) → ℕ → Option ℕ → Type 0
IsNearest direction passes count None = (other : ℕ) → other < count → passes other ≡ false
IsNearest direction passes count (Some row) = (row < count) × (passes row ≡ true) × ((other : ℕ) → other < count → IsNearer direction row other → passes other ≡ false)
