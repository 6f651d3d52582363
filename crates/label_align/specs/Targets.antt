-- Codes whose rows are more than one.
use Rattle.std.specs.Prelude.{◌<◌, ◌≤◌, ℕ, nat_lt, if◌then◌else◌, List, [], length, slice_index, slice_index_or, Option, Some, None}

-- how many rows the code at a place has
abbrev pub repeats_at : List (List ℕ) → List ℕ → ℕ → ℕ
repeats_at rows codes place = length (slice_index_or rows (slice_index codes place) [])

-- no code before a place has more rows than one
abbrev pub NoneBefore : List (List ℕ) → List ℕ → ℕ → Type 0
NoneBefore rows codes end = (place : ℕ) → place < end → repeats_at rows codes place ≤ 1

-- no code has
abbrev pub NoneRepeats : List (List ℕ) → List ℕ → Type 0
NoneRepeats rows codes = NoneBefore rows codes (length codes)

-- the first one that has stands at this place
pub record IsFirstRepeat (rows : List (List ℕ)) (codes : List ℕ) (place : ℕ) : Type 0 where
  pub inside : place < length codes
  pub repeats : 1 < repeats_at rows codes place
  pub before : NoneBefore rows codes place

-- a code below a count as a row
abbrev pub row_below : ℕ → ℕ → Option ℕ
row_below count code = if nat_lt code count then Some code else None
