-- The outer join of two lists of keys.
use Rattle.std.specs.Prelude.{ℕ, ◌^◌, Bool, nat_lt, if◌then◌else◌, List, [], ◌∷◌, ◌++◌, map, length, Option, Some, None, Result, Ok, Err}
use Rattle.std.specs.List.{flat_map}
use Rattle.meaning_pick.specs.cells.Reduce.{distinct}
use Rattle.sorting.specs.Sorting.{in_order}
use Rattle.meaning_pick.specs.Rows.{rows_where}
use Rattle.meaning_align.specs.Faults.{AlignRefusal, too_large}

-- a row of the answer: its key, and the row of each side that it comes from, if there is one
pub record Entry (K : Type 0) : Type 0 where
  pub key : K
  pub left : Option ℕ
  pub right : Option ℕ

abbrev pub entry : {K : Type 0} → K → Option ℕ → Option ℕ → Entry K
entry key left right = record { key = key; left = left; right = right }

-- the rows, or one gap where there is none
abbrev pub or_gap : List ℕ → List (Option ℕ)
or_gap [] = None ∷ []
or_gap (row ∷ rows) = Some row ∷ map Some rows

-- a left row, or a gap, with each right row
abbrev pub entries_with : {K : Type 0} → K → List ℕ → Option ℕ → List (Entry K)
entries_with key rights left = map (entry key left) (or_gap rights)

-- each left row of a key with each right row of it: of one side's alone, its rows with a gap
abbrev pub entries_of : {K : Type 0} → K → List ℕ → List ℕ → List (Entry K)
entries_of key lefts rights = flat_map (entries_with key rights) (or_gap lefts)

-- each key once, in order
abbrev pub keys_in_order : {K : Type 0} → (K → K → Bool) → (K → K → Bool) → List K → List K
keys_in_order same less keys = in_order less (distinct same keys)

-- the entries of each key of both sides, in the order of the keys
abbrev pub outer_entries : {K : Type 0} → (K → K → Bool) → (K → K → Bool) → List K → List K → List (Entry K)
outer_entries same less left right =
    flat_map (λ key. entries_of key (rows_where (same key) 0 left) (rows_where (same key) 0 right)) (keys_in_order same less (left ++ right))

-- as many rows as a table may have
abbrev pub most_rows : ℕ
most_rows = 2 ^ 26

-- the keys, and the rows of either side, each in a list
pub record Lists (K : Type 0) : Type 0 where
  pub keys : List K
  pub left : List (Option ℕ)
  pub right : List (Option ℕ)

abbrev pub lists_of : {K : Type 0} → List (Entry K) → Lists K
lists_of entries = record { keys = map (λ e. e.key) entries; left = map (λ e. e.left) entries; right = map (λ e. e.right) entries }

-- what there is, unless there are more entries than so many
abbrev pub within : {K : Type 0} → ℕ → List (Entry K) → Result (Lists K) (AlignRefusal K)
within most entries = if nat_lt most (length entries) then Err too_large else Ok (lists_of entries)

-- the outer join: all keys of both sides in order, one that stands p times on the left and q times on the right p times q
-- times, where these are so many at most
abbrev pub outer_within : {K : Type 0} → ℕ → (K → K → Bool) → (K → K → Bool) → List K → List K → Result (Lists K) (AlignRefusal K)
outer_within most same less left right = within most (outer_entries same less left right)

-- and as many as a table may have rows
abbrev pub outer : {K : Type 0} → (K → K → Bool) → (K → K → Bool) → List K → List K → Result (Lists K) (AlignRefusal K)
outer same less left right = outer_within most_rows same less left right
