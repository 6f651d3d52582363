-- Rows of two sides whose keys are equal.
use Rattle.std.specs.Prelude.{ℕ, ◌+◌, Bool, true, false, nat_lt, if◌then◌else◌, List, [], ◌∷◌, ◌++◌, map, length, Option, Some, None, option_map, Result, Ok, Err}
use Rattle.meaning_tables.specs.cells.Fault.{Side}
use Rattle.meaning_tables.specs.cells.Fault as side
use Rattle.meaning_align.specs.pick.Rows.{rows_where}
use Rattle.meaning_align.specs.Joins.{Entry, or_gap, outer_entries, most_rows}
use Rattle.meaning_align.specs.Targets.{first_repeated}
use Rattle.meaning_join.specs.declared.How.{How}
use Rattle.meaning_join.specs.declared.How.TheVariants.{Inner, Left, Right, Outer}
use Rattle.meaning_join.specs.declared.Validate.{Validate}

-- a row of the answer: the row of each side that it comes from, if there is one
pub record Pair : Type 0 where
  pub left : Option ℕ
  pub right : Option ℕ

abbrev pub pair : Option ℕ → Option ℕ → Pair
pair left right = record { left = left; right = right }

-- the sides exchanged
abbrev pub exchanged : Pair → Pair
exchanged p = pair p.right p.left

-- the rows that a row meets; where it meets none, a gap, if it stays
abbrev pub partners : Bool → List ℕ → List (Option ℕ)
partners stays rows = if stays then or_gap rows else map Some rows

-- each row of a side, in order, with the rows of the other side that have its key
abbrev pub pairs_from : {K : Type 0} → (K → K → Bool) → Bool → ℕ → List K → List K → List Pair
pairs_from same stays row [] others = []
pairs_from same stays row (key ∷ keys) others = map (pair (Some row)) (partners stays (rows_where (same key) 0 others)) ++ pairs_from same stays (row + 1) keys others

abbrev pub pair_of_entry : {K : Type 0} → Entry K → Pair
pair_of_entry e = pair e.left e.right

-- the rows that have equal keys: by left row, then right row; with the sides exchanged where the right side's stay; and
-- by the order of the keys where both sides' stay
abbrev pub key_pairs : {K : Type 0} → (K → K → Bool) → (K → K → Bool) → How → List K → List K → List Pair
key_pairs same less Inner left right = pairs_from same false 0 left right
key_pairs same less Left left right = pairs_from same true 0 left right
key_pairs same less Right left right = map exchanged (pairs_from same true 0 right left)
key_pairs same less Outer left right = map pair_of_entry (outer_entries same less left right)

-- a key that stands twice on a side
pub record RepeatedKey (K : Type 0) : Type 0 where
  pub side : Side
  pub key : K

-- the first key of a side that stands twice there, where each may stand once
abbrev pub repeated_on : {K : Type 0} → Side → (K → K → Bool) → Bool → List K → Option (RepeatedKey K)
repeated_on s same false keys = None
repeated_on s same true keys = option_map (λ key. record { side = s; key = key }) (first_repeated same keys)

abbrev pub or_else : {A : Type 0} → Option A → Option A → Option A
or_else None other = other
or_else (Some a) other = Some a

-- of both sides the left one first
abbrev pub repeated_key : {K : Type 0} → (K → K → Bool) → Validate → List K → List K → Option (RepeatedKey K)
repeated_key same once left right = or_else (repeated_on side.left same once.left left) (repeated_on side.right same once.right right)

-- why rows aren't joined
pub data JoinRefusal (K : Type 0) : Type 0 where
  not_one_to_one : RepeatedKey K → JoinRefusal K
  -- there are more rows than a table may have
  too_large : JoinRefusal K

-- the pairs, unless there are more than so many
abbrev pub within : {K : Type 0} → ℕ → List Pair → Result (List Pair) (JoinRefusal K)
within most pairs = if nat_lt most (length pairs) then Err too_large else Ok pairs

abbrev pub unless_repeated : {K : Type 0} → Option (RepeatedKey K) → Result (List Pair) (JoinRefusal K) → Result (List Pair) (JoinRefusal K)
unless_repeated None pairs = pairs
unless_repeated (Some repeated) pairs = Err (not_one_to_one repeated)

-- the join of two sides, where its pairs are so many at most
abbrev pub joined_within : {K : Type 0} → ℕ → (K → K → Bool) → (K → K → Bool) → How → Validate → List K → List K → Result (List Pair) (JoinRefusal K)
joined_within most same less how once left right = unless_repeated (repeated_key same once left right) (within most (key_pairs same less how left right))

-- and as many as a table may have rows
abbrev pub joined : {K : Type 0} → (K → K → Bool) → (K → K → Bool) → How → Validate → List K → List K → Result (List Pair) (JoinRefusal K)
joined same less how once left right = joined_within most_rows same less how once left right
