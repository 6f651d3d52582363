-- The row of each target.
use Rattle.std.specs.Prelude.{ℕ, Bool, nat_lt, if◌then◌else◌, List, [], ◌∷◌, map, length, Option, Some, None, Result, Ok, Err}
use Rattle.std.specs.List.{range_with_len}
use Rattle.std.specs.Cmp.Lexicographic.{pointwise}
use Rattle.meaning_pick.specs.Rows.{rows_where, only_row}
use Rattle.meaning_align.specs.Faults.{AlignRefusal, duplicate_labels}

-- the first one that passes a test
abbrev pub first_where : {X : Type 0} → (X → Bool) → List X → Option X
first_where p [] = None
first_where p (x ∷ xs) = if p x then Some x else first_where p xs

-- the first key that more rows than one carry
abbrev pub first_repeated : {K : Type 0} → (K → K → Bool) → List K → Option K
first_repeated same keys = first_where (λ key. nat_lt 1 (length (rows_where (same key) 0 keys))) keys

-- a repeated key is refused
abbrev pub unless_repeated : {K A : Type 0} → Option K → A → Result A (AlignRefusal K)
unless_repeated None answer = Ok answer
unless_repeated (Some key) answer = Err (duplicate_labels key)

-- the row of each target among keys that differ, or a gap
abbrev pub rows_of_targets : {K : Type 0} → (K → K → Bool) → List K → List K → List (Option ℕ)
rows_of_targets same keys targets = map (λ target. only_row (rows_where (same target) 0 keys)) targets

-- all rows in order where the targets are the keys, and else the row of each target; a key that stands twice is refused then
abbrev pub reindexed : {K : Type 0} → (K → K → Bool) → List K → List K → Result (List (Option ℕ)) (AlignRefusal K)
reindexed same keys targets =
    if pointwise same keys targets then Ok (map Some (range_with_len 0 (length keys))) else unless_repeated (first_repeated same keys) (rows_of_targets same keys targets)
