-- The rows of a label and of a list of labels.
use Rattle.std.specs.Prelude.{Bool, true, not, ◌&&◌, ℕ, List, [], ◌∷◌, ◌++◌, Result, Ok, Err}
use Rattle.std.specs.List.{list_any}
use Rattle.meaning_pick.specs.Faults.{PickFault, not_there, then_pick}
use Rattle.meaning_pick.specs.Rows.{rows_where}

-- a key that no row carries is refused
abbrev pub unless_none : {K : Type 0} → K → List ℕ → Result (List ℕ) (PickFault K)
unless_none key [] = Err (not_there key)
unless_none key (row ∷ rows) = Ok (row ∷ rows)

-- the rows that carry the key, in order
abbrev pub rows_of_key : {K X : Type 0} → (K → X → Bool) → List X → K → Result (List ℕ) (PickFault K)
rows_of_key meets xs key = unless_none key (rows_where (meets key) 0 xs)

-- those of each key, one after the other
abbrev pub rows_of_keys : {K X : Type 0} → (K → X → Bool) → List X → List K → Result (List ℕ) (PickFault K)
rows_of_keys meets xs [] = Ok []
rows_of_keys meets xs (key ∷ keys) = then_pick (rows_of_key meets xs key) (λ rows. then_pick (rows_of_keys meets xs keys) (λ more. Ok (rows ++ more)))

-- none of them stands again at a later place
abbrev pub all_differ : {X : Type 0} → (X → X → Bool) → List X → Bool
all_differ same [] = true
all_differ same (x ∷ xs) = not (list_any (same x) xs) && all_differ same xs
