-- The rows of a list of tuples.
use Rattle.std.specs.Prelude.{ℕ, ◌-◌, nat_le, Bool, false, List, [], ◌∷◌, ◌++◌, length, Option, Some, None, Result, Ok, if◌then◌else◌}
use Rattle.cell_core.specs.declared.cell.Label.{Label}
use Rattle.index_core.specs.Labels.{same_number}
use Rattle.index_core.specs.pick.Faults.{PickFault, then_pick}
use Rattle.index_core.specs.pick.Labels.{unless_none, rows_of_keys}
use Rattle.index_core.specs.pick.Leading.{leads}

-- the rows of each tuple of a list, one after the other
abbrev pub rows_of_list : List (List Label) → List (List Label) → Result (List ℕ) (PickFault (List Label))
rows_of_list tuples keys = rows_of_keys (leads same_number) tuples keys

-- rows, unless they are more than so many
abbrev pub unless_more : ℕ → List ℕ → Option (List ℕ)
unless_more most rows = if nat_le (length rows) most then Some rows else None

abbrev pub list_within : ℕ → List (List Label) → List (List Label) → Result (Option (List ℕ)) (PickFault (List Label))
list_within most tuples keys = then_pick (rows_of_list tuples keys) (λ rows. Ok (unless_more most rows))

-- the rows that were found for each key, one after the other
abbrev pub rows_found : {K : Type 0} → List (List ℕ) → List K → Result (List ℕ) (PickFault K)
rows_found (rows ∷ found) (key ∷ keys) = then_pick (unless_none key rows) (λ first. then_pick (rows_found found keys) (λ more. Ok (first ++ more)))
rows_found found keys = Ok []

-- whether these are no more than so many
abbrev pub are_within : {K : Type 0} → ℕ → List (List ℕ) → List K → Result Bool (PickFault K)
are_within most found keys = then_pick (rows_found found keys) (λ rows. Ok (nat_le (length rows) most))

-- room for so many rows, if there is some, and what is left of it after so many
abbrev pub has_room : Option ℕ → ℕ → Bool
has_room None count = false
has_room (Some room) count = nat_le count room

abbrev pub room_after : Option ℕ → ℕ → Option ℕ
room_after None count = None
room_after (Some room) count = if nat_le count room then Some (room - count) else None
