-- What forms cost, in cells.
use Rattle.std.specs.Prelude.{ℕ, Result, Ok, Err}
use Rattle.meaning_tables.specs.Table.{cell_count}
use Rattle.meaning_tables.specs.Value.{Entry, cell, table}

-- an answer costs its cells, and a scalar nothing
abbrev pub answer_charge : Entry → ℕ
answer_charge (cell c) = 0
answer_charge (table t) = cell_count t

-- what shares all its cells costs nothing
abbrev pub free : {A : Type 0} → A → ℕ
free a = 0

-- what a value costs; a refusal costs nothing
abbrev pub cost_of : {A F : Type 0} → (A → ℕ) → Result A F → ℕ
cost_of charge (Ok a) = charge a
cost_of charge (Err fault) = 0
