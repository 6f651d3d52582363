-- What is spent on the way to an answer, which adds up.
use Rattle.std.specs.Prelude.{ℕ, ◌+◌, ◌≤◌, Result}
use Rattle.meaning_method.specs.tables.Cost.{cost_of}

-- how often a file is fetched, and the charge in cells
pub record Spent : Type 0 where
  pub fetches : ℕ
  pub charge : ℕ

abbrev pub nothing_spent : Spent
nothing_spent = record { fetches = 0; charge = 0 }

abbrev pub one_fetch : Spent
one_fetch = record nothing_spent { fetches = 1 }

-- so many cells
abbrev pub cells_spent : ℕ → Spent
cells_spent count = record nothing_spent { charge = count }

-- what a value costs; a refusal costs nothing
abbrev pub spent_for : {A F : Type 0} → (A → ℕ) → Result A F → Spent
spent_for charge r = cells_spent (cost_of charge r)

-- both together
abbrev pub spent_sum : Spent → Spent → Spent
spent_sum a b = record { fetches = a.fetches + b.fetches; charge = a.charge + b.charge }

-- no more of anything
pub record IsAtMost (a b : Spent) : Type 0 where
  pub fetches : a.fetches ≤ b.fetches
  pub charge : a.charge ≤ b.charge
