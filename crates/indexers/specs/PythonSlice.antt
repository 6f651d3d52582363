-- What a slice by positions picks: Python's rule, as a law.
use Rattle.std.specs.Prelude.{◌≡◌, ◌<◌, ◌↔◌, ◌*◌, ℕ, zero, suc, ℤ, pos, negsuc, ◌+ℤ◌, ◌-ℤ◌, ◌<ℤ◌, List, Contains, AllPairs, Option, Some, None, IfSome}
use Rattle.std.specs.Int.{int_max, int_min}
use Rattle.index_core.specs.pick.Positions.{step_or_one}
use Rattle.indexers.specs.declared.keys.PosKey.{PosKey}
use Rattle.indexers.specs.declared.keys.PosKey.TheVariants as position

-- a position, counted from the end where it is below 0
abbrev pub from_end : ℕ → ℤ → ℤ
from_end count (pos n) = pos n
from_end count (negsuc n) = pos count -ℤ pos (suc n)

-- where a slice begins: up from the first row or a later one, or down from the last row or an earlier one
abbrev pub first_place : ℕ → ℤ → Option ℤ → ℤ
first_place count (pos step) None = pos 0
first_place count (pos step) (Some z) = int_max (pos 0) (from_end count z)
first_place count (negsuc step) None = pos count -ℤ pos 1
first_place count (negsuc step) (Some z) = int_min (pos count -ℤ pos 1) (from_end count z)

-- the place that so many steps reach from a first one
abbrev pub reached : ℤ → ℤ → ℕ → ℤ
reached first (pos step) steps = first +ℤ pos (steps * step)
reached first (negsuc step) steps = first -ℤ pos (steps * suc step)

-- the one place comes before the other where steps of this sign are taken
abbrev pub IsBefore : ℤ → ℤ → ℤ → Type 0
IsBefore (pos step) a b = a <ℤ b
IsBefore (negsuc step) a b = b <ℤ a

-- a row of a slice: one of the rows, that some steps reach, before the end if there is one
pub record IsSliced (count : ℕ) (from to : Option ℤ) (step : ℤ) (row : ℕ) : Type 0 where
  pub inside : row < count
  pub steps : ℕ
  pub reaches : pos row ≡ reached (first_place count step from) step steps
  pub before : IfSome to (λ z. IsBefore step (pos row) (from_end count z))

-- just these rows, each once, in the order in which the steps reach them
pub record IsSlice (count : ℕ) (from to : Option ℤ) (step : ℤ) (rows : List ℕ) : Type 0 where
  pub members : (row : ℕ) → Contains rows row ↔ IsSliced count from to step row
  pub order : AllPairs (λ a b. IsBefore step (pos a) (pos b)) rows

-- what a slice picks among so many rows
abbrev pub PicksSlice : ℕ → PosKey → List ℕ → Type 0
PicksSlice count (position.One z) rows = Unit {0}
PicksSlice count (position.Many zs) rows = Unit {0}
PicksSlice count (position.Span from to step) rows = IsSlice count from to (step_or_one step) rows
