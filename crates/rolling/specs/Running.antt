-- Running numbers.
use Rattle.std.specs.Prelude.{◌≡◌, ◌<◌, ◌≤◌, ℕ, ℤ, List, Some}
use Rattle.std.specs.VecDeque.{deque_len, deque_capacity}
use Rattle.nullable_array.specs.declared.ops.Cumulation.{Cumulation}
use Rattle.nullable_array.specs.declared.ops.Cumulation.TheVariants.{Sum, Min, Max}
use Rattle.rolling.specs.declared.candidates.Extreme.{Extreme}
use Rattle.rolling.specs.declared.candidates.Extreme.TheVariants.{Least, Greatest}
use Rattle.rolling.specs.declared.candidates.Candidates.{Candidates}
use Rattle.rolling.specs.declared.running.Running.{Running}
use Rattle.rolling.specs.declared.running.Running.TheVariants as running
use Rattle.rolling.specs.Candidates.{beats, unbeaten}
use Rattle.rolling.specs.Answers.{came_to}

abbrev pub seeks : Extreme → Cumulation
seeks Least = Min
seeks Greatest = Max

pub record IsTotal (total : ℤ) (op : Cumulation) (values : List ℤ) : Type 0 where
  pub op_is : op ≡ Sum
  pub total_is : Some total ≡ came_to Sum values

pub record AreCandidates (candidates : Candidates) (op : Cumulation) (count : ℕ) (values : List ℤ) : Type 0 where
  pub op_is : op ≡ seeks candidates.extreme
  pub room : count ≤ deque_capacity candidates.values
  pub values_are : candidates.values.items ≡ unbeaten (beats candidates.extreme) values

-- the running numbers of these values, with room for those of so many
abbrev pub IsRunning : Running → Cumulation → ℕ → List ℤ → Type 0
IsRunning (running.Total total) op count values = IsTotal total op values
IsRunning (running.Furthest candidates) op count values = AreCandidates candidates op count values

abbrev pub HasRoom : Running → Type 0
HasRoom (running.Total total) = Unit {0}
HasRoom (running.Furthest candidates) = deque_len candidates.values < deque_capacity candidates.values
