-- Values in the lanes of vectors.
use Rattle.std.specs.Prelude.{◌≡◌, ℕ, ◌+◌, ◌<◌, ◌≤◌, ◌++◌, Bool, ℤ, List, length, vec_len, vec_capacity, slice_get, FitsSigned, Option, Some}
use Rattle.std.specs.Global.{Vec}
use Rattle.std.specs.Int.{w64, from_bool}
use Rattle.column_core.specs.Rows.{AreWritten}

-- the lane is this number, which an i64 holds
abbrev pub IsNumber : List ℤ → ℕ → ℤ → Type 0
IsNumber vector k z = (slice_get vector k ≡ Some z) × FitsSigned w64 z

-- the lane is this truth value: 1 or 0
abbrev pub IsTruth : List ℕ → ℕ → Bool → Type 0
IsTruth vector k b = slice_get vector k ≡ Some (from_bool b)

-- each of sixteen lanes is the value of its row
abbrev pub AreLanes : {T : Type 0} → (ℕ → T → Type 0) → (ℕ → Option T) → Type 0
AreLanes {T} lane_is at = (k : ℕ) → k < 16 → (x : T) × (at k ≡ Some x) × lane_is k x

-- in each lane stands what f makes of the values in this lane of two vectors
abbrev pub AreMade : {X Y U : Type 0} → (ℕ → X → Type 0) → (ℕ → Y → Type 0) → (ℕ → U → Type 0) → (X → Y → U) → Type 0
AreMade {X} {Y} x y made f = (k : ℕ) (m : X) (n : Y) → k < 16 → x k m → y k n → made k (f m n)

-- the values of sixteen lanes were added, in the room that there was
pub record ArePushed {T : Type 0} (lane_is : ℕ → T → Type 0) (old new : Vec T) : Type 0 where
  pub added : List T
  pub many : length added ≡ 16
  pub pushed : new.items ≡ old.items ++ added
  pub counted : vec_len new ≡ vec_len old + 16
  pub room : vec_capacity new ≡ vec_capacity old
  pub each : (k : ℕ) (x : T) → lane_is k x → slice_get added k ≡ Some x

-- so many values, with room for those of all rows
pub record HasRows {T : Type 0} (count so_far : ℕ) (values : Vec T) : Type 0 where
  pub many : length values.items ≡ so_far
  pub counted : vec_len values ≡ so_far
  pub room : count ≤ vec_capacity values

-- the rows below so_far are written, and there is room for all
pub record AreRows {U : Type 0} (at : ℕ → Option (Option U)) (count so_far : ℕ) (values : Vec U) (present : Vec Bool) : Type 0 where
  pub values_many : HasRows count so_far values
  pub present_many : HasRows count so_far present
  pub written : AreWritten at so_far values.items present.items
