-- Casts of the values of rows.
use Rattle.std.specs.Prelude.{◌≡◌, Bool, true, false, Option, Some, None, option_map}
use Rattle.std.proofs.Common.{refl}
use Rattle.column_core.specs.Rows.{flagged}

-- a value that can always be cast
abbrev pub total_cast : {A B : Type 0} → (A → B) → Option A → Option (Option B)
total_cast f None = Some None
total_cast f (Some x) = Some (Some (f x))

-- the same by flags
pub total_pair : {A B : Type 0} (f : A → B) (x : A) (p : Bool) → total_cast f (flagged p x) ≡ Some (flagged p (f x))
total_pair f x true = refl
total_pair f x false = refl

-- a value that may be refused
abbrev pub partial_cast : {A B : Type 0} → (A → Option B) → Option A → Option (Option B)
partial_cast f None = Some None
partial_cast f (Some x) = option_map Some (f x)
