-- Quotients by one divisor.
use Rattle.std.specs.Prelude.{◌≡◌, ℕ, ◌+◌, ◌*◌, ◌^◌, ◌<◌, ◌≤◌, Bool, true, false, ℤ, pos, negsuc, nat_abs, Some, None, if◌then◌else◌}
use Rattle.std.specs.Bool.{Decides}
use Rattle.std.specs.Cmp.{signed_Decides, below_irrefl}
use Rattle.std.specs.Ordering.{int_eq}
use Rattle.std.specs.Int.{int_wrap, w64}
use Rattle.std.proofs.Common.{refl, ap, subst}
use Rattle.column_core.specs.cells.Operator.{floor_quotient}
use Rattle.column_core.specs.Rows.{flagged}
use Rattle.column_operators.specs.Operations.{division_row}

-- a number, or how far it is below -1
abbrev pub magnitude : ℤ → ℕ
magnitude (pos n) = n
magnitude (negsuc n) = n

-- the magnitude on the side of 0 on which a number is
abbrev pub signed_as : ℤ → ℕ → ℤ
signed_as (pos n) m = pos m
signed_as (negsuc n) m = negsuc m

-- the inverse of a divisor: their product is a power of 2, or a little more
pub record IsInverse (value inverse shift : ℕ) : Type 0 where
  pub narrow : shift < 64
  pub enough : 2 ^ 63 * 2 ^ shift ≤ inverse * value
  pub near : inverse * value < 2 ^ 63 * 2 ^ shift + 2 ^ shift

not_zero : (b : Bool) (d : ℕ) → Decides b (pos d ≡ pos 0) → 0 < d → b ≡ false
not_zero false d t above = refl
not_zero true d t above = absurd (below_irrefl 0 (subst (λ (n : ℕ). 0 < n) (ap nat_abs (t.0 refl)) above))

-- a quotient by flags
pub quotient_pair : (d : ℕ) → 0 < d → (x : ℤ) (p : Bool) → division_row floor_quotient (flagged p x) (Some (pos d)) ≡ Some (flagged p (int_wrap w64 (floor_quotient x (pos d))))
quotient_pair d above x false = refl
quotient_pair d above x true =
    ap (λ b. if b then None else Some (Some (int_wrap w64 (floor_quotient x (pos d))))) (not_zero (int_eq (pos d) (pos 0)) d (signed_Decides (pos d) (pos 0)) above)
