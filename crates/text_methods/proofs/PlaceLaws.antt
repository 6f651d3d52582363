-- Places at equal distances, forward and back.
use Rattle.{column_core.proofs.cells.Common.{◌≡◌, refl, arith, ℕ, ◌+◌, ◌-◌, ◌*◌, ◌≤◌, ℤ, pos, negsuc, unsigned_abs, place_from}, std.{proofs.lemmas.Int.{ints}, specs.Prelude.{◌<ℤ◌, ◌≤ℤ◌}}, cell_core.specs.Grids.{IsPlace}}

pub back_within : (start row : ℕ) (z : ℤ) → z <ℤ pos 0 → IsPlace start z row → row * unsigned_abs z ≤ start
back_within start row (pos n) below place = absurd (omega (arith, ints))
back_within start row (negsuc n) below place = place

pub back_is : (start row : ℕ) (z : ℤ) → z <ℤ pos 0 → place_from start z row ≡ start - row * unsigned_abs z
back_is start row (pos n) below = absurd (omega (arith, ints))
back_is start row (negsuc n) below = refl

pub ahead_is : (start row : ℕ) (z : ℤ) → pos 0 ≤ℤ z → place_from start z row ≡ start + row * unsigned_abs z
ahead_is start row (pos n) above = refl
ahead_is start row (negsuc n) above = absurd (omega (arith, ints))
