-- The most rows of a table of so many columns.
use Rattle.{
  std.proofs.{Common.{arith, ◌≡◌, ◌≤◌, ◌/◌, ◌^◌, ◌&&◌, ℕ, zero, suc, max, nat_le}, Math.Nat.{le-div_iff_mul-le}, lemmas.Bool.Decides.{nat_tests}},
  meaning_form.specs.Finish.{within_limits},
}

pub most_within : (columns rows : ℕ) → columns ≤ 2 ^ 16 → within_limits rows columns ≡ (nat_le rows (2 ^ 26 / max columns 1) && nat_le columns (2 ^ 16))
most_within zero _ few = grind (arith, nat_tests)
most_within (suc k) rows few = grind (arith, nat_tests, le-div_iff_mul-le {k = suc k} {x = rows} {y = 2 ^ 26})
