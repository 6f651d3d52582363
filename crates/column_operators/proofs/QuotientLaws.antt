-- Quotients by a product with the inverse of a divisor.
use Rattle.{
  column_core.proofs.cells.Common.{◌≡◌, ℕ, ◌+◌, ◌-◌, ◌*◌, ◌/◌, ◌%◌, ◌<◌, ◌≤◌, ◌^◌, inl, inr, sym, arith, pow-le-pow_right, cases_lt, mul-le, div-mul-add, div-add-mod', div_below, pow-add, leading_length, ◌⊎◌, count_leading_zeros},
  std.proofs.lemmas.Nat.{mul-lt, mod_below, le-div, pow_pos},
  column_operators.specs.Quotients.{IsInverse},
}

module _ (n d m s q r : ℕ) (whole : n ≡ q * d + r) (enough : 2 ^ 63 * s ≤ m * d) where
  -- the product is no less than the quotient's share of the power
  no_less : q * s * 2 ^ 64 ≤ 2 * n * m
  no_less =
      let share : q * (2 ^ 63 * s) ≤ q * (m * d) = grind (arith, mul-le) in
      let product : n * m ≡ (q * d + r) * m = search in
      omega (arith, share, product)

  -- and below the next one's
  below_next : n < 2 ^ 63 → 0 < s → r < d → m * d < 2 ^ 63 * s + s → 2 * n * m < (q + 1) * s * 2 ^ 64
  below_next small some rest near =
      let extra = m * d - 2 ^ 63 * s in
      let parts : m * d ≡ 2 ^ 63 * s + extra = omega (arith, enough) in
      let more : n * extra < 2 ^ 63 * s = grind (arith, mul-lt) in
      let product : n * (m * d) ≡ n * (2 ^ 63 * s + extra) = cc in
      let next : (n + 1) * (2 ^ 63 * s) ≤ (q + 1) * d * (2 ^ 63 * s) = mul-le (n + 1) (2 ^ 63 * s) ((q + 1) * d) (2 ^ 63 * s) (omega (arith, whole, rest)) (omega arith) in
      let times : n * m * d + 0 < (q + 1) * (2 ^ 63 * s) * d = omega (arith, more, product, next) in
      let over : (n * m * d + 0) / d < (q + 1) * (2 ^ 63 * s) = grind (arith, div_below) in
      omega (arith, over, div-mul-add (n * m) d 0 (omega (arith, rest)))

-- the upper half of the product, shifted, is the quotient
shifted_is : (x s q : ℕ) → 0 < s → q * s * 2 ^ 64 ≤ x → x < (q + 1) * s * 2 ^ 64 → x / 2 ^ 64 / s ≡ q
shifted_is = grind (arith, le-div, div_below)

-- a product with the inverse gives the quotient
pub by_inverse : (n value inverse shift : ℕ) → n < 2 ^ 63 → 0 < value → IsInverse value inverse shift → 2 * n * inverse / 2 ^ 64 / 2 ^ shift ≡ n / value
by_inverse n value _ _ small above inverts =
    let q = n / value in
    let r = n % value in
    let whole : n ≡ q * value + r = sym (div-add-mod' n _) in
    search (mod_below, pow_pos, shifted_is, no_less, below_next)

-- so many digits as the number below a divisor has make the least power of 2 that is no less than the divisor
pub least_power : (value : ℕ) → 0 < value → value < 2 ^ 63 → (value ≤ 2 ^ (64 - count_leading_zeros 64 (value - 1))) × (2 ^ (64 - count_leading_zeros 64 (value - 1)) < 2 * value)
least_power value above below =
    let found = leading_length 64 (value - 1) (omega (arith, below)) in
    grind arith

-- a power of 2 below 2^64 is one of 64
pub narrow : (shift value : ℕ) → value < 2 ^ 63 → 2 ^ shift < 2 * value → shift < 64
narrow shift _ below least = first_half (cases_lt shift 64)
  where
    first_half : (shift < 64) ⊎ (64 ≤ shift) → shift < 64
    first_half (inl lt) = lt
    first_half (inr le) = absurd (omega (arith, below, least, pow-le-pow_right {n = 2} (omega arith) le))

-- a quotient that is rounded up
rounded : (d p : ℕ) → 0 < d → 0 < p → (p ≤ ((p - 1) / d + 1) * d) × (((p - 1) / d + 1) * d < p + d)
rounded = grind (arith, div-add-mod', mod_below)

pub inverts : (value shift : ℕ) → 0 < value → shift < 64 → value ≤ 2 ^ shift → IsInverse value ((2 ^ (63 + shift) - 1) / value + 1) shift
inverts _ _ above narrow = grind (arith, pow-add, rounded, pow_pos, narrow)
