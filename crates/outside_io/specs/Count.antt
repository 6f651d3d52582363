-- Counters of 64 bits, which stand still at their last value.
use Rattle.std.specs.Prelude.{ℕ, ◌+◌, ◌<◌, min}

abbrev pub last_count : ℕ
last_count = 18446744073709551615

-- the count has risen, or stands at its last value
abbrev pub HasRisen : ℕ → ℕ → Type 0
HasRisen old new = new < last_count → old < new

-- the count with n more
abbrev pub raised : ℕ → ℕ → ℕ
raised count n = min (count + n) last_count
