-- Numbers that stand for keys, and the first row with each.
use Rattle.std.specs.Prelude.{◌≡◌, ◌<◌, ◌≤◌, ◌+◌, ◌-◌, ◌*◌, ◌/◌, ◌%◌, ◌^◌, ◌==◌, ◌||◌, ℕ, Bool, not, List, length, nat_eq, slice_index, slice_index_or}
use Rattle.std.specs.List.{Contains}
use Rattle.row_keys.specs.Keys.{place_among}

-- two rows have equal numbers exactly where their keys are equal
pub record StandFor {K : Type 0} (eq : K → K → Bool) (none : K) (keys : List K) (numbers : List ℕ) : Type 0 where
  pub count : length numbers ≡ length keys
  pub tells : (i j : ℕ) → i < length keys → j < length keys → eq (slice_index_or keys i none) (slice_index_or keys j none) ≡ (slice_index numbers i == slice_index numbers j)

-- the first row with a number
abbrev pub first_with : List ℕ → ℕ → ℕ
first_with numbers n = place_among nat_eq numbers n

-- for each row the first row with its number
pub record AreLeaders (numbers leaders : List ℕ) : Type 0 where
  pub count : length leaders ≡ length numbers
  pub first : (row : ℕ) → row < length numbers → slice_index leaders row ≡ first_with numbers (slice_index numbers row)

-- no row's leader stands behind it, and each leader has itself as its own
pub record LeadBack (leaders : List ℕ) : Type 0 where
  pub back : (row : ℕ) → row < length leaders → slice_index leaders row ≤ row
  pub own : (row : ℕ) → row < length leaders → slice_index leaders (slice_index leaders row) ≡ slice_index leaders row

-- the number and the row in one
abbrev pub packed_row : List ℕ → ℕ → ℕ → ℕ
packed_row numbers scale row = slice_index numbers row * scale + row

-- the number of what stands at a place, and its row
abbrev pub number_at : List ℕ → ℕ → ℕ → ℕ
number_at sorted scale k = slice_index sorted k / scale

abbrev pub row_at : List ℕ → ℕ → ℕ → ℕ
row_at sorted scale k = slice_index sorted k % scale

-- another number stands before it, or none
abbrev pub starts_run : List ℕ → ℕ → ℕ → Bool
starts_run sorted scale k = (k == 0) || not (number_at sorted scale (k - 1) == number_at sorted scale k)

-- all rows with their numbers, in the order of these and then of the rows
pub record AreSortedRows (numbers : List ℕ) (scale : ℕ) (sorted : List ℕ) : Type 0 where
  pub rising : (j k : ℕ) → j ≤ k → k < length sorted → slice_index sorted j ≤ slice_index sorted k
  pub row : (k : ℕ) → k < length sorted → row_at sorted scale k < length numbers
  pub number : (k : ℕ) → k < length sorted → slice_index numbers (row_at sorted scale k) ≡ number_at sorted scale k
  pub place : (row : ℕ) → row < length numbers → Contains sorted (packed_row numbers scale row)

-- 64 bits have room for each number up to the greatest before a row below the count, which takes so many bits
pub record HasRoom (count most bits : ℕ) : Type 0 where
  pub few : bits < 64
  pub rows : count ≤ 2 ^ bits
  pub numbers : (most + 1) * 2 ^ bits ≤ 2 ^ 64
