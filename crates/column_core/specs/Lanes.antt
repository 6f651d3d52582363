-- Values that are present or not, borrowed with a stride in either direction.
use Rattle.std.specs.Prelude.{◌≡◌, ℕ, ◌+◌, ◌-◌, ◌*◌, ◌<◌, ◌≤◌, Bool, true, false, List, Option, None, length, slice_get, slice_index_or, if◌then◌else◌}

-- the value at a place, where one is present
abbrev pub option_at : {T : Type 0} → List T → List Bool → ℕ → Option T
option_at values present place = if slice_index_or present place false then slice_get values place else None

-- the place of a row: so many strides after the start, or before it
abbrev pub lane_place : ℕ → ℕ → Bool → ℕ → ℕ
lane_place start stride back row = if back then start - row * stride else start + row * stride

-- each row's place is one of the values, and there is a flag for each value
pub record LaneFits (start stride : ℕ) (back : Bool) (count values flags : ℕ) : Type 0 where
  pub within : (row : ℕ) → row < count → lane_place start stride back row < values
  pub above : back ≡ true → (row : ℕ) → row < count → row * stride ≤ start
  pub alike : flags ≡ values

-- what a row of a lane holds
abbrev pub lane_row : {T : Type 0} → List T → List Bool → ℕ → ℕ → Bool → ℕ → Option T
lane_row values present start stride back row = option_at values present (lane_place start stride back row)

-- a row more, which holds this
pub record IsPushed {T : Type 0} (values : List T) (present : List Bool) (o : Option T) (values' : List T) (present' : List Bool) : Type 0 where
  pub length_more : length values' ≡ length values + 1
  pub last : option_at values' present' (length values) ≡ o
  pub before : (k : ℕ) → k < length values → option_at values' present' k ≡ option_at values present k
