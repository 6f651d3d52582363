-- Rows that are taken from other rows.
use Rattle.std.specs.Prelude.{ℕ, suc, ◌+◌, ◌-◌, ◌<◌, ℤ, pos, negsuc, Bool, true, false, List, nat_lt, slice_index_or, Option, Some, None, IfSome, if◌then◌else◌}

-- the row so far ahead, or so far behind, where there is one
abbrev pub moved_row : {T : Type 0} → ℕ → (ℕ → Option T) → ℕ → Bool → ℕ → Option T
moved_row count row distance ahead k = if ahead then (if nat_lt (k + distance) count then row (k + distance) else None) else (if nat_lt k distance then None else row (k - distance))

-- a shift by so many rows goes ahead where it is below 0
abbrev pub is_ahead : ℤ → Bool
is_ahead (pos n) = false
is_ahead (negsuc n) = true

abbrev pub distance_of : ℤ → ℕ
distance_of (pos n) = n
distance_of (negsuc n) = suc n

-- the place that stands at a row of a list of places
abbrev pub gap_at : List (Option ℕ) → ℕ → Option ℕ
gap_at gaps k = slice_index_or gaps k None

-- the row at a place, or nothing at a gap
abbrev pub picked_row : {T : Type 0} → (ℕ → Option T) → Option ℕ → Option T
picked_row row None = None
picked_row row (Some place) = row place

-- a place is one of so many rows
abbrev pub IsPlaceOf : ℕ → Option ℕ → Type 0
IsPlaceOf count gap = IfSome gap (λ place. place < count)
