-- One pass over two sides: looking back from their first rows on, looking forward from their last rows back.
use Rattle.std.specs.Prelude.{◌≡◌, ◌≢◌, ◌<◌, ◌≤◌, ◌+◌, ◌≤ℤ◌, ℕ, ℤ, pos, true, false, if◌then◌else◌, nat_eq, List, map, length, slice_index, slice_index_or, Option, Some, None}
use Rattle.std.specs.List.{zip}
use Rattle.meaning_asof.specs.declared.Direction.{Direction}
use Rattle.meaning_asof.specs.declared.Direction.TheVariants.{Backward, Forward}
use Rattle.meaning_asof.specs.AsOf.{is_on_side, is_within, candidates, nearest, IsNearer}

-- the rows of a side: its keys, none of them missing, and the numbers of its groups
abbrev pub rows_of : List ℤ → List ℕ → List (Option ℤ × ℕ)
rows_of keys groups = zip (map Some keys) groups

abbrev pub key_at : List ℤ → ℕ → ℤ
key_at keys row = slice_index_or keys row (pos 0)

-- no key is less than one before it
abbrev pub IsAscending : List ℤ → Type 0
IsAscending keys = (row later : ℕ) → row ≤ later → later < length keys → key_at keys row ≤ℤ key_at keys later

-- a row of a side is among the so many that were passed
abbrev pub IsPassed : Direction → ℕ → ℕ → ℕ → Type 0
IsPassed Backward count passed row = row < passed
IsPassed Forward count passed row = count ≤ row + passed

-- a row comes up when so many were passed
abbrev pub IsNext : Direction → ℕ → ℕ → ℕ → Type 0
IsNext Backward count passed row = row ≡ passed
IsNext Forward count passed row = row + (passed + 1) ≡ count

-- of the rows of a group that were passed, the one that is nearest to those to come
abbrev pub IsNearestPassed : Direction → List ℕ → ℕ → ℕ → Option ℕ → Type 0
IsNearestPassed direction groups passed group None =
    (other : ℕ) → other < length groups → IsPassed direction (length groups) passed other → slice_index groups other ≢ group
IsNearestPassed direction groups passed group (Some row) =
    (row < length groups) × IsPassed direction (length groups) passed row × (slice_index groups row ≡ group)
    × ((other : ℕ) → other < length groups → IsPassed direction (length groups) passed other → IsNearer direction row other → slice_index groups other ≢ group)

abbrev pub AreNearestPassed : Direction → List ℕ → ℕ → List (Option ℕ) → Type 0
AreNearestPassed direction groups passed nearest =
    (group : ℕ) → group < length nearest → IsNearestPassed direction groups passed group (slice_index_or nearest group None)

-- the keys of the rows that were passed lie on the side of a key where it looks
abbrev pub AreOnSide : Direction → ℤ → List ℤ → ℕ → Type 0
AreOnSide direction key keys passed =
    (other : ℕ) → other < length keys → IsPassed direction (length keys) passed other → is_on_side direction key (key_at keys other) ≡ true

-- and those of all others don't
abbrev pub AreBeyond : Direction → ℤ → List ℤ → ℕ → Type 0
AreBeyond direction key keys passed =
    (other : ℕ) → other < length keys → (IsPassed direction (length keys) passed other → ⊥) → is_on_side direction key (key_at keys other) ≡ false

-- the row, unless its key is farther from the one than the tolerance
abbrev pub row_within : Option ℕ → ℤ → List ℤ → Option ℕ → Option ℕ
row_within tolerance key keys None = None
row_within tolerance key keys (Some row) = if is_within tolerance key (key_at keys row) then Some row else None

-- the nearest row for a row of a side
abbrev pub found_row : Direction → Option ℕ → List ℤ → List ℕ → List (Option ℤ × ℕ) → ℕ → Option ℕ
found_row direction tolerance keys groups others row = nearest direction (candidates nat_eq direction tolerance others (Some (key_at keys row), slice_index groups row))
