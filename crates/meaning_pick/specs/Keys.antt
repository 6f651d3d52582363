-- What a key of `loc` or `iloc` picks.
use Rattle.std.specs.Prelude.{ℕ, ℤ, Bool, true, false, ◌==◌, ◌&&◌, List, [], ◌∷◌, length, map, nat_lt, Option, Result, Ok, if◌then◌else◌}
use Rattle.std.specs.Option.{option_map}
use Rattle.std.specs.List.{range_with_len}
use Rattle.std.specs.declared.cmp.Ordering.{Ordering}
use Rattle.meaning_pick.specs.Faults.{PickFault, then_pick}
use Rattle.meaning_pick.specs.Rows.{rows_of}
use Rattle.meaning_pick.specs.Leading.{leads, leading_cmp}
use Rattle.meaning_pick.specs.Labels.{rows_of_key, rows_of_keys}
use Rattle.meaning_pick.specs.Slices.{slice_on}
use Rattle.meaning_pick.specs.Positions.{row_at, rows_at, position_slice}

-- a key of `loc`: `:`, a tuple of leading labels, a list of full tuples, or a slice between two of them
pub data LabelKey (K : Type 0) : Type 0 where
  all_rows : LabelKey K
  one_key : K → LabelKey K
  each_key : List K → LabelKey K
  between : Option K → Option K → LabelKey K

-- the same key, where its labels are seen otherwise
abbrev pub key_seen : {K J : Type 0} → (K → J) → LabelKey K → LabelKey J
key_seen f all_rows = all_rows
key_seen f (one_key key) = one_key (f key)
key_seen f (each_key keys) = each_key (map f keys)
key_seen f (between lower upper) = between (option_map f lower) (option_map f upper)

-- a key of `iloc`: a position, a list of them, or a slice
pub data PlaceKey : Type 0 where
  one_place : ℤ → PlaceKey
  each_place : List ℤ → PlaceKey
  place_slice : Option ℤ → Option ℤ → Option ℤ → PlaceKey

-- the rows that a key picks; whether a scalar key picked a single row; how many leading levels the answer loses; and
-- whether the key is `:` or a slice
pub record Pick : Type 0 where
  pub rows : List ℕ
  pub single : Bool
  pub dropped : ℕ
  pub sliced : Bool

abbrev pub listed_pick : List ℕ → Pick
listed_pick rows = record { rows = rows; single = false; dropped = 0; sliced = false }

abbrev pub sliced_pick : List ℕ → Pick
sliced_pick rows = record { rows = rows; single = false; dropped = 0; sliced = true }

abbrev pub has_one : List ℕ → Bool
has_one [] = false
has_one (row ∷ []) = true
has_one (row ∷ (other ∷ rows)) = false

-- a full key that meets one row picks it singly, and a shorter key's levels are lost
abbrev pub key_pick : {L : Type 0} → ℕ → List L → List ℕ → Pick
key_pick levels key rows = record { rows = rows; single = (length key == levels) && has_one rows; dropped = if nat_lt (length key) levels then length key else 0; sliced = false }

-- what a key of `loc` picks among rows with these tuples of labels, on so many levels
abbrev pub picked_by_label : {L : Type 0} → (L → L → Bool) → (L → L → Ordering) → ℕ → List (List L) → LabelKey (List L) → Result Pick (PickFault (List L))
picked_by_label same cmp levels tuples all_rows = Ok (sliced_pick (range_with_len 0 (length tuples)))
picked_by_label same cmp levels tuples (one_key key) = then_pick (rows_of_key (leads same) tuples key) (λ rows. Ok (key_pick levels key rows))
picked_by_label same cmp levels tuples (each_key keys) = then_pick (rows_of_keys (leads same) tuples keys) (λ rows. Ok (listed_pick rows))
picked_by_label same cmp levels tuples (between lower upper) = then_pick (slice_on levels (leading_cmp cmp) lower upper tuples) (λ rows. Ok (sliced_pick rows))

abbrev pub single_pick : ℕ → Pick
single_pick row = record { rows = row ∷ []; single = true; dropped = 0; sliced = false }

-- what a key of `iloc` picks among so many rows
abbrev pub picked_by_place : {K : Type 0} → ℕ → PlaceKey → Result Pick (PickFault K)
picked_by_place count (one_place z) = then_pick (row_at count z) (λ row. Ok (single_pick row))
picked_by_place count (each_place zs) = then_pick (rows_at count zs) (λ rows. Ok (listed_pick rows))
picked_by_place count (place_slice from to step) = then_pick (position_slice count from to step) (λ rows. Ok (sliced_pick (rows_of rows)))
