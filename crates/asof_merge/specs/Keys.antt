-- The keys of a side, in order.
use Rattle.std.specs.Prelude.{◌≡◌, ◌<◌, ℕ, ℤ, false, List, [], ◌∷◌, map, length, replicate, slice_index_or, Option, Some, None}
use Rattle.std.specs.List.{zip}
use Rattle.cell_core.specs.declared.cell.Side.{Side}
use Rattle.cell_core.specs.declared.cell.Cell.{Cell}
use Rattle.cell_core.specs.declared.cell.Label.{Label}
use Rattle.column_core.specs.cells.Cell.{datum}
use Rattle.meaning_asof.specs.AsOf.{key_of, breaks_order, first_unsorted}
use Rattle.asof_merge.specs.declared.fault.AsofFault.{AsofFault}
use Rattle.asof_merge.specs.declared.fault.AsofFault.TheVariants.{Unsorted, NoMemory}
use Rattle.asof_merge.specs.Walk.{IsAscending}

-- the keys of cells, where these are the texts by number
abbrev pub keys_of : List (List ℕ) → List Cell → List (Option ℤ)
keys_of texts cells = map (λ cell. key_of (datum texts cell)) cells

-- rows that are all of one group: each has the tuple without a label
abbrev pub ungrouped : List (Option ℤ) → List (Option ℤ × List Label)
ungrouped keys = zip keys (replicate (length keys) [])

-- the key before that of a row, and none before the first
abbrev pub key_before : List (Option ℤ) → ℕ → Option ℤ
key_before keys row = slice_index_or (None ∷ keys) row None

-- none of the first so many rows breaks the order
abbrev pub AreInOrder : List (Option ℤ) → ℕ → Type 0
AreInOrder keys count = (row : ℕ) → row < count → breaks_order (key_before keys row) (slice_index_or keys row None) ≡ false

-- none of the keys is missing or less than the one before it
pub record AreSorted (keys : List (Option ℤ)) (made : List ℤ) : Type 0 where
  pub present : keys ≡ map Some made
  pub sorted : first_unsorted keys ≡ None
  pub ascending : IsAscending made

-- the first row of the side that breaks the order
abbrev pub IsUnsorted : Side → List (Option ℤ) → AsofFault → Type 0
IsUnsorted side keys (Unsorted other row) = (other ≡ side) × (first_unsorted keys ≡ Some row)
IsUnsorted side keys NoMemory = Unit {0}
