-- Joins of rows by the numbers of their keys.
use Rattle.std.specs.Prelude.{◌≡◌, ◌+◌, ◌*◌, ◌<◌, ◌≤◌, ℕ, nat_eq, nat_lt, if◌then◌else◌, Bool, true, false, List, [], ◌∷◌, ◌++◌, map, max, min, length, slice_index, slice_index_or, Option, Some, None, option_map}
use Rattle.std.specs.List.{flat_map, sum_by, range_with_len}
use Rattle.cell_core.specs.declared.cell.Label.{Label}
use Rattle.column_core.specs.cells.Text.{Text}
use Rattle.meaning_join.specs.align.Joins.{or_gap}
use Rattle.meaning_join.specs.declared.How.{How}
use Rattle.meaning_join.specs.declared.How.TheVariants.{Inner, Left, Right, Outer}
use Rattle.meaning_join.specs.Pairs.{Pair, pair, exchanged, pairs_from}
use Rattle.row_keys.specs.Buckets.{rows_of_code}
use Rattle.factorize.specs.group.Keys.{group_keys}
use Rattle.factorize.specs.Keys.{seen_rules}

-- the keys of both sides, each once, in order where they are to be sorted
abbrev pub keys_of : List Text → Bool → List (List Label) → List (List Label) → List (List Label)
keys_of texts sorted left right = group_keys (seen_rules texts) sorted false (left ++ right)

-- whether the keys are to be sorted
abbrev pub is_outer : How → Bool
is_outer Inner = false
is_outer Left = false
is_outer Right = false
is_outer Outer = true

-- a left row, or a gap, with each right row
abbrev pub pairs_with : List ℕ → Option ℕ → List Pair
pairs_with rights left = map (pair left) (or_gap rights)

-- each left row of a key with each right row of it: of one side's alone, its rows with a gap
abbrev pub pairs_of : List ℕ → List ℕ → List Pair
pairs_of lefts rights = flat_map (pairs_with rights) (or_gap lefts)

-- how many they are
abbrev pub count_of : List ℕ → List ℕ → ℕ
count_of lefts rights = max (length lefts) 1 * max (length rights) 1

-- how many rows a row makes that meets these
abbrev pub count_with : Bool → List ℕ → ℕ
count_with stays rights = if stays then max (length rights) 1 else length rights

-- the pairs of each number below a count
abbrev pub pairs_at : List ℕ → List ℕ → ℕ → List Pair
pairs_at left right code = pairs_of (rows_of_code code left) (rows_of_code code right)

abbrev pub outer_pairs : ℕ → List ℕ → List ℕ → List Pair
outer_pairs count left right = flat_map (pairs_at left right) (range_with_len 0 count)

-- how many pairs there are
abbrev pub counted_by_row : Bool → List ℕ → List ℕ → ℕ
counted_by_row stays left right = sum_by (λ code. count_with stays (rows_of_code code right)) left

abbrev pub counted_by_key : ℕ → List ℕ → List ℕ → ℕ
counted_by_key count left right = sum_by (λ code. count_of (rows_of_code code left) (rows_of_code code right)) (range_with_len 0 count)

-- they are so many at most
abbrev pub IsCount : ℕ → ℕ → ℕ → Type 0
IsCount most counted count = (count ≡ counted) × (counted ≤ most)

-- the rows whose keys have equal numbers
abbrev pub code_pairs : How → ℕ → List ℕ → List ℕ → List Pair
code_pairs Inner count left right = pairs_from nat_eq false 0 left right
code_pairs Left count left right = pairs_from nat_eq true 0 left right
code_pairs Right count left right = map exchanged (pairs_from nat_eq true 0 right left)
code_pairs Outer count left right = outer_pairs count left right

-- how many rows each number below a count has, as far as a byte counts
abbrev pub AreCounts : List ℕ → ℕ → List ℕ → Type 0
AreCounts codes count counts = (length counts ≡ count) × ((code : ℕ) → code < count → slice_index counts code ≡ min (length (rows_of_code code codes)) 255)

-- the first row whose number stands twice on a side, of the rows from one on
abbrev pub repeated_from : List ℕ → ℕ → List ℕ → Option ℕ
repeated_from all row [] = None
repeated_from all row (code ∷ codes) = if nat_lt 1 (length (rows_of_code code all)) then Some row else repeated_from all (row + 1) codes

-- the first key whose number stands twice on a side, where each may stand once
abbrev pub repeated_in : Bool → List (List Label) → List ℕ → Option (List Label)
repeated_in false keys codes = None
repeated_in true keys codes = option_map (λ row. slice_index_or keys row []) (repeated_from codes 0 codes)
