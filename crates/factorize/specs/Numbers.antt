-- Keys by their numbers: the rows are numbered by the sight of their keys, and each number has a first row.
use Rattle.std.specs.Prelude.{ℕ, ◌==◌, Bool, List, map, filter, slice_index_or, slice_set, Option, Some, None, is_none, unwrap_or, if◌then◌else◌}
use Rattle.std.specs.List.{list_any, position, range_with_len}
use Rattle.column_core.specs.cells.Text.{Text}
use Rattle.cell_core.specs.declared.cell.Label.{Label}
use Rattle.label_align.specs.Tuples.{labels_of, row_less}
use Rattle.meaning_group.specs.Keys.{is_na, is_kept, ordered_if}

-- the first row of a number
abbrev pub first_row : List ℕ → ℕ → ℕ
first_row firsts number = slice_index_or firsts number 0

-- whether a number's key stands before another's
abbrev pub number_less : List Text → List (List Label) → ℕ → List ℕ → ℕ → ℕ → Bool
number_less texts keys levels firsts i j = row_less texts keys levels (first_row firsts i) (first_row firsts j)

-- whether a row's key holds an NA
abbrev pub row_holds_na : List Text → List (List Label) → ℕ → ℕ → Bool
row_holds_na texts keys levels row = list_any is_na (labels_of texts keys levels row)

-- the numbers below a count whose keys groups have, in the order of the groups
abbrev pub kept_numbers : Bool → Bool → (ℕ → ℕ → Bool) → (ℕ → Bool) → ℕ → List ℕ
kept_numbers sorted dropna less holds_na count = filter (is_kept dropna holds_na) (ordered_if sorted less (range_with_len 0 count))

-- the places with that of a number, unless it has one
abbrev pub placed : List (Option ℕ) → ℕ → ℕ → List (Option ℕ)
placed places number place = if is_none (slice_index_or places number None) then slice_set places number (Some place) else places

-- the place of each number below a count among those that are kept
abbrev pub places_of : List ℕ → ℕ → List (Option ℕ)
places_of kept count = map (λ number. position (λ k. number == k) kept) (range_with_len 0 count)

-- the place of each row's number
abbrev pub recoded : List (Option ℕ) → List ℕ → List (Option ℕ)
recoded places codes = map (λ number. slice_index_or places number None) codes

-- the number of a group, and 0 where there is none
abbrev pub number_in : Option ℕ → ℕ
number_in group = unwrap_or group 0
