-- The levels of an axis: the labels of each, and the label of each row on it.
use Rattle.std.specs.Prelude.{◌≡◌, ℕ, ◌<◌, ◌≤◌, Bool, true, false, List, [], ◌∷◌, length, map, filter, slice_get, slice_index_or, Option, Some, None, All}
use Rattle.std.specs.List.{list_any, range_with_len}
use Rattle.std.specs.Ordering.{is_lt}
use Rattle.cell_core.specs.declared.cell.Label.{Label}
use Rattle.cell_core.specs.declared.cell.Label.TheVariants.{Na}
use Rattle.sorting.specs.Sorting.{in_order}
use Rattle.index_core.specs.cells.Text.{Text}
use Rattle.index_core.specs.cells.Reduce.{distinct}
use Rattle.index_core.specs.pick.Labels.{all_differ}
use Rattle.index_core.specs.Labels.{same_number, order_in, labels_at}
use Rattle.index_core.specs.Ranges.{range_labels}

-- the labels of a level, which differ and of which none is missing, and the label of each row, which is one of them or missing
pub record LevelValue : Type 0 where
  pub labels : List Label
  pub rows : List Label

-- a label that isn't missing
abbrev pub is_present : Label → Bool
is_present Na = false
is_present l = true

abbrev pub IsPresent : Label → Type 0
IsPresent l = is_present l ≡ true

-- whether a label stands before another, where these are the texts by number
abbrev pub label_less : List Text → Label → Label → Bool
label_less texts a b = is_lt (order_in texts a b)

-- the different labels that are present among these, by first sight
abbrev pub seen_labels : List Label → List Label
seen_labels rows = distinct same_number (filter is_present rows)

-- the same in order
abbrev pub level_labels : List Text → List Label → List Label
level_labels texts rows = in_order (label_less texts) (seen_labels rows)

-- a new level of these labels by row
abbrev pub new_level : List Text → List Label → LevelValue
new_level texts rows = record { labels = level_labels texts rows; rows = rows }

-- a new level of these labels by row, whose own labels are in the order in which they are seen first
abbrev pub seen_level : List Label → LevelValue
seen_level rows = record { labels = seen_labels rows; rows = rows }

-- the whole numbers 0 to n - 1
abbrev pub range_level : ℕ → LevelValue
range_level n = record { labels = range_labels n; rows = range_labels n }

-- a level without labels and rows
abbrev pub no_level : LevelValue
no_level = record { labels = []; rows = [] }

-- the rows at these places, in their order: the labels of the level stay
abbrev pub taken_level : List ℕ → LevelValue → LevelValue
taken_level places level = record level { rows = labels_at level.rows places }

-- how many rows the levels have
abbrev pub row_count : List LevelValue → ℕ
row_count [] = 0
row_count (level ∷ levels) = length level.rows

-- one to four levels, of as many rows
pub record AreLevels (levels : List LevelValue) : Type 0 where
  pub some : 1 ≤ length levels
  pub few : length levels ≤ 4
  pub alike : All (λ level. length level.rows ≡ row_count levels) levels

-- the labels of a row, of each level one
abbrev pub row_tuple : List LevelValue → ℕ → List Label
row_tuple levels row = map (λ level. slice_index_or level.rows row Na) levels

-- the tuple of each row
abbrev pub level_tuples : List LevelValue → List (List Label)
level_tuples levels = map (row_tuple levels) (range_with_len 0 (row_count levels))

-- the labels of tuples at a level
abbrev pub labels_on : ℕ → List (List Label) → List Label
labels_on level tuples = map (λ tuple. slice_index_or tuple level Na) tuples

-- so many levels of tuples, each new
abbrev pub new_levels : List Text → List (List Label) → ℕ → List LevelValue
new_levels texts tuples count = map (λ level. new_level texts (labels_on level tuples)) (range_with_len 0 count)

-- these of the levels, in their order
abbrev pub levels_at : List LevelValue → List ℕ → List LevelValue
levels_at levels order = map (λ k. slice_index_or levels k no_level) order

-- the labels of a level differ, and none is missing
pub record AreLevelLabels (labels : List Label) : Type 0 where
  pub present : All IsPresent labels
  pub differ : all_differ same_number labels ≡ true

-- a label that the level has, or the missing one
abbrev pub is_known : List Label → Label → Bool
is_known labels Na = true
is_known labels l = list_any (same_number l) labels

abbrev pub IsKnown : List Label → Label → Type 0
IsKnown labels l = is_known labels l ≡ true

-- the code of a label is its place among the labels of the level; a missing label has none
abbrev pub IsCodeOf : List Label → Label → Option ℕ → Type 0
IsCodeOf labels l None = l ≡ Na
IsCodeOf labels l (Some code) = slice_get labels code ≡ Some l

-- the label of a code
abbrev pub label_of : List Label → Option ℕ → Label
label_of labels None = Na
label_of labels (Some code) = slice_index_or labels code Na

-- a code that a level of so many labels has, or none
abbrev pub IsCodeBelow : ℕ → Option ℕ → Type 0
IsCodeBelow count None = Unit {0}
IsCodeBelow count (Some code) = code < count
