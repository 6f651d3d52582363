-- The axis of a table: a tuple of labels for each row, and the names of the levels.
use Rattle.std.specs.Prelude.{◌≡◌, ℕ, ◌≤◌, Bool, true, false, List, [], ◌∷◌, ◌++◌, length, map, drop, remove, swap, replicate, slice_get, slice_set, slice_index_or, Option, None, option_and_then, All}
use Rattle.std.specs.List.{zip}
use Rattle.cell_core.specs.declared.cell.Label.{Label}
use Rattle.index_core.specs.Labels.{labels_at}
use Rattle.index_core.specs.Ranges.{range_labels}

-- each row has a tuple, and each level has a name or none
pub record AxisValue : Type 0 where
  pub tuples : List (List Label)
  pub names : List (Option Label)

-- each tuple has so many labels
abbrev pub HaveLevels : ℕ → List (List Label) → Type 0
HaveLevels levels tuples = All (λ tuple. length tuple ≡ levels) tuples

-- leading labels on so many levels: one at least, and at most one for each
abbrev pub AreLeading : ℕ → List Label → Type 0
AreLeading levels key = (1 ≤ length key) × (length key ≤ levels)

-- these tuples, on levels without names
abbrev pub nameless_axis : List (List Label) → ℕ → AxisValue
nameless_axis tuples levels = record { tuples = tuples; names = replicate levels None }

-- each label as a tuple of its own
abbrev pub single_tuples : List Label → List (List Label)
single_tuples labels = map (λ label. label ∷ []) labels

-- the whole numbers 0 to n - 1 on one level without a name
abbrev pub range_axis : ℕ → AxisValue
range_axis n = nameless_axis (single_tuples (range_labels n)) 1

-- the label of a row at a level
abbrev pub label_at : AxisValue → ℕ → ℕ → Option Label
label_at axis row level = option_and_then (λ tuple. slice_get tuple level) (slice_get axis.tuples row)

-- the axis with another name of one level
abbrev pub with_name : AxisValue → ℕ → Option Label → AxisValue
with_name axis level name = record axis { names = slice_set axis.names level name }

-- the tuples at these places, in their order
abbrev pub tuples_at : List (List Label) → List ℕ → List (List Label)
tuples_at tuples places = map (λ place. slice_index_or tuples place []) places

-- the rows at these places, in their order, on the same levels
abbrev pub taken_axis : AxisValue → List ℕ → AxisValue
taken_axis axis places = record axis { tuples = tuples_at axis.tuples places }

-- the axis without a level
abbrev pub without_level : AxisValue → ℕ → AxisValue
without_level axis level = record { tuples = map (λ tuple. remove tuple level) axis.tuples; names = remove axis.names level }

-- the axis without so many leading levels
abbrev pub without_leading : AxisValue → ℕ → AxisValue
without_leading axis count = record { tuples = map (λ tuple. drop count tuple) axis.tuples; names = drop count axis.names }

-- the axis with two levels exchanged
abbrev pub with_swapped : AxisValue → ℕ → ℕ → AxisValue
with_swapped axis i j = record { tuples = map (λ tuple. swap tuple i j) axis.tuples; names = swap axis.names i j }

-- the axis of these of its levels, in their order
abbrev pub at_levels : AxisValue → List ℕ → AxisValue
at_levels axis order = record { tuples = map (λ tuple. labels_at tuple order) axis.tuples; names = map (λ level. slice_index_or axis.names level None) order }

-- one more label or name, first or last
abbrev pub with_one : {X : Type 0} → Bool → X → List X → List X
with_one true x xs = x ∷ xs
with_one false x xs = xs ++ x ∷ []

-- the place at which the old ones begin then
abbrev pub first_of : Bool → ℕ
first_of true = 1
first_of false = 0

-- the tuples with one more label each
abbrev pub tuples_with : Bool → List Label → List (List Label) → List (List Label)
tuples_with outer labels tuples = map (λ row. with_one outer row.0 row.1) (zip labels tuples)

-- the axis with one more level of these labels, first or last, without a name
abbrev pub with_level : AxisValue → List Label → Bool → AxisValue
with_level axis labels outer = record { tuples = tuples_with outer labels axis.tuples; names = with_one outer None axis.names }
