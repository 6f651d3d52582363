-- Axes that are put together.
use Rattle.std.specs.Prelude.{◌≡◌, ℕ, ◌+◌, ◌≤◌, List, [], ◌∷◌, ◌++◌, map, length, replicate, Option, Some, None, All}
use Rattle.std.specs.List.{flat_map}
use Rattle.std.specs.Borrow.{Bor}
use Rattle.cell_core.specs.declared.cell.Label.{Label}
use Rattle.meaning_join.specs.Concat.{labels_under}
use Rattle.multi_index.specs.Axes.{AxisValue}

-- the tuples of each axis
abbrev pub tuples_of_each : List (Bor AxisValue) → List (List (List Label))
tuples_of_each axes = map (λ axis. axis.now.tuples) axes

-- the tuples of all axes, one axis after the other
abbrev pub tuples_in : List (Bor AxisValue) → List (List Label)
tuples_in axes = flat_map (λ axis. axis.now.tuples) axes

-- how many levels the first axis has
abbrev pub levels_of_first : List (Bor AxisValue) → ℕ
levels_of_first [] = 0
levels_of_first (axis ∷ axes) = length axis.now.names

-- all axes have as many levels as the first
abbrev pub HaveLevelsOfFirst : List (Bor AxisValue) → Type 0
HaveLevelsOfFirst axes = All (λ axis. length axis.now.names ≡ levels_of_first axes) axes

-- tuples one list after the other, behind the key of the list where there are keys
abbrev pub tuples_below : Option (Bor (List Label)) → List (List (List Label)) → List (List Label)
tuples_below None lists = flat_map (λ tuples. tuples) lists
tuples_below (Some keys) lists = labels_under keys.now lists

-- how many levels they have then
abbrev pub levels_below : Option (Bor (List Label)) → ℕ → ℕ
levels_below None levels = levels
levels_below (Some keys) levels = levels + 1

-- there is a key for each list, and room for one level more
abbrev pub AreKeysOf : Option (Bor (List Label)) → ℕ → ℕ → Type 0
AreKeysOf None lists levels = Unit {0}
AreKeysOf (Some keys) lists levels = (length keys.now ≡ lists) × (levels + 1 ≤ 4)

-- for each tuple the key of its list
abbrev pub keys_below : List Label → List (List (List Label)) → List Label
keys_below (key ∷ keys) (tuples ∷ lists) = replicate (length tuples) key ++ keys_below keys lists
keys_below keys lists = []
