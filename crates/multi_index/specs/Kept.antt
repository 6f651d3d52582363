-- What the parts of levels keep, as contracts see it.
use Rattle.std.specs.Prelude.{ℕ, ◌^◌, ◌≤◌, Bool, not, ◌&&◌, List, [], ◌∷◌, length, take, slice_index_or, All}
use Rattle.std.specs.List.{list_any}
use Rattle.cell_core.specs.declared.cell.Label.{Label}
use Rattle.cell_core.specs.declared.cell.Label.TheVariants.{Na}
use Rattle.index_core.specs.Labels.{same_number}
use Rattle.index_core.specs.Ranges.{range_labels}
use Rattle.multi_index.specs.declared.labels.KeptLabels.{KeptLabels}
use Rattle.multi_index.specs.declared.labels.KeptLabels.TheVariants.{Below, Listed, Seen}
use Rattle.multi_index.specs.declared.levels.KeptLevels.{KeptLevels}
use Rattle.multi_index.specs.declared.levels.KeptLevels.TheVariants.{Single, Coded}
use Rattle.multi_index.specs.Levels.{LevelValue, IsPresent, is_present, seen_labels}

-- the labels of a level, by code
abbrev pub kept_labels : KeptLabels → List Label
kept_labels (Below n) = range_labels n
kept_labels (Listed labels) = labels.keys
kept_labels (Seen rows) = seen_labels rows.value

-- each number of a range has 64 bits, and no label of a list is missing
abbrev pub AreLabels : KeptLabels → Type 0
AreLabels (Below n) = n ≤ 2 ^ 63
AreLabels (Listed labels) = All IsPresent labels.keys
AreLabels (Seen rows) = Unit {0}

-- whether the label of a row is present, and no row before has it
abbrev pub is_new : List Label → ℕ → Bool
is_new rows row = is_present (slice_index_or rows row Na) && not (list_any (same_number (slice_index_or rows row Na)) (take row rows))

-- one level is kept by labels, and several in codes
abbrev pub kept_levels : KeptLevels → List LevelValue
kept_levels (Single level) = level ∷ []
kept_levels (Coded levels) = levels.items

abbrev pub AreKept : KeptLevels → Type 0
AreKept (Single level) = Unit {0}
AreKept (Coded levels) = 2 ≤ length levels.items
