-- What an index keeps, as its labels.
use Rattle.std.specs.Prelude.{◌^◌, ◌≤◌, List}
use Rattle.cell_core.specs.declared.cell.Label.{Label}
use Rattle.index_core.specs.declared.index.IndexLabels.{IndexLabels}
use Rattle.index_core.specs.declared.index.IndexLabels.TheVariants.{Below, Listed}
use Rattle.index_core.specs.Ranges.{range_labels}

-- the labels that are kept, in their order
abbrev pub kept_labels : IndexLabels → List Label
kept_labels (Below n) = range_labels n
kept_labels (Listed labels) = labels.items

-- each number of a range has 64 bits
abbrev pub HasWholeNumbers : IndexLabels → Type 0
HasWholeNumbers (Below n) = n ≤ 2 ^ 63
HasWholeNumbers (Listed labels) = Unit {0}
