-- The labels of a range.
use Rattle.std.specs.Prelude.{ℕ, pos, List, map}
use Rattle.std.specs.List.{range_with_len}
use Rattle.cell_core.specs.declared.cell.Label.{Label}
use Rattle.cell_core.specs.declared.cell.Label.TheVariants as label

-- a whole number as a label
abbrev pub number_label : ℕ → Label
number_label n = label.Int (pos n)

-- the labels 0 to n - 1
abbrev pub range_labels : ℕ → List Label
range_labels n = map number_label (range_with_len 0 n)
