-- The axis of what is put together.
use Rattle.std.specs.Prelude.{◌≡◌, ◌≤◌, ℕ, ◌+◌, ◌-◌, List, [], ◌∷◌, ◌++◌, map, take, length, Option, Some, None, if◌then◌else◌}
use Rattle.std.specs.List.{range_with_len}
use Rattle.std.specs.Borrow.{Bor}
use Rattle.std.specs.Global.{Vec}
use Rattle.cell_core.specs.declared.cell.Label.{Label}
use Rattle.column_core.specs.cells.Text.{Text}
use Rattle.column_core.specs.cells.Cell.{LabelValue}
use Rattle.multi_index.specs.Axes.{AxisValue, HaveLevels}
use Rattle.frame_store.specs.tables.Table.{NumberedTable, Table}
use Rattle.meaning_method.specs.Concat.{RowAxis, name_of_all}
use Rattle.frame_store.specs.Shown.{labels_value, headings_value}
use Rattle.frame_concat.specs.declared.asked.Asked.{Asked}
use Rattle.frame_concat.specs.declared.parts.Naming.TheVariants.{Level}
use Rattle.frame_concat.specs.Parts.{name_at}

-- an axis with its texts
abbrev pub axis_seen : List Text → AxisValue → RowAxis
axis_seen texts axis = record { labels = labels_value texts axis.tuples; names = headings_value texts axis.names }

-- each tuple of an axis has a label for each of its levels
abbrev pub IsAlike : Bor AxisValue → Type 0
IsAlike axis = HaveLevels (length axis.now.names) axis.now.tuples

-- how many levels rows have that are put together: one where they are numbered, and one more for labels of parts
abbrev pub levels_with : Option (Vec Label) → ℕ → ℕ
levels_with None levels = levels
levels_with (Some keys) levels = levels + 1

abbrev pub levels_for : ℕ → Asked → ℕ
levels_for levels a = if a.renumbered then 1 else levels_with a.keys levels

-- how many levels the first part has, and there are no more levels than four
abbrev pub levels_of : List NumberedTable → ℕ
levels_of [] = 0
levels_of (t ∷ ts) = length t.level_names

abbrev pub IsRoom : List NumberedTable → Asked → Type 0
IsRoom parts a = levels_for (levels_of parts) a ≤ 4

-- the names that all parts have for so many levels
abbrev pub names_of_levels : ℕ → List Table → List (Option LabelValue)
names_of_levels levels parts = map (λ level. name_of_all (map (name_at (Level level)) parts)) (range_with_len 0 levels)

-- they stand on the last levels
abbrev pub named_after : List (Option LabelValue) → ℕ → List Table → List (Option LabelValue)
named_after names levels parts = take (length names - levels) names ++ names_of_levels levels parts

-- there are as many names as the first part has levels
abbrev pub HasLevelsOf : List NumberedTable → List (Option Label) → Type 0
HasLevelsOf parts names = length names ≡ levels_of parts
