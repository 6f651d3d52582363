-- The labels of an index, as they are seen.
use Rattle.std.specs.Prelude.{◌≡◌, List, [], ◌∷◌, Option, Some, None}
use Rattle.std.specs.Borrow.{Bor}
use Rattle.std.specs.Option.{option_map}
use Rattle.cell_core.specs.declared.cell.Cell.{Cell}
use Rattle.cell_core.specs.declared.cell.Label.{Label}
use Rattle.column_core.specs.cells.Text.{Text}
use Rattle.column_core.specs.cells.Cell.{LabelValue}
use Rattle.frame_parts.specs.form.Make.{index_labels, nameless, AreAlike}
use Rattle.multi_index.specs.Axes.{AxisValue}
use Rattle.frame_store.specs.Arguments.{items_of}
use Rattle.frame_store.specs.declared.arguments.Item.{Item}
use Rattle.cell_core.specs.Values.{label_of}

-- the label that a scalar is, where there is one
abbrev pub label_in : Option Cell → List Label
label_in None = []
label_in (Some c) = label_of c ∷ []

-- the labels of each row; an object is no label, so its table doesn't matter
abbrev pub rows_labels : List Text → List Item → List (List LabelValue)
rows_labels texts rows = index_labels (items_of (λ id. None) texts rows)

-- those of an index that is lent, if one is
abbrev pub index_given : List Text → Option (Bor (List Item)) → Option (List (List LabelValue))
index_given texts index = option_map (λ (l : Bor (List Item)). rows_labels texts l.now) index

-- each row has as many labels as the first, one at least
abbrev pub AreLevels : List Item → Type 0
AreLevels rows = AreAlike (rows_labels [] rows)

abbrev pub GivesLevels : Option (Bor (List Item)) → Type 0
GivesLevels None = Unit {0}
GivesLevels (Some l) = AreLevels l.now

-- levels without names, as many as the labels have
abbrev pub IsUnnamed : AxisValue → Type 0
IsUnnamed axis = axis.names ≡ nameless axis.tuples
