-- The labels of rows as keys.
use Rattle.std.specs.Prelude.{ℕ, List, [], ◌∷◌, map}
use Rattle.cell_core.specs.declared.cell.Label.{Label}
use Rattle.multi_index.specs.Axes.{AxisValue}
use Rattle.reshape.specs.row_keys.Keys.{label_in}

-- the label of each row on a level, as a tuple
abbrev pub level_keys : AxisValue → ℕ → List (List Label)
level_keys axis level = map (λ tuple. label_in level tuple ∷ []) axis.tuples
