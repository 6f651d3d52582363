-- Labels of columns as labels of rows.
use Rattle.std.specs.Prelude.{pos, List, [], ◌∷◌, Option, Some, None}
use Rattle.cell_core.specs.declared.cell.Label.{Label}
use Rattle.cell_core.specs.declared.cell.Label.TheVariants.{Int}

-- the label of a column as a tuple; 0 would stand for one that is missing
abbrev pub column_tuple : Option Label → List Label
column_tuple None = Int (pos 0) ∷ []
column_tuple (Some l) = l ∷ []
