-- The rows of two sides.
use Rattle.std.specs.Prelude.{List, ◌++◌}
use Rattle.cell_core.specs.declared.cell.Label.{Label}
use Rattle.label_align.specs.declared.both.BothSides.{BothSides}

-- the tuples of both, those of the left first
abbrev pub tuples_of : BothSides → List (List Label)
tuples_of both = both.left.now.tuples ++ both.right.now.tuples
