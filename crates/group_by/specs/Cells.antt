-- Cells of a kind, whose texts were given numbers.
use Rattle.std.specs.Prelude.{◌≡◌, ℕ, true, List}
use Rattle.cell_core.specs.declared.cell.Cell.{Cell}
use Rattle.cell_core.specs.declared.cell.Kind.{Kind}
use Rattle.column_core.specs.cells.Cell.{datum, holds, IsGiven}

pub record IsCellOf (texts : List (List ℕ)) (kind : Kind) (cell : Cell) : Type 0 where
  pub held : (dict : List (List ℕ)) → holds kind (datum dict cell) ≡ true
  pub given : IsGiven texts cell
