-- A mask, as truth values.
use Rattle.std.specs.Prelude.{Bool, false}
use Rattle.cell_core.specs.declared.cell.Cell.{Cell}
use Rattle.cell_core.specs.declared.cell.Cell.TheVariants as cell

-- a missing cell counts as False
abbrev pub is_true : Cell → Bool
is_true (cell.Bool b) = b
is_true c = false
