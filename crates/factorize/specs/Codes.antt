-- The codes of rows as contracts see them.
use Rattle.std.specs.Prelude.{ℕ, List, Option}
use Rattle.cell_core.specs.declared.cell.Label.{Label}

-- the distinct keys, and the number of each row's key, if it has one
pub record CodesValue : Type 0 where
  pub keys : List (List Label)
  pub codes : List (Option ℕ)
