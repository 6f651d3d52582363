use Rattle.{
  column_core.proofs.cells.Common.{◌≡◌, ℕ, List, not, filter, take},
  factorize.specs.Numbers.{first_row, row_holds_na},
}
use Rattle.factorize.proofs.places.without_na.Given as goal

-- the numbers so far
abbrev pub invariant-loop-number : goal.invariant-loop-number
invariant-loop-number g l =
    (texts : List (List ℕ)) → l.kept.items ≡ filter (λ n. not (row_holds_na texts (g.R.KeyLevels.keys l.rows) l.levels (first_row l.firsts n))) (take l.number-index l.numbers)
