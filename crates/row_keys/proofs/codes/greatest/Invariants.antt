use Rattle.multi_index.proofs.cells.Common.{◌≤◌, ℕ, take, All, Label}
use Rattle.row_keys.proofs.codes.greatest.Given as goal

abbrev pub invariant-loop-row : goal.invariant-loop-row
invariant-loop-row g l = All (λ (pair : Label × ℕ). pair.1 ≤ l.most) (take l.row (g.R.KeyRows.keys l.rows))
