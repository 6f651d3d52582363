use Rattle.column_core.proofs.cells.Common.{◌≡◌, pos, unwrap_or, tabulate}
use Rattle.asof_merge.proofs.keys.present_keys.Given as goal

-- the keys so far
abbrev pub invariant-loop-row : goal.invariant-loop-row
invariant-loop-row g l = l.keys.items ≡ tabulate l.row (λ row. unwrap_or (g.S.Source.row_of l.rows row) (pos 0))
