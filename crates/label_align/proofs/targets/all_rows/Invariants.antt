use Rattle.meaning_align.proofs.cells.Common.{◌≡◌, Some, map, range_with_len}
use Rattle.label_align.proofs.targets.all_rows.Given as goal

-- the rows so far
abbrev pub invariant-loop-row : goal.invariant-loop-row
invariant-loop-row l = l.rows.items ≡ map Some (range_with_len 0 l.row)
