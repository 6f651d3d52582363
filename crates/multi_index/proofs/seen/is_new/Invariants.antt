use Rattle.index_core.{proofs.cells.Common.{◌≡◌, false, take, list_any}, specs.Labels.{same_number}}
use Rattle.multi_index.proofs.seen.is_new.Given as goal

-- no row so far has the label
abbrev pub invariant-loop-before : goal.invariant-loop-before
invariant-loop-before l = list_any (same_number l.label) (take l.before l.rows) ≡ false
