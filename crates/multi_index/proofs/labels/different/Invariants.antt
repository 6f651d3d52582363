use Rattle.index_core.{proofs.cells.Common.{◌≡◌, take}}
use Rattle.multi_index.specs.Levels.{seen_labels}
use Rattle.multi_index.proofs.labels.different.Given as goal

-- what the rows so far have
abbrev pub invariant-loop-label : goal.invariant-loop-label
invariant-loop-label l = l.labels.keys ≡ seen_labels (take l.label-index l.rows)
