use Rattle.index_core.proofs.cells.Common.{◌≡◌, map, take}
use Rattle.multi_index.specs.Levels.{label_of}
use Rattle.multi_index.proofs.level.labels_of.Given as goal

-- the labels so far
abbrev pub invariant-loop-code : goal.invariant-loop-code
invariant-loop-code l = l.rows.items ≡ map (label_of l.labels) (take l.code-index l.codes)
