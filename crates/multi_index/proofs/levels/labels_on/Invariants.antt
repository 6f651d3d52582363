use Rattle.index_core.proofs.cells.Common.{◌≡◌, take}
use Rattle.multi_index.specs.Levels.{labels_on}
use Rattle.multi_index.proofs.levels.labels_on.Given as goal

-- the labels so far
abbrev pub invariant-loop-tuple : goal.invariant-loop-tuple
invariant-loop-tuple l = l.labels.items ≡ labels_on l.level (take l.tuple-index l.tuple-items)
