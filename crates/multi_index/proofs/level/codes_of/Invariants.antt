use Rattle.index_core.proofs.cells.Common.{◌≡◌, length, map, take, All}
use Rattle.multi_index.specs.Levels.{IsCodeBelow, label_of}
use Rattle.multi_index.proofs.level.codes_of.Given as goal

-- the codes so far
abbrev pub invariant-loop-label : goal.invariant-loop-label
invariant-loop-label l = record {
  rows : map (label_of l.labels) l.codes.items ≡ take l.label-index l.rows;
  below : All (IsCodeBelow (length l.labels)) l.codes.items;
}
