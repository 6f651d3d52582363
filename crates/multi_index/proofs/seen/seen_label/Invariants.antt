use Rattle.index_core.proofs.cells.Common.{◌≡◌, ◌≤◌, length, take}
use Rattle.multi_index.specs.Levels.{seen_labels}
use Rattle.multi_index.proofs.seen.seen_label.Given as goal

-- the labels of the rows so far, of which none has the code
abbrev pub invariant-loop-row : goal.invariant-loop-row
invariant-loop-row l = record {
  counted : l.count ≡ length (seen_labels (take l.row l.rows));
  few : l.count ≤ l.row;
  before : l.count ≤ l.code;
}
