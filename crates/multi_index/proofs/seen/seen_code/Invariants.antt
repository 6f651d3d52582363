use Rattle.index_core.{proofs.cells.Common.{◌≡◌, ◌≤◌, false, length, take, list_any}, specs.Labels.{same_number}}
use Rattle.multi_index.specs.Levels.{seen_labels}
use Rattle.multi_index.proofs.seen.seen_code.Given as goal

-- the labels of the rows so far, of which none is the one
abbrev pub invariant-loop-row : goal.invariant-loop-row
invariant-loop-row l = record {
  counted : l.count ≡ length (seen_labels (take l.row l.rows));
  few : l.count ≤ l.row;
  before : list_any (same_number l.label) (seen_labels (take l.row l.rows)) ≡ false;
}
