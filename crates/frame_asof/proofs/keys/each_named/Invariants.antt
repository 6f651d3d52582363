use Rattle.{frame_parts.proofs.Common.{◌≡◌, drop, length, table_value}, frame_merge.specs.Keys.{cell_labels}, frame_store.specs.Parts.{AreColumnsOf}, frame_asof.{specs.Keys.{together_named}, proofs.KeyLaws.{rest_named}}}
use Rattle.frame_asof.proofs.keys.each_named.Given as goal

-- the columns so far, before those of the other labels
abbrev pub invariant-loop-k : goal.invariant-loop-k
invariant-loop-k l = record {
  places : rest_named (table_value l.dict l.l) (table_value l.dict l.r) l.left l.right (cell_labels l.dict (drop l.k l.labels)) ≡ together_named (table_value l.dict l.l) (table_value l.dict l.r) (cell_labels l.dict l.labels);
  left : AreColumnsOf l.l l.left;
  right : AreColumnsOf l.r l.right;
  left_count : length l.left ≡ l.k;
  right_count : length l.right ≡ l.k;
}
