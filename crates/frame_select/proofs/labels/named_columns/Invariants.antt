use Rattle.{
  frame_parts.{proofs.Common.{◌≡◌, ◌<◌, drop, map, length, All, IsSettled, cell_label, table_value, heading_value, try_all, cells_value}, specs.form.Select.{first_column, label_of_several}},
  frame_select.proofs.{HeadingLaws.{made_after, labels_seen}, NamedLaws.{or_several}},
}
use Rattle.frame_select.proofs.labels.named_columns.Given as goal

-- the places so far, before those of the other labels, and the first label so far that several columns have
abbrev pub invariant-loop-k : goal.invariant-loop-k
invariant-loop-k l = record {
  places : made_after (first_column (table_value l.dict l.on)) l.places (drop l.k (labels_seen l.dict l.cells)) ≡ try_all (first_column (table_value l.dict l.on)) (map cell_label (cells_value l.dict l.cells));
  repeated : or_several (table_value l.dict l.on) (heading_value l.dict l.repeated) (drop l.k (labels_seen l.dict l.cells)) ≡ label_of_several (table_value l.dict l.on) (map cell_label (cells_value l.dict l.cells));
  given : IsSettled heading_value l.dict l.repeated;
  inside : All (λ place. place < length l.on.columns) l.places;
}
