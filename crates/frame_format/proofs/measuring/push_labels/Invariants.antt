use Rattle.meaning_format.{proofs.cells.Common.{◌≡◌, ◌++◌, slice_index}, specs.Print.{side_by_side, level_text, repeats}}
use Rattle.frame_format.proofs.measuring.push_labels.Given as goal

abbrev pub invariant-loop-level : goal.invariant-loop-level
invariant-loop-level g l = record {
  repeated : l.repeated ≡ repeats l.source l.row l.level;
  text : l.out ≡ l.fn.out ++ side_by_side l.gap l.level (slice_index l.widths) (level_text l.source l.row);
}
