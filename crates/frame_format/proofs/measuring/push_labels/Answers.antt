use Rattle.{
  meaning_format.proofs.cells.Common.{arith, append_assoc},
  std.proofs.{Common.{append-nil}, lemmas.Grind.{flat_map-append}},
  frame_format.proofs.FieldLaws.{places_more},
}
use Rattle.frame_format.proofs.measuring.push_labels.Goals as goal

pub loop-level-preserved : goal.loop-level-preserved
loop-level-preserved = grind (arith, append_assoc, append-nil, places_more, flat_map-append)
