use Rattle.{
  frame_parts.proofs.Common.{◌<◌, length, arith},
  frame_select.proofs.TakeLaws.{place_inside},
  frame_labels.proofs.NamedLaws.{marks_more},
}
use Rattle.frame_labels.proofs.named_columns.marked.Goals as goal

pub loop-k-preserved : goal.loop-k-preserved
loop-k-preserved c =
    let lt : c.loop-k.k < length c.args.places.now = omega arith in
    search (marks_more, place_inside)
