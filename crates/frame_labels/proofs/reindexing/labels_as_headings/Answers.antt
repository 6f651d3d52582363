use Rattle.{
  frame_parts.proofs.Common.{◌<◌, [], sym, length, arith, label_there},
  multi_index.proofs.SideLaws.{one_row_more},
  frame_labels.proofs.ReindexLaws.{heading_there},
}
use Rattle.frame_labels.proofs.reindexing.labels_as_headings.Goals as goal

pub loop-row-preserved : goal.loop-row-preserved
loop-row-preserved c =
    let axis = c.args.axis.now in
    let row = c.loop-row.row in
    let lt : row < length axis.tuples = omega arith in
    one_row_more _ _ _ [] _ [] _ _ lt (sym (heading_there _ _ (c.requires.alike row [] lt) (label_there axis row 0 _ lt c.label.ensures))) c.loop-row.invariant c.in_ok-push.ensures.items
