use Rattle.{
  frame_parts.proofs.Common.{◌<◌, ◌≡◌, [], length, slice_index_or, arith, label_there},
  multi_index.proofs.pick.RowLaws.{rows_more_yes, rows_more_no},
  frame_labels.{specs.Section.{has_number}, proofs.cross_section.rows_with_label.Goals.{then-eq+in_ok-push}},
}
use Rattle.frame_labels.proofs.cross_section.rows_with_label.Goals as goal

pub loop-row-preserved : goal.loop-row-preserved
loop-row-preserved c =
    let axis = c.args.axis.now in
    let row = c.loop-row.row in
    let has = has_number c.args.level c.args.label in
    let lt : row < length axis.tuples = omega arith in
    let read : has (slice_index_or axis.tuples row []) ≡ c.eq.result = cc (label_there axis row c.args.level c.label.result lt c.label.ensures, c.eq.ensures) in
    grind (arith, then-eq+in_ok-push, rows_more_yes, rows_more_no)
