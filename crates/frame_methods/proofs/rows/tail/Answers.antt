use Rattle.{
  frame_parts.proofs.Common.{◌∙◌, ap, to_z-of_z, w64, object_value, tables},
  multi_index.specs.pick.Positions.{rows_before},
  frame_labels.proofs.AnswerLaws.{forms_so},
  frame_methods.proofs.RowLaws.{last_meant, rows_read},
}
use Rattle.frame_methods.proofs.rows.tail.Goals as goal

pub returns : goal.returns
returns c = λ texts settled.
    let t = object_value (tables c.args.store.now) texts c.args.on in
    let count = c.count_taken-count.result in
    let all = rows_read _ _ _ _ c.read.ensures.table c.rows-all.ensures in
    let counted = rw (to_z-of_z w64 c.args.n c.ranges.n) at c.count_taken-count.ensures.taken in
    forms_so _ _ _ _ _ _
    (cc (last_meant t c.args.n count (counted ∙ ap (λ k. rows_before k c.args.n) all)))
    (c.sliced.ensures texts settled)
