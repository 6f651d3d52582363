use Rattle.{
  frame_parts.proofs.Common.{arith, to_z-of_z, w64},
  frame_labels.proofs.AnswerLaws.{forms_so},
  frame_methods.proofs.RowLaws.{first_meant, rows_read},
}
use Rattle.frame_methods.proofs.rows.head.Goals as goal

pub returns : goal.returns
returns c = λ texts settled.
    let all = rows_read texts _ _ _ c.read.ensures.table c.rows.ensures in
    let counted = rw (to_z-of_z w64 c.args.n c.ranges.n) at c.count_taken-count.ensures.taken in
    forms_so _ _ _ _ _ _
    (grind (arith, first_meant))
    (c.sliced.ensures texts settled)
