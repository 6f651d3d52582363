use Rattle.{
  frame_parts.proofs.Common.{arith},
  frame_select.proofs.CutLaws.{label_first, name_of_one, name_of_several},
}
use Rattle.frame_select.proofs.selecting.row_name.Goals as goal

pub returns-then-levels-eq1 : goal.returns-then-levels-eq1
returns-then-levels-eq1 c = λ texts.
    let tuples = c.args.on.now.labels in
    let alike = rw c.axis-axis.ensures at c.levels.ensures.alike in
    let at = rw c.axis-axis.ensures at c.label.ensures in
    name_of_one _ _ _ (grind arith) (search label_first)

pub returns-else-levels-eq1 : goal.returns-else-levels-eq1
returns-else-levels-eq1 c = λ texts.
    name_of_several texts _ (λ one. c.if-levels-eq1.false (grind arith))
