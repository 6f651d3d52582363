use Rattle.{
  frame_parts.proofs.Common.{arith},
  frame_select.proofs.HeadingLaws.{label_settled},
}
use Rattle.frame_select.proofs.planning.value_plan.Goals as goal

pub label_columns-requires-clause-label : goal.label_columns-requires-clause-label
label_columns-requires-clause-label c = label_settled _ _ _ c.from.ensures.1 (λ more. grind (arith, rw c.in-Scalar.is at c.requires.value.given))
