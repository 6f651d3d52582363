use Rattle.{
  frame_parts.proofs.Common.{arith},
  frame_make.proofs.FrameLaws.{on_ok, tuple_labels},
  frame_signatures.proofs.ScalarLaws.{scalars_are},
}
use Rattle.frame_make.proofs.index.put_labels.Goals as goal

pub returns-in-Some : goal.returns-in-Some
returns-in-Some c =
    on_ok _ _ c.push_labels.result
    (λ made live texts. grind (arith, scalars_are, tuple_labels, c.in-Some.ensures.parts live texts))
    c.push_labels.ensures
