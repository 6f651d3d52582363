use Rattle.{
  frame_parts.proofs.Common.{arith, ap, nat_eq, nat_tests, refl},
  frame_select.proofs.{NamedLaws.{label_found}},
}
use Rattle.frame_select.proofs.labels.label_columns.Goals as goal

pub returns-clause-answer : goal.returns-clause-answer
returns-clause-answer c =
    label_found c.args.dict.now c.args.on.now c.args.label _ c.requires.whole c.requires.shape c.requires.label c.in_ok-places.ensures.places _ (grind (arith, nat_tests)) refl (ap (λ n. nat_eq n 1) c.len-single.ensures) refl refl
