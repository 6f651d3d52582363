use Rattle.{
  frame_parts.proofs.Common.{nat_tests, refl, true, false, arith, rules},
  frame_merge.proofs.KeyLaws.{checked_by},
}
use Rattle.frame_merge.proofs.keys.keys_of_merge.Goals as goal

pub returns-then-not-are_same_kinds-clause-answer : goal.returns-then-not-are_same_kinds-clause-answer
returns-then-not-are_same_kinds-clause-answer c =
    (checked_by _ c.args.l.now c.args.r.now _ _ false _ c.in_ok-keys.ensures.answer (search rules) refl, λ more. refl)

pub returns-then-len-gt4-clause-answer : goal.returns-then-len-gt4-clause-answer
returns-then-len-gt4-clause-answer c =
    (checked_by _ c.args.l.now c.args.r.now _ _ true true c.in_ok-keys.ensures.answer (search rules) (grind (arith, nat_tests)), λ more. refl)

pub returns-clause-answer : goal.returns-clause-answer
returns-clause-answer c =
    checked_by _ c.args.l.now c.args.r.now _ _ true false c.in_ok-keys.ensures.answer (search rules) (grind (arith, nat_tests))
