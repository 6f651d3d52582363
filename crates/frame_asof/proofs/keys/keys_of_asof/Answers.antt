use Rattle.{
  frame_parts.proofs.Common.{arith, nat_tests, refl, true, false, rules, err_from_is_err_and},
  frame_asof.proofs.KeyLaws.{checked, unnamed_so},
}
use Rattle.frame_asof.proofs.keys.keys_of_asof.Goals as goal

pub returns-in_err-keys-clause-answer : goal.returns-in_err-keys-clause-answer
returns-in_err-keys-clause-answer c =
    let p = err_from_is_err_and c.from_residual-in_err-keys.result c.from_residual-in_err-keys.ensures.1 in
    rw (p.1, p.2) (unnamed_so _ c.args.l.now c.args.r.now c.args.asof.now _ _ c.in_ok-labels.ensures c.in_err-keys.ensures.answer)

pub returns-then-not-are_asof_kinds-clause-answer : goal.returns-then-not-are_asof_kinds-clause-answer
returns-then-not-are_asof_kinds-clause-answer c =
    (checked _ c.args.l.now c.args.r.now c.args.asof.now _ _ false _ c.in_ok-labels.ensures c.in_ok-keys.ensures.answer (search rules) refl, λ more. refl)

pub returns-then-len-gt4-clause-answer : goal.returns-then-len-gt4-clause-answer
returns-then-len-gt4-clause-answer c =
    (checked _ c.args.l.now c.args.r.now c.args.asof.now _ _ true true c.in_ok-labels.ensures c.in_ok-keys.ensures.answer (search rules) (grind (arith, nat_tests)), λ more. refl)

pub returns-clause-answer : goal.returns-clause-answer
returns-clause-answer c =
    checked _ c.args.l.now c.args.r.now c.args.asof.now _ _ true false c.in_ok-labels.ensures c.in_ok-keys.ensures.answer (search rules) (grind (arith, nat_tests))
