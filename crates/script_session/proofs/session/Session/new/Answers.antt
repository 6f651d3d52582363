use Rattle.script_state.{proofs.cells.Common.{arith, ap, subst, IsSome}, specs.Reads.{Tab}}
use Rattle.script_session.proofs.session.Session.new.Goals as goal

pub invariant_of-result : goal.invariant_of-result
invariant_of-result c = record { swept = λ id live. let none = subst (λ h. IsSome (h id)) c.new.ensures.objects live in Prim.cc }

pub returns-clause-within : goal.returns-clause-within
returns-clause-within c = record { held = omega (arith, ap (λ (t : Tab). t.held) c.new.ensures.tab); peak = omega arith }

pub returns-clause-charge : goal.returns-clause-charge
returns-clause-charge c = ap (λ (t : Tab). t.charge) c.new.ensures.tab
