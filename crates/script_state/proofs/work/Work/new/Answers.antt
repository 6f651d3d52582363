use Rattle.{
  frame_calls.proofs.frame_parts.Common.{refl, sym, subst, IsSome, IsSettled, shown},
  meaning_laws.specs.Validity.{AreValid},
}
use Rattle.script_state.proofs.work.Work.new.Goals as goal

pub invariant_of-result-clause-settled : goal.invariant_of-result-clause-settled
invariant_of-result-clause-settled c = subst (λ h. IsSettled shown c.new.result h) (sym c.new-3.ensures.tables) (λ more. refl)

pub invariant_of-result-clause-valid : goal.invariant_of-result-clause-valid
invariant_of-result-clause-valid c = subst (λ h. AreValid (shown c.new.result h)) (sym c.new-3.ensures.tables) (λ id t is. Prim.cc)

pub invariant_of-result-clause-noted : goal.invariant_of-result-clause-noted
invariant_of-result-clause-noted c = λ id live. let none = subst (λ h. IsSome (h id)) c.new-3.ensures.tables live in Prim.cc

pub returns-clause-tab : goal.returns-clause-tab
returns-clause-tab c = λ i. record { charge = 0; held = c.new-3.ensures.holding i }
