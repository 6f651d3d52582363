use Rattle.frame_calls.proofs.frame_parts.Common.{refl}
use Rattle.script_state.proofs.{Bindings.{swept_live, swept_noted, swept_settled}, Validity.{swept_valid}}
use Rattle.script_state.proofs.work.Work.sweep.Goals as goal

pub invariant_of-self : goal.invariant_of-self
invariant_of-self c = search (swept_settled, swept_valid, swept_live, swept_noted)

pub returns-clause-tab : goal.returns-clause-tab
returns-clause-tab c = record { charge = refl; held = c.sweep.ensures.held }
