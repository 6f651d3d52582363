use Rattle.{
  script_state.proofs.{cells.Common.{refl}, Rides.{costs_same}},
  frame_store.proofs.Settling.{longer_self},
  script_session.proofs.Answering.{fails, follows, runs_out, does},
}
use Rattle.script_session.proofs.statements.print.Goals as goal

pub returns-in_err-value : goal.returns-in_err-value
returns-in_err-value g c = fails _ c.in_err-value.ensures (search)

pub returns-in_err-printed : goal.returns-in_err-printed
returns-in_err-printed g c = follows _ c.in_ok-value.ensures (runs_out (search) refl refl)

pub returns : goal.returns
returns g c = follows _ c.in_ok-value.ensures (does c.evaluate.new.work _ refl (rw c.as_str-end.ensures at c.in_ok-printed.ensures) refl (longer_self _) (costs_same refl))
