use Rattle.{
  script_state.proofs.{Rides.{costs_same}, Worlds.{keeps_same}},
  script_session.proofs.Answering.{fails, follows, runs_out, does, set_name},
}
use Rattle.script_session.proofs.statements.bind.Goals as goal

pub returns-in_err-value : goal.returns-in_err-value
returns-in_err-value g c = fails _ c.in_err-value.ensures (search)

pub returns-in_err-set_name : goal.returns-in_err-set_name
returns-in_err-set_name g c = follows _ c.in_ok-value.ensures (runs_out (search) c.in_err-set_name.ensures.err c.set_name.ensures.world)

pub returns : goal.returns
returns g c =
    let x = c.in_ok-value.ensures in
    follows _ x (does c.set_name.new.self _
    (set_name c.evaluate.new.work c.set_name.new.self c.args.name.now _ c.in_ok-value.value x.found.object (rw c.as_str.ensures at c.in_ok-set_name.ensures.ok) c.set_name.ensures.world) c.quiet.ensures.printed c.quiet.ensures.warned
    (keeps_same _ _ c.set_name.ensures.world).texts (costs_same c.set_name.ensures.tab))
