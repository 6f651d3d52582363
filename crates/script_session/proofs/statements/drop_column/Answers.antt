use Rattle.{
  script_state.proofs.{cells.Common.{sym, Some, Ok, Err}, laws.SetFaults.{removal_result_fault}, Evaluations.{known_after, seen_after, names_value}, Worlds.{of_value}},
  script_session.proofs.{Answering.{fails, follows, alone, free_set, set_does, set_done, set_refused, state_after}, Settings.{set_apart}},
}
use Rattle.script_session.proofs.statements.drop_column.Goals as goal

pub returns-in_err-on-clause-executes : goal.returns-in_err-on-clause-executes
returns-in_err-on-clause-executes g c = fails _ (names_value c.args.work.now _ (Err _) tt c.in_err-on.ensures.fault) (search)

pub returns-in_err-label-clause-executes : goal.returns-in_err-label-clause-executes
returns-in_err-label-clause-executes g c =
    follows _ (names_value c.args.work.now _ (Ok c.in_ok-on.on) c.in_ok-on.ensures.found tt) (fails _ c.in_err-label.ensures (search))

pub remove-requires-clause-on : goal.remove-requires-clause-on
remove-requires-clause-on g c = known_after c.in_ok-label.ensures of_value c.in_ok-on.ensures.found.known

pub returns-in-Ok-clause-executes : goal.returns-in-Ok-clause-executes
returns-in-Ok-clause-executes g c =
    let on = c.in_ok-on.on in
    let named = c.in_ok-on.ensures.found in
    let x = c.in_ok-label.ensures in
    let sets = alone _ _ _ c.evaluate.new.work c.remove.new.self c.remove.ensures.names c.remove.ensures.sets c.remove.ensures.charge in
    follows _ (names_value c.args.work.now _ (Ok on) named tt) (follows _ x (set_does c.evaluate.new.work c.remove.new.self sets (Some c.args.name.now)
    (λ fs. rw (← seen_after x of_value named.known) (free_set _ _)) (rw x.names named.object) c.in-Ok.is c.quiet.ensures.printed c.quiet.ensures.warned))

pub returns-in-Ok-clause-apart : goal.returns-in-Ok-clause-apart
returns-in-Ok-clause-apart g c =
    let named = c.in_ok-on.ensures.found in
    let x = c.in_ok-label.ensures in
    set_apart _ _ _ (Some c.args.name.now) _ _ _ (set_done c.evaluate.new.work c.remove.new.self (alone _ _ _ c.evaluate.new.work c.remove.new.self c.remove.ensures.names c.remove.ensures.sets c.remove.ensures.charge) (Some c.args.name.now) (rw x.names named.object) c.in-Ok.is) (sym (state_after x))

pub returns-in-Err-clause-executes : goal.returns-in-Err-clause-executes
returns-in-Err-clause-executes g c =
    let on = c.in_ok-on.on in
    let named = c.in_ok-on.ensures.found in
    let x = c.in_ok-label.ensures in
    let sets = alone _ _ _ c.evaluate.new.work c.remove.new.self c.remove.ensures.names c.remove.ensures.sets c.remove.ensures.charge in
    follows _ (names_value c.args.work.now _ (Ok on) named tt) (follows _ x
    (set_refused c.evaluate.new.work c.remove.new.self sets (Some c.args.name.now) c.in-Err.fault (λ fs. rw (← seen_after x of_value named.known) (free_set _ _)) (search removal_result_fault) c.in-Err.is c.marked.ensures))
