use Rattle.{
  script_state.{proofs.{cells.Common.{refl, sym, ◌∙◌}, laws.SetFaults.{assign_result_fault}, Evaluations.{known_after, seen_after}, Worlds.{of_argument, of_value}}, specs.script.Expression.{named_by}},
  script_tree.specs.View.{expr_of},
  script_session.proofs.{Answering.{fails, follows, set_does, set_done, set_refused, state_after}, Settings.{set_apart}},
}
use Rattle.script_session.proofs.statements.put.Goals as goal

pub returns-in_err-value-clause-executes : goal.returns-in_err-value-clause-executes
returns-in_err-value-clause-executes g c = fails _ c.in_err-value.ensures (search)

pub returns-in_err-on-clause-executes : goal.returns-in_err-on-clause-executes
returns-in_err-on-clause-executes g c = follows _ c.in_ok-value.ensures (fails _ c.in_err-on.ensures (search))

pub returns-in_err-by-clause-executes : goal.returns-in_err-by-clause-executes
returns-in_err-by-clause-executes g c = follows _ c.in_ok-value.ensures (follows _ c.in_ok-on.ensures (fails _ c.in_err-by.ensures (search)))

pub assign-requires : goal.assign-requires
assign-requires g c =
    let y = c.in_ok-on.ensures in
    let z = c.in_ok-by.ensures in
    record {
      on = known_after z of_value y.found.known;
      first = z.found.0;
      second = z.found.1;
      value = known_after z of_argument (known_after y of_argument c.in_ok-value.ensures.found);
    }

pub returns-in-Ok-clause-executes : goal.returns-in-Ok-clause-executes
returns-in-Ok-clause-executes g c =
    let x = c.in_ok-value.ensures in
    let y = c.in_ok-on.ensures in
    let z = c.in_ok-by.ensures in
    follows _ x (follows _ y (follows _ z (set_does c.last_step.new.work c.assign.new.self c.assign.ensures (named_by (expr_of c.args.target.now))
    (λ fs. rw (← seen_after y of_argument x.found, ← seen_after z of_argument (known_after y of_argument x.found), ← seen_after z of_value y.found.known) refl)
    (rw z.names y.found.object) c.in-Ok.is c.quiet.ensures.printed (c.quiet.ensures.warned ∙ c.is_chained-warned.ensures))))

pub returns-in-Ok-clause-apart : goal.returns-in-Ok-clause-apart
returns-in-Ok-clause-apart g c =
    let x = c.in_ok-value.ensures in
    let y = c.in_ok-on.ensures in
    let z = c.in_ok-by.ensures in
    set_apart _ _ _ _ _ _ _ (set_done c.last_step.new.work c.assign.new.self c.assign.ensures (named_by (expr_of c.args.target.now)) (rw z.names y.found.object) c.in-Ok.is) (sym (state_after z ∙ state_after y ∙ state_after x))

pub returns-clause-executes : goal.returns-clause-executes
returns-clause-executes g c =
    let x = c.in_ok-value.ensures in
    let y = c.in_ok-on.ensures in
    let z = c.in_ok-by.ensures in
    follows _ x (follows _ y (follows _ z
    (set_refused c.last_step.new.work c.assign.new.self c.assign.ensures (named_by (expr_of c.args.target.now)) c.in-Err.fault
    (λ fs. rw (← seen_after y of_argument x.found, ← seen_after z of_argument (known_after y of_argument x.found), ← seen_after z of_value y.found.known) refl)
    (search assign_result_fault) c.in-Err.is (cc (c.marked.ensures, c.is_chained-warned.ensures)))))
