use Rattle.{
  script_session.proofs.cells.Common.{arith, inl, inr, refl, ◌∙◌},
  std.specs.FinMap.{empty},
  script_run.{specs.Ends.{outside}, proofs.{ErrorLaws.{given_files, leaves_cut, never_read, reports_refusal, reports_same, reports_warning, risen_before}, RunLaws.{err_is, goes_on, goes_refused, stops_fault, stops_input, stops_memory, stops_showing, stops_warning}}},
}
use Rattle.script_run.proofs.advancing.advance.Goals as goal

pub returns-in_err-warn-in-Ok-clause-stops : goal.returns-in_err-warn-in-Ok-clause-stops
returns-in_err-warn-in-Ok-clause-stops g c =
    stops_warning (λ held. (c.in-Ok.ensures.answers held).goes) _ _ _ _ _ _ (search) c.in_err-warn-in-Ok.ensures.status refl c.in_err-warn-in-Ok.ensures.part

pub returns-in_err-warn-in-Err-Refused-clause-stops : goal.returns-in_err-warn-in-Err-Refused-clause-stops
returns-in_err-warn-in-Err-Refused-clause-stops g c =
    let answers = rw c.in-Err-Refused.field-0-is at c.in-Err-Refused.ensures.answers in
    stops_warning (λ held. (answers held).0) _ _ _ _ _ _ (search) c.in_err-warn-in-Err-Refused.ensures.status refl c.in_err-warn-in-Err-Refused.ensures.part

pub returns-in_err-warn-in-Err-Refused-clause-errors : goal.returns-in_err-warn-in-Err-Refused-clause-errors
returns-in_err-warn-in-Err-Refused-clause-errors g c =
    err_is c.from_residual-in_err-warn-in-Err-Refused.result _ _ c.in_err-warn-in-Err-Refused.ensures.status (search) (leaves_cut _ _ _ _ _ _ c.in_err-warn-in-Err-Refused.ensures.status (λ is. reports_same _ _ _ _ _ (c.in_err-warn-in-Err-Refused.ensures.unbegun is)))

-- the text could not be written
pub returns-in_err-show-in-Ok-clause-stops : goal.returns-in_err-show-in-Ok-clause-stops
returns-in_err-show-in-Ok-clause-stops g c =
    let (is, part, risen) = c.in_err-show-in-Ok.ensures.part in
    err_is c.from_residual-in_err-show-in-Ok.result _ _ (inl is) (search) (stops_showing (λ held. (c.in-Ok.ensures.answers held).goes) _ _ _ _ c.in_ok-warn-in-Ok.ensures.shown _ is (grind arith) risen)

-- the line of the fault could not be written
pub returns-in_err-show_fault-in-Err-Refused-clause-stops : goal.returns-in_err-show_fault-in-Err-Refused-clause-stops
returns-in_err-show_fault-in-Err-Refused-clause-stops g c =
    let answers = rw c.in-Err-Refused.field-0-is at c.in-Err-Refused.ensures.answers in
    err_is c.from_residual-in_err-show_fault-in-Err-Refused.result _ _ c.in_err-show_fault-in-Err-Refused.ensures.status (search)
    (stops_fault (λ held. (answers held).0) _ _ _ _ _ _ c.in_err-show_fault-in-Err-Refused.ensures.status refl c.in_ok-warn-in-Err-Refused.ensures.shown (rw c.texts.ensures at c.in_err-show_fault-in-Err-Refused.ensures.part))

pub returns-in_err-show_fault-in-Err-Refused-clause-ends : goal.returns-in_err-show_fault-in-Err-Refused-clause-ends
returns-in_err-show_fault-in-Err-Refused-clause-ends g c = err_is c.from_residual-in_err-show_fault-in-Err-Refused.result _ _ c.in_err-show_fault-in-Err-Refused.ensures.status (search) (inr c.in_err-show_fault-in-Err-Refused.ensures.status)

pub returns-in_err-show_fault-in-Err-Refused-clause-input : goal.returns-in_err-show_fault-in-Err-Refused-clause-input
returns-in_err-show_fault-in-Err-Refused-clause-input g c = err_is c.from_residual-in_err-show_fault-in-Err-Refused.result _ _ c.in_err-show_fault-in-Err-Refused.ensures.status (search) (λ is. absurd (never_read _ c.in_err-show_fault-in-Err-Refused.ensures.status is))

pub returns-in_err-show_fault-in-Err-Refused-clause-output : goal.returns-in_err-show_fault-in-Err-Refused-clause-output
returns-in_err-show_fault-in-Err-Refused-clause-output g c =
    err_is c.from_residual-in_err-show_fault-in-Err-Refused.result _ _ c.in_err-show_fault-in-Err-Refused.ensures.status (search) (λ is. inr (risen_before _ _ _ c.in_ok-warn-in-Err-Refused.ensures.faults (c.in_err-show_fault-in-Err-Refused.ensures.output is)))

pub returns-in_err-show_fault-in-Err-Refused-clause-errors : goal.returns-in_err-show_fault-in-Err-Refused-clause-errors
returns-in_err-show_fault-in-Err-Refused-clause-errors g c =
    err_is c.from_residual-in_err-show_fault-in-Err-Refused.result _ _ c.in_err-show_fault-in-Err-Refused.ensures.status (search)
    (leaves_cut _ _ _ _ _ _ c.in_err-show_fault-in-Err-Refused.ensures.status (λ is. reports_warning _ _ _ _ _ _ _ (c.in_err-show_fault-in-Err-Refused.ensures.unbegun is ∙ c.in_ok-warn-in-Err-Refused.ensures.shown)))

-- the statement was done
pub returns-in_ok-show-in-Ok-clause-on : goal.returns-in_ok-show-in-Ok-clause-on
returns-in_ok-show-in-Ok-clause-on g c =
    let at = outside g.F.Files.seen g.O.Sink.seen g.E.Sink.seen in
    goes_on c.in-Ok.ensures.answers _ _ _ _ _ c.in-Ok.ensures.peak c.in-Ok.ensures.rows (at c.args.files.now c.args.out.now c.args.err.now) (at c.step.new.files c.show.new.out c.warn.new.err) c.in_ok-warn-in-Ok.ensures.shown refl refl
    (rw c.as_str.ensures at c.in_ok-show-in-Ok.ensures.shown) c.in_ok-show-in-Ok.ensures.faults c.in_ok-warn-in-Ok.ensures.faults

pub returns-in_ok-show-in-Ok-clause-lines : goal.returns-in_ok-show-in-Ok-clause-lines
returns-in_ok-show-in-Ok-clause-lines g c = reports_warning _ _ _ _ _ _ _ c.in_ok-warn-in-Ok.ensures.shown

-- the statement was refused
pub returns-in_ok-show_fault-in-Err-Refused-clause-on : goal.returns-in_ok-show_fault-in-Err-Refused-clause-on
returns-in_ok-show_fault-in-Err-Refused-clause-on g c =
    let at = outside g.F.Files.seen g.O.Sink.seen g.E.Sink.seen in
    let answers = rw c.in-Err-Refused.field-0-is at c.in-Err-Refused.ensures.answers in
    goes_refused (λ held. (answers held).0) _ _ _ _ _ (at c.args.files.now c.args.out.now c.args.err.now) (at c.step.new.files c.args.out.now c.show_fault.new.err) _ c.in-Err-Refused.ensures.same c.in-Err-Refused.ensures.charge
    (omega (arith, c.in-Err-Refused.ensures.peak)) c.in_ok-warn-in-Err-Refused.ensures.shown (rw c.texts.ensures at c.in_ok-show_fault-in-Err-Refused.ensures.shown) refl refl refl
    (omega arith) (omega (arith, c.in_ok-warn-in-Err-Refused.ensures.faults, c.in_ok-show_fault-in-Err-Refused.ensures.faults))

pub returns-in_ok-show_fault-in-Err-Refused-clause-lines : goal.returns-in_ok-show_fault-in-Err-Refused-clause-lines
returns-in_ok-show_fault-in-Err-Refused-clause-lines g c =
    let answers = rw c.in-Err-Refused.field-0-is at c.in-Err-Refused.ensures.answers in
    reports_refusal _ _ _ _ _ _ _ _ _ c.in-Err-Refused.ensures.serves.absences (given_files _ _ (g.F.Files.seen c.args.files.now) (g.F.Files.seen c.step.new.files) _ (answers empty).1) c.in_ok-warn-in-Err-Refused.ensures.shown
    (rw c.texts.ensures at c.in_ok-show_fault-in-Err-Refused.ensures.shown)

pub returns-in-Err-Input-clause-stops : goal.returns-in-Err-Input-clause-stops
returns-in-Err-Input-clause-stops g c =
    let at = outside g.F.Files.seen g.O.Sink.seen g.E.Sink.seen in
    stops_input _ _ (at c.args.files.now c.args.out.now c.args.err.now) (at c.step.new.files c.args.out.now c.say_unread.new.err) (rw c.in-Err-Input.field-0-is at c.in-Err-Input.ensures.answers) refl refl refl c.say_unread.ensures.front c.say_unread.ensures.whole

pub returns-in-Err-Input-clause-input : goal.returns-in-Err-Input-clause-input
returns-in-Err-Input-clause-input g c =
    let answers = rw c.in-Err-Input.field-0-is at c.in-Err-Input.ensures.answers in
    λ is. (answers empty).risen

pub returns-in-Err-NoMemory-clause-stops : goal.returns-in-Err-NoMemory-clause-stops
returns-in-Err-NoMemory-clause-stops g c = stops_memory _ _ _ _ (outside g.F.Files.seen g.O.Sink.seen g.E.Sink.seen c.args.files.now c.args.out.now c.args.err.now)
