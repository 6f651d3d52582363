use Rattle.{script_session.{proofs.{cells.Common.{◌≡◌, ◌≢◌, ◌+◌, ◌∙◌, ◌||◌, ap, drop, refl, subst, sym, arith, true, IfSome, Contents, Text}, script_state.Rides.{serves_both, serves_self}}, specs.{script.{Reading.{Reading}, State.{State, no_names}, Statement.{Answer, statement_result}, Run.{RunResult, statements_result}}, script_state.Reads.{files_in, paths_of}, Session.{state_of}}}, std.proofs.Common.{ap₂, true≢false}, script_tree.specs.{View.{action_of, statement_of}, ScriptView.{statements_of}}, script_words.specs.CommandLine.{flags_of}, script_run.{specs.{Errors.{Reports}, Ends.{outside, EndsWithLine}, Steps.{tally_of, was_refused, after_turn, ComesTo, GoesOn, Stops}, declared.status.Status.{Status, TheVariants.{Done, Usage}}}, proofs.{StepLaws.{Written}, Options.{both_so, one_so, only_so, some-always, some-both, some-weaker}, RunLaws.{comes_more, comes_none, ends_nothing, left_is, next-result, none_left}, StatsLaws.{cut_left, done_plain, done_stated, fault_stated, stops_stated}, ErrorLaws.{IsSoFar, leaves_done, leaves_later, leaves_refused, leaves_stats, never_usage, reports_nothing, reports_turn}}}}
use Rattle.script_run.proofs.running.run_script.Goals as goal

pub returns-in-Err-clause-told : goal.returns-in-Err-clause-told
returns-in-Err-clause-told g c =
    let at = outside g.F.Files.seen g.O.Sink.seen g.E.Sink.seen in
    let keep_going = c.args.flags.keep_going in
    let ss = statements_of c.args.script.now in
    let i = c.loop-i.i in
    let old = at c.args.files.now c.args.out.now c.args.err.now in
    let mid = at c.loop-i.files c.loop-i.out c.loop-i.err in
    let new = at c.advance.new.files c.advance.new.out c.advance.new.err in
    let status = c.in-Err.status in
    let line = c.statement-statement.result.now.line in
    let first = state_of c.loop-i.session in
    let whole : Contents → RunResult = λ held. statements_result keep_going (files_in c.args.names.now held) no_names ss in
    let rest : Contents → RunResult = λ held. statements_result keep_going (files_in c.args.names.now held) first (drop i ss) in
    let answer : Contents → Reading Answer = λ held. statement_result (files_in c.args.names.now held) first (action_of c.statement-statement.result.now.action) in
    some-both _ _ (λ held. ComesTo (whole held) (after_turn true c.loop-i.faulted (rest held)) (tally_of c.loop-i.session) old mid) (λ held. Stops (answer held) line first status mid new) _
    c.loop-i.invariant.serves.contents c.loop-i.invariant.told c.in-Err.ensures.stops (λ held come stops bounds.
    let next = next-result keep_going (files_in c.args.names.now held) ss i (statement_of c.statement-statement.result.now) first c.statement-statement.ensures in
    stops_stated c.args.flags.stats keep_going c.loop-i.faulted (whole held) (rest held) (tally_of c.loop-i.session) (answer held) line first (λ s. statements_result keep_going (files_in c.args.names.now held) s (drop (i + 1) ss)) status old mid new bounds come (grind arith) stops)

pub returns-in-Err-clause-errors : goal.returns-in-Err-clause-errors
returns-in-Err-clause-errors g c =
    leaves_later _ (flags_of c.args.flags) c.loop-i.faulted c.loop-i.invariant.keeps _ _ _ c.loop-i.invariant.serves.absences c.in-Err.ensures.serves.absences _ _ _ c.loop-i.invariant.lines _ c.in-Err.ensures.ends c.in-Err.ensures.errors

pub returns-in-Err-clause-usage : goal.returns-in-Err-clause-usage
returns-in-Err-clause-usage g c = never_usage _ c.in-Err.ensures.ends

-- nothing was done yet
pub loop-i-init : goal.loop-i-init
loop-i-init g c = record {
  told = some-always _ _ (λ held. comes_none _ _ _ _ (ap (λ s. statements_result c.args.flags.keep_going (files_in c.args.names.now held) s (statements_of c.args.script.now)) (sym c.new-session.ensures.state)) c.new-session.ensures.charge);
  keeps = λ is. absurd (true≢false (sym is));
  within = c.new-session.ensures.within;
  lines = search reports_nothing;
  serves = search serves_self;
  out_faults = omega arith;
  err_faults = omega arith;
}

pub returns-then-ends_run-clause-told : goal.returns-then-ends_run-clause-told
returns-then-ends_run-clause-told g c =
    let at = outside g.F.Files.seen g.O.Sink.seen g.E.Sink.seen in
    let keep_going = c.args.flags.keep_going in
    let ss = statements_of c.args.script.now in
    let i = c.loop-i.i in
    let old = at c.args.files.now c.args.out.now c.args.err.now in
    let mid = at c.loop-i.files c.loop-i.out c.loop-i.err in
    let new = at c.advance.new.files c.advance.new.out c.advance.new.err in
    let line = c.statement-statement.result.now.line in
    let first = state_of c.loop-i.session in
    let state = state_of c.advance.new.session in
    let before = tally_of c.loop-i.session in
    let after = tally_of c.advance.new.session in
    let whole : Contents → RunResult = λ held. statements_result keep_going (files_in c.args.names.now held) no_names ss in
    let rest : Contents → RunResult = λ held. statements_result keep_going (files_in c.args.names.now held) first (drop i ss) in
    let answer : Contents → Reading Answer = λ held. statement_result (files_in c.args.names.now held) first (action_of c.statement-statement.result.now.action) in
    let rejected = was_refused c.in-Ok.advanced in
    let ends = both_so rejected keep_going (sym c.ends_run.ensures ∙ c.if-ends_run.true) in
    some-both _ _ (λ held. ComesTo (whole held) (after_turn true c.loop-i.faulted (rest held)) before old mid) (λ held. GoesOn (answer held) line rejected first state before after mid new) _
    c.loop-i.invariant.serves.contents c.loop-i.invariant.told c.in-Ok.ensures.on (λ held come on bounds.
    let go : State → RunResult = λ s. statements_result keep_going (files_in c.args.names.now held) s (drop (i + 1) ss) in
    let next = next-result keep_going (files_in c.args.names.now held) ss i (statement_of c.statement-statement.result.now) first c.statement-statement.ensures in
    let more = comes_more keep_going c.loop-i.faulted rejected (whole held) (rest held) (answer held) line first state go before after old mid new come next on in
    fault_stated c.args.flags.stats (whole held) after old new bounds (subst (λ r. ComesTo (whole held) r after old new) (cut_left keep_going c.loop-i.faulted rejected (go state) ends.0 ends.1) more))

pub returns-then-ends_run-clause-errors : goal.returns-then-ends_run-clause-errors
returns-then-ends_run-clause-errors g c =
    let ends = both_so (was_refused c.in-Ok.advanced) c.args.flags.keep_going (sym c.ends_run.ensures ∙ c.if-ends_run.true) in
    leaves_refused _ (flags_of c.args.flags) c.loop-i.faulted c.loop-i.invariant.keeps _ _ _ c.loop-i.invariant.serves.absences c.in-Ok.ensures.serves.absences _ _ _ c.loop-i.invariant.lines ends.1 (rw ends.0 at c.in-Ok.ensures.lines)

pub loop-i-preserved : goal.loop-i-preserved
loop-i-preserved g c =
    let at = outside g.F.Files.seen g.O.Sink.seen g.E.Sink.seen in
    let keep_going = c.args.flags.keep_going in
    let ss = statements_of c.args.script.now in
    let i = c.loop-i.i in
    let old = at c.args.files.now c.args.out.now c.args.err.now in
    let mid = at c.loop-i.files c.loop-i.out c.loop-i.err in
    let new = at c.advance.new.files c.advance.new.out c.advance.new.err in
    let line = c.statement-statement.result.now.line in
    let first = state_of c.loop-i.session in
    let state = state_of c.advance.new.session in
    let before = tally_of c.loop-i.session in
    let after = tally_of c.advance.new.session in
    let contents = (g.F.Files.seen c.args.files.now).contents in
    let whole : Contents → RunResult = λ held. statements_result keep_going (files_in c.args.names.now held) no_names ss in
    let rest : Contents → RunResult = λ held. statements_result keep_going (files_in c.args.names.now held) first (drop i ss) in
    let answer : Contents → Reading Answer = λ held. statement_result (files_in c.args.names.now held) first (action_of c.statement-statement.result.now.action) in
    let go : Contents → State → RunResult = λ held s. statements_result keep_going (files_in c.args.names.now held) s (drop (i + 1) ss) in
    let next = λ (held : Contents). next-result keep_going (files_in c.args.names.now held) ss i (statement_of c.statement-statement.result.now) first c.statement-statement.ensures in
    let rejected = was_refused c.in-Ok.advanced in
    let is : rejected ≡ c.is_refused-faulted.result = sym c.is_refused-faulted.ensures in
    let keeps = only_so rejected keep_going (sym c.ends_run.ensures ∙ c.if-ends_run.false) in
    record {
      told = subst (λ f. IfSome contents (λ held. ComesTo (whole held) (after_turn true (c.loop-i.faulted || f) (go held state)) after old new)) is
          (some-both _ _ (λ held. ComesTo (whole held) (after_turn true c.loop-i.faulted (rest held)) before old mid) (λ held. GoesOn (answer held) line rejected first state before after mid new) _
          c.loop-i.invariant.serves.contents c.loop-i.invariant.told c.in-Ok.ensures.on (λ held come on.
          subst (λ r. ComesTo (whole held) r after old new) (left_is keep_going c.loop-i.faulted rejected keeps (go held state))
          (comes_more keep_going c.loop-i.faulted rejected (whole held) (rest held) (answer held) line first state (go held) before after old mid new come (next held) on)));
      keeps = one_so _ _ _ c.loop-i.invariant.keeps (λ so. keeps (is ∙ so));
      within = c.in-Ok.ensures.within c.loop-i.invariant.within;
      lines = subst (λ f. Reports (paths_of c.args.names.now) old.files.absences new.files.absences (IsSoFar (c.loop-i.faulted || f)) old.err new.err) is
          (reports_turn _ (flags_of c.args.flags) c.loop-i.faulted c.loop-i.invariant.keeps _ _ _ c.loop-i.invariant.serves.absences c.in-Ok.ensures.serves.absences _ _ _ c.loop-i.invariant.lines rejected c.in-Ok.ensures.lines);
      serves = search serves_both;
      out_faults = omega (arith, c.loop-i.invariant.out_faults, c.in-Ok.ensures.out_faults);
      err_faults = omega (arith, c.loop-i.invariant.err_faults, c.in-Ok.ensures.err_faults);
    }

-- all statements were done or refused
pub returns-then-faulted-clause-told : goal.returns-then-faulted-clause-told
returns-then-faulted-clause-told g c =
    let at = outside g.F.Files.seen g.O.Sink.seen g.E.Sink.seen in
    let keep_going = c.args.flags.keep_going in
    let ss = statements_of c.args.script.now in
    let whole : Contents → RunResult = λ held. statements_result keep_going (files_in c.args.names.now held) no_names ss in
    let rest : Contents → RunResult = λ held. statements_result keep_going (files_in c.args.names.now held) (state_of c.loop-i.session) (drop c.loop-i.i ss) in
    let tally = tally_of c.loop-i.session in
    let old = at c.args.files.now c.args.out.now c.args.err.now in
    let new = at c.loop-i.files c.loop-i.out c.loop-i.err in
    some-weaker _ (λ held. ComesTo (whole held) (after_turn true c.loop-i.faulted (rest held)) tally old new) _ c.loop-i.invariant.told (λ held come bounds.
    let none = none_left keep_going (files_in c.args.names.now held) ss c.loop-i.i (state_of c.loop-i.session) (omega (arith, c.len-i-end.ensures, c.loop-i-test.false)) in
    fault_stated c.args.flags.stats (whole held) tally old new bounds (subst (λ r. ComesTo (whole held) r tally old new) (ap₂ (after_turn true) c.if-faulted.true none) come))

pub returns-then-flags-clause-told : goal.returns-then-flags-clause-told
returns-then-flags-clause-told g c =
    let at = outside g.F.Files.seen g.O.Sink.seen g.E.Sink.seen in
    let keep_going = c.args.flags.keep_going in
    let ss = statements_of c.args.script.now in
    let whole : Contents → RunResult = λ held. statements_result keep_going (files_in c.args.names.now held) no_names ss in
    let rest : Contents → RunResult = λ held. statements_result keep_going (files_in c.args.names.now held) (state_of c.loop-i.session) (drop c.loop-i.i ss) in
    let tally = tally_of c.loop-i.session in
    let old = at c.args.files.now c.args.out.now c.args.err.now in
    let mid = at c.loop-i.files c.loop-i.out c.loop-i.err in
    let new = at c.loop-i.files c.loop-i.out c.end_stats.new.err in
    some-weaker _ (λ held. ComesTo (whole held) (after_turn true c.loop-i.faulted (rest held)) tally old mid) _ c.loop-i.invariant.told (λ held come bounds.
    let none = none_left keep_going (files_in c.args.names.now held) ss c.loop-i.i (state_of c.loop-i.session) (omega (arith, c.len-i-end.ensures, c.loop-i-test.false)) in
    let all = subst (λ r. ComesTo (whole held) r tally old mid) (ap₂ (after_turn true) c.if-faulted.false none) come in
    rw c.if-flags.true (done_stated (whole held) tally c.end_stats.result old mid new all c.loop-i.invariant.within.peak refl refl c.end_stats.ensures.ended))

pub returns-then-flags-clause-errors : goal.returns-then-flags-clause-errors
returns-then-flags-clause-errors g c =
    leaves_stats _ (flags_of c.args.flags) _ _ _ _ _ _ _ _ c.if-flags.true (rw c.if-faulted.false at c.loop-i.invariant.lines) c.end_stats.ensures.ended

pub returns-clause-told : goal.returns-clause-told
returns-clause-told g c =
    let at = outside g.F.Files.seen g.O.Sink.seen g.E.Sink.seen in
    let keep_going = c.args.flags.keep_going in
    let ss = statements_of c.args.script.now in
    let whole : Contents → RunResult = λ held. statements_result keep_going (files_in c.args.names.now held) no_names ss in
    let rest : Contents → RunResult = λ held. statements_result keep_going (files_in c.args.names.now held) (state_of c.loop-i.session) (drop c.loop-i.i ss) in
    let tally = tally_of c.loop-i.session in
    let old = at c.args.files.now c.args.out.now c.args.err.now in
    let new = at c.loop-i.files c.loop-i.out c.loop-i.err in
    some-weaker _ (λ held. ComesTo (whole held) (after_turn true c.loop-i.faulted (rest held)) tally old new) _ c.loop-i.invariant.told (λ held come bounds.
    let none = none_left keep_going (files_in c.args.names.now held) ss c.loop-i.i (state_of c.loop-i.session) (omega (arith, c.len-i-end.ensures, c.loop-i-test.false)) in
    let all = subst (λ r. ComesTo (whole held) r tally old new) (ap₂ (after_turn true) c.if-faulted.false none) come in
    rw c.if-flags.false (done_plain (whole held) tally old new bounds all (ends_nothing new)))

pub returns-clause-errors : goal.returns-clause-errors
returns-clause-errors g c = leaves_done _ (flags_of c.args.flags) _ _ _ _ c.if-flags.false (rw c.if-faulted.false at c.loop-i.invariant.lines)

-- the line of `--stats` ends a run well
never_told : (line : Text) (result : Status) (old new : Written) → EndsWithLine line Done result old new → result ≢ Usage
never_told = grind arith
