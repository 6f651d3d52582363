use Rattle.{
  script_session.{proofs.{cells.Common.{◌∙◌, refl, arith}, script_state.Rides.{serves_self}}, specs.script.Run.{IsScriptResult}},
  script_words.specs.CommandLine.{flags_of},
  meaning_run.specs.{Asked.{demonstration}, Result.{demo_files, Stated}, words.Demonstration.{demo_script}},
  script_run.proofs.{FileLaws.{ends_unbegun}, OneResult.{some_fixed}, StatsLaws.{stated_unfetched}, DemoLaws.{beside, ends_demo, ends_unfetched, never_risen}},
}
use Rattle.script_run.proofs.running.run_demo.Goals as goal

pub returns-in_default-clause-told : goal.returns-in_default-clause-told
returns-in_default-clause-told g c = λ files.
    let old = beside files (g.O.Sink.seen c.args.out.now) (g.E.Sink.seen c.args.err.now) in
    ends_unbegun _ old old (some_fixed (demonstration (flags_of c.args.flags) c.args.orders)) refl refl

pub returns-in_default-demo_names-clause-told : goal.returns-in_default-demo_names-clause-told
returns-in_default-demo_names-clause-told g c = λ files.
    let old = beside files (g.O.Sink.seen c.args.out.now) (g.E.Sink.seen c.args.err.now) in
    ends_unbegun _ old old (some_fixed (demonstration (flags_of c.args.flags) c.args.orders)) refl refl

pub returns-clause-told : goal.returns-clause-told
returns-clause-told g c = λ files.
    let demo = IsScriptResult c.args.flags.keep_going (demo_files c.args.orders) demo_script in
    stated_unfetched c.args.flags.stats demo _ _ _
    (ends_unfetched (Stated c.args.flags.stats demo) files _ _ (g.O.Sink.seen c.args.out.now) (g.O.Sink.seen c.run_bytes.new.out) (g.E.Sink.seen c.args.err.now) (g.E.Sink.seen c.run_bytes.new.err) _
    (λ is. never_risen 0 (omega arith) (c.run_bytes.ensures.cause.input is))
    (ends_demo c.args.flags.stats c.args.flags.keep_going c.args.orders _ _ _ _ _ _ c.in-Ok-demo_names.ensures c.in-Ok.ensures (c.as_bytes-script.ensures.value ∙ c.demo_script.ensures) c.run_bytes.ensures.told))

pub returns-clause-cause : goal.returns-clause-cause
returns-clause-cause g c = λ files. record {
  input = λ is. absurd (never_risen 0 (omega arith) (c.run_bytes.ensures.cause.input is));
  output = c.run_bytes.ensures.cause.output;
  serves = search serves_self;
  out_faults = c.run_bytes.ensures.cause.out_faults;
  err_faults = c.run_bytes.ensures.cause.err_faults;
}
