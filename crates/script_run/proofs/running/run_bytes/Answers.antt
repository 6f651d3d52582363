use Rattle.{
  script_session.{proofs.cells.Common.{refl, Contents}, specs.{script.{Reading.{Files}, State.{no_names}, Run.{RunResult, IsScriptResult, statements_result}}, script_state.{Reads.{files_in}, laws.Paid.{HasPeak}}}},
  script_tree.specs.ScriptView.{statements_of},
  meaning_run.specs.Result.{Stated},
  script_run.{specs.Ends.{outside, Ends, Is}, proofs.{Options.{some-always, some-weaker}, FileLaws.{ends_script, ends_unbegun}, OneResult.{script_peaked}, StatsLaws.{stated_some}}},
}
use Rattle.script_run.proofs.running.run_bytes.Goals as goal

pub returns-in-Ok-clause-told : goal.returns-in-Ok-clause-told
returns-in-Ok-clause-told g c =
    let at = outside g.F.Files.seen g.O.Sink.seen g.E.Sink.seen in
    let bytes = c.args.bytes.now in
    let ss = statements_of c.in-Ok.script in
    let files : Contents → Files = λ held. files_in c.args.names.now held in
    let whole : Contents → RunResult = λ held. statements_result c.args.flags.keep_going (files held) no_names ss in
    let status = c.run_script.result in
    let old = at c.args.files.now c.args.out.now c.args.err.now in
    let new = at c.run_script.new.files c.run_script.new.out c.run_script.new.err in
    some-weaker (g.F.Files.seen c.args.files.now).contents (λ held. HasPeak (whole held) → Ends (Stated c.args.flags.stats (Is (whole held))) status old new) (λ held. Ends (Stated c.args.flags.stats (IsScriptResult c.args.flags.keep_going (files held) bytes)) status old new) c.run_script.ensures.told
    (λ held ends. ends_script c.args.flags.stats c.args.flags.keep_going (files held) status old new bytes ss c.in-Ok.ensures.0 c.in-Ok.ensures.1 ends)

pub returns-in-Err-NoMemory-clause-told : goal.returns-in-Err-NoMemory-clause-told
returns-in-Err-NoMemory-clause-told g c =
    let old = outside g.F.Files.seen g.O.Sink.seen g.E.Sink.seen c.args.files.now _ _ in
    some-always _ _ (λ held. ends_unbegun _ old old (stated_some c.args.flags.stats _ (script_peaked _ _ _)) refl refl)
