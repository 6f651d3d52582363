use Rattle.{
  script_session.{proofs.cells.Common.{map, refl, inl, inr, string_bytes}, specs.{script.Run.{finished, usage}}},
  script_words.specs.CommandLine.{flags_of},
  meaning_run.specs.Asked.{usage_help, wrong_words, demonstration, asked},
  script_run.{specs.{Ends.{outside}}, proofs.{RunLaws.{ends_with_line, ends_with_output}, Options.{some-always}, FileLaws.{complete_run, ends_unbegun, not_unread}, OneResult.{some_asked}, AskedLaws.{ends_any, fixed_ends, fixed_told, fixed_unbegun, script_here, script_told}}},
}
use Rattle.script_run.proofs.running.run.Goals as goal

-- want of memory
pub returns-in_default-clause-told : goal.returns-in_default-clause-told
returns-in_default-clause-told g c =
    let old = outside g.F.Files.seen g.O.Sink.seen g.E.Sink.seen c.args.files.now c.args.out.now c.args.err.now in
    some-always _ _ (λ held. ends_unbegun _ old old (some_asked (asked (map string_bytes c.args.words.now.items)) held) refl refl)

pub returns-in_default-clause-words : goal.returns-in_default-clause-words
returns-in_default-clause-words g c = fixed_unbegun _ (outside g.F.Files.seen g.O.Sink.seen g.E.Sink.seen c.args.files.now c.args.out.now c.args.err.now)

-- help
pub returns-in-Help-clause-words : goal.returns-in-Help-clause-words
returns-in-Help-clause-words g c =
    let at = outside g.F.Files.seen g.O.Sink.seen g.E.Sink.seen c.args.files.now in
    let old = at c.args.out.now c.args.err.now in
    let new = at c.end_usage.new.sink c.args.err.now in
    fixed_ends _ usage_help (rw (c.in-Help.is, c.deref.ensures.value) at c.in-Ok.ensures) _ old new (ends_any _ _ old new (ends_with_output old new finished _ _ refl refl c.end_usage.ensures.ended))

pub returns-in-Help-clause-told : goal.returns-in-Help-clause-told
returns-in-Help-clause-told g c =
    let at = outside g.F.Files.seen g.O.Sink.seen g.E.Sink.seen c.args.files.now in
    let old = at c.args.out.now c.args.err.now in
    let new = at c.end_usage.new.sink c.args.err.now in
    fixed_told _ usage_help (rw (c.in-Help.is, c.deref.ensures.value) at c.in-Ok.ensures) _ old new (ends_any _ _ old new (ends_with_output old new finished _ _ refl refl c.end_usage.ensures.ended)) _

pub returns-in-Help-clause-complete : goal.returns-in-Help-clause-complete
returns-in-Help-clause-complete g c =
    complete_run _ _ _ _ _ _ _ _ (returns-in-Help-clause-told g c) (λ is. absurd (not_unread _ _ _ _ _ (λ same. cc) c.end_usage.ensures.ended is)) (λ is. inl (c.end_usage.ensures.output is))

-- wrong words
pub returns-in-Wrong-clause-words : goal.returns-in-Wrong-clause-words
returns-in-Wrong-clause-words g c =
    let at = outside g.F.Files.seen g.O.Sink.seen g.E.Sink.seen c.args.files.now in
    let old = at c.args.out.now c.args.err.now in
    let new = at c.args.out.now c.end_usage-in-Wrong.new.sink in
    fixed_ends _ wrong_words (rw (c.in-Wrong.is, c.deref.ensures.value) at c.in-Ok.ensures) _ old new (ends_any _ _ old new (ends_with_line old new usage _ _ refl refl c.end_usage-in-Wrong.ensures.ended))

pub returns-in-Wrong-clause-told : goal.returns-in-Wrong-clause-told
returns-in-Wrong-clause-told g c =
    let at = outside g.F.Files.seen g.O.Sink.seen g.E.Sink.seen c.args.files.now in
    let old = at c.args.out.now c.args.err.now in
    let new = at c.args.out.now c.end_usage-in-Wrong.new.sink in
    fixed_told _ wrong_words (rw (c.in-Wrong.is, c.deref.ensures.value) at c.in-Ok.ensures) _ old new (ends_any _ _ old new (ends_with_line old new usage _ _ refl refl c.end_usage-in-Wrong.ensures.ended)) _

pub returns-in-Wrong-clause-complete : goal.returns-in-Wrong-clause-complete
returns-in-Wrong-clause-complete g c =
    complete_run _ _ _ _ _ _ _ _ (returns-in-Wrong-clause-told g c) (λ is. absurd (not_unread _ _ _ _ _ (λ same. cc) c.end_usage-in-Wrong.ensures.ended is)) (λ is. inr (c.end_usage-in-Wrong.ensures.output is))

-- the demonstration
pub returns-in-Demo-clause-words : goal.returns-in-Demo-clause-words
returns-in-Demo-clause-words g c = fixed_ends _ (demonstration (flags_of c.in-Demo.flags) c.in-Demo.orders) (rw (c.in-Demo.is, c.deref.ensures.value) at c.in-Ok.ensures) _ _ _ (c.run_demo.ensures.told (g.F.Files.seen c.args.files.now))

pub returns-in-Demo-clause-told : goal.returns-in-Demo-clause-told
returns-in-Demo-clause-told g c = fixed_told _ (demonstration (flags_of c.in-Demo.flags) c.in-Demo.orders) (rw (c.in-Demo.is, c.deref.ensures.value) at c.in-Ok.ensures) _ _ _ (c.run_demo.ensures.told (g.F.Files.seen c.args.files.now)) _

pub returns-in-Demo-clause-cause : goal.returns-in-Demo-clause-cause
returns-in-Demo-clause-cause g c = c.run_demo.ensures.cause (g.F.Files.seen c.args.files.now)

pub returns-in-Demo-clause-complete : goal.returns-in-Demo-clause-complete
returns-in-Demo-clause-complete g c =
    let cause = c.run_demo.ensures.cause (g.F.Files.seen c.args.files.now) in
    complete_run _ _ _ _ _ _ _ _ (returns-in-Demo-clause-told g c) cause.input cause.output

-- a script
pub returns-in-Script-clause-told : goal.returns-in-Script-clause-told
returns-in-Script-clause-told g c = script_told _ _ (rw (c.in-Script.is, c.deref.ensures.value) at c.in-Ok.ensures) _ _ _ _ c.run_file.ensures.told

pub returns-in-Script-clause-complete : goal.returns-in-Script-clause-complete
returns-in-Script-clause-complete g c = complete_run _ _ _ _ _ _ _ _ (returns-in-Script-clause-told g c) c.run_file.ensures.cause.input c.run_file.ensures.cause.output

pub returns-in-Script-clause-errors : goal.returns-in-Script-clause-errors
returns-in-Script-clause-errors g c = script_here _ _ (rw (c.in-Script.is, c.deref.ensures.value) at c.in-Ok.ensures) _ c.run_file.ensures.errors

pub returns-in-Script-clause-usage : goal.returns-in-Script-clause-usage
returns-in-Script-clause-usage g c = script_here _ _ (rw (c.in-Script.is, c.deref.ensures.value) at c.in-Ok.ensures) _ c.run_file.ensures.usage
