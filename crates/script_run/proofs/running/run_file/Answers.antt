use Rattle.{
  script_session.{proofs.cells.Common.{refl, arith}, specs.script_state.Reads.{paths_of}},
  script_run.{specs.Ends.{outside}, proofs.{Options.{some-always, some-both, some-weaker}, RunLaws.{ends_with_line}, FileLaws.{does_fetch, ends_held, ends_absent, ends_too_large, ends_unbegun, ends_unread}, OneResult.{path_peaked}, StatsLaws.{stated_some}}},
}
use Rattle.script_run.proofs.running.run_file.Goals as goal

pub returns-in-Ok-clause-told : goal.returns-in-Ok-clause-told
returns-in-Ok-clause-told g c =
    let at = outside g.F.Files.seen g.O.Sink.seen g.E.Sink.seen in
    let path = c.args.path.now in
    let paths = paths_of c.args.names.now in
    let old = at c.args.files.now c.args.out.now c.args.err.now in
    let mid = at c.read_whole.new.files c.args.out.now c.args.err.now in
    some-both _ _ _
    _ _ c.read_whole.ensures.serves.contents c.in-Ok.ensures.told c.run_bytes.ensures.told (λ held is t.
    ends_held c.args.flags.stats c.args.flags.keep_going path paths held c.in-Ok.bytes c.run_bytes.result old mid (at c.run_bytes.new.files c.run_bytes.new.out c.run_bytes.new.err) (does_fetch old mid refl refl c.read_whole.ensures.fetches (omega arith) (omega arith)) is
    (grind arith))

pub returns-in-Err-Absent-clause-told : goal.returns-in-Err-Absent-clause-told
returns-in-Err-Absent-clause-told g c =
    let at = outside g.F.Files.seen g.O.Sink.seen g.E.Sink.seen in
    let path = c.args.path.now in
    let paths = paths_of c.args.names.now in
    let old = at c.args.files.now c.args.out.now c.args.err.now in
    let mid = at c.read_whole.new.files c.args.out.now c.args.err.now in
    some-weaker (g.F.Files.seen c.args.files.now).contents _ _ (c.in-Err-Absent.ensures.told_absent (cc)) (λ held is.
    ends_absent c.args.flags.stats c.args.flags.keep_going path paths held c.end_absent.result old mid _ (does_fetch old mid refl refl c.read_whole.ensures.fetches (omega arith) (omega arith)) is (search ends_with_line))

pub returns-in-Err-TooLong-clause-told : goal.returns-in-Err-TooLong-clause-told
returns-in-Err-TooLong-clause-told g c =
    let at = outside g.F.Files.seen g.O.Sink.seen g.E.Sink.seen in
    let path = c.args.path.now in
    let paths = paths_of c.args.names.now in
    let old = at _ _ c.args.err.now in
    let mid = at _ c.args.out.now c.args.err.now in
    some-weaker (g.F.Files.seen c.args.files.now).contents _ _ (c.in-Err-TooLong.ensures.told_longer (cc)) (λ held (bytes, is, longer).
    ends_held c.args.flags.stats c.args.flags.keep_going path paths held bytes _ old mid _ (does_fetch old mid refl refl c.read_whole.ensures.fetches (omega arith) (omega arith)) is
    (search (ends_too_large, ends_with_line)))

pub returns-in-Err-Failed-clause-told : goal.returns-in-Err-Failed-clause-told
returns-in-Err-Failed-clause-told g c =
    let at = outside g.F.Files.seen g.O.Sink.seen g.E.Sink.seen in
    some-always _ _ (λ held.
    ends_unread c.args.flags.stats c.args.flags.keep_going _ _ held (at c.args.files.now c.args.out.now c.args.err.now) (at c.read_whole.new.files c.args.out.now c.say_unread.new.err) c.read_whole.ensures.fetches refl c.say_unread.ensures.front c.say_unread.ensures.whole)

pub returns-in-Err-NoMemory-clause-told : goal.returns-in-Err-NoMemory-clause-told
returns-in-Err-NoMemory-clause-told g c =
    let at = outside g.F.Files.seen g.O.Sink.seen g.E.Sink.seen in
    let path = c.args.path.now in
    let paths = paths_of c.args.names.now in
    some-always _ _ (λ held. ends_unbegun _ (at c.args.files.now _ _) (at c.read_whole.new.files _ _) (stated_some c.args.flags.stats _ (path_peaked c.args.flags.keep_going path paths held)) refl refl)

pub returns-in-Err-Failed-clause-usage : goal.returns-in-Err-Failed-clause-usage
returns-in-Err-Failed-clause-usage g c = λ is. absurd (cc)

pub returns-in-Err-NoMemory-clause-usage : goal.returns-in-Err-NoMemory-clause-usage
returns-in-Err-NoMemory-clause-usage g c = λ is. absurd (cc)
