use Rattle.{
  script_session.{proofs.cells.Common.{◌≡◌, ◌≤◌, drop, true, false, IfSome}, specs.{script.{State.{no_names}, Run.{statements_result}}, script_state.Reads.{files_in, paths_of}, Session.{state_of, IsWithinCharge}}},
  outside_io.specs.Files.{Serves},
  script_tree.specs.ScriptView.{statements_of},
  script_run.{specs.{Errors.{Reports}, Ends.{outside}, Steps.{tally_of, after_turn, ComesTo}}, proofs.ErrorLaws.{IsSoFar}},
}
use Rattle.script_run.proofs.running.run_script.Given as goal

-- The steps that were done, and then those of the statements that are left, are the steps of all statements. After a fault the run keeps going, and ends with one.
abbrev pub invariant-loop-i : goal.invariant-loop-i
invariant-loop-i g l =
    let at = outside g.F.Files.seen g.O.Sink.seen g.E.Sink.seen in
    record {
      told : IfSome (g.F.Files.seen l.fn.files).contents (λ held. ComesTo (statements_result l.flags.keep_going (files_in l.names held) no_names (statements_of l.script))
          (after_turn true l.faulted (statements_result l.flags.keep_going (files_in l.names held) (state_of l.session) (drop l.i (statements_of l.script)))) (tally_of l.session)
          (at l.fn.files l.fn.out l.fn.err) (at l.files l.out l.err));
      keeps : l.faulted ≡ true → l.flags.keep_going ≡ true;
      within : IsWithinCharge l.session;
      lines : Reports (paths_of l.names) (g.F.Files.seen l.fn.files).absences (g.F.Files.seen l.files).absences (IsSoFar l.faulted) (g.E.Sink.seen l.fn.err).written (g.E.Sink.seen l.err).written;
      serves : Serves (g.F.Files.seen l.fn.files) (g.F.Files.seen l.files);
      out_faults : (g.O.Sink.seen l.fn.out).faults ≤ (g.O.Sink.seen l.out).faults;
      err_faults : (g.E.Sink.seen l.fn.err).faults ≤ (g.E.Sink.seen l.err).faults;
    }
