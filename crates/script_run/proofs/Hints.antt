-- Laws that the goals of functions want, by the name of the first that does.
use Rattle.{
  script_session.proofs.cells.Common.{on_ok_weaker},
  script_run.proofs.{RunLaws.{ends_with_line, comes_none}, AskedLaws.{script_never, fixed_never, fixed_always, script_always}, Options.{some-always, some-weaker}, ErrorLaws.{leaves_cut, leaves_nothing, leaves_script_unread, leaves_unread, reports_nothing, reports_warning, run_leaves_line, run_leaves_later, absent_said, never_absent}, FileLaws.{ends_script, ends_syntax, ends_too_large}},
  script_session.proofs.script_state.Rides.{serves_self, serves_both},
}

pub ruleset run = (script_never, fixed_never, fixed_always, script_always, leaves_nothing, serves_self)

pub ruleset run_bytes = (some-weaker, ends_script, some-always, ends_syntax, ends_with_line, ends_too_large, run_leaves_line, leaves_nothing, serves_self)

pub ruleset run_file = (run_leaves_later, run_leaves_line, leaves_script_unread, leaves_nothing, absent_said, never_absent, serves_both)

pub ruleset run_script = (some-always, comes_none, reports_nothing, serves_self, serves_both)

pub ruleset advance = (leaves_cut, leaves_unread, reports_warning, on_ok_weaker)
