-- That a run has one result.
use Rattle.std.specs.Prelude.{◌≡◌, ℕ, List}
use Rattle.script_session.specs.cells.Text.{Text, Contents}
use Rattle.script_session.specs.script.Run.{RunResult}
use Rattle.meaning_run.specs.Result.{IsRunWith, IsRunResult}

-- Where these contents are held the words have a result, with some peak, and for each peak that `--stats` may give no two.
pub record HasOneResult (words : List Text) (held : Contents) : Type 0 where
  pub some : (result : RunResult) × IsRunResult words held result
  pub one : (peak : ℕ) (result other : RunResult) → IsRunWith words held peak result → IsRunWith words held peak other → result ≡ other
