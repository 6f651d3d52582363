-- What the steps of a run have done.
use Rattle.std.specs.Prelude.{◌≡◌, ◌≤◌, ℕ, Bool, true, false, List, [], ◌∷◌, ◌++◌}
use Rattle.outside_io.specs.Sink.{appended}
use Rattle.script_session.specs.script.Reading.{Reading}
use Rattle.script_session.specs.script.State.{State}
use Rattle.script_session.specs.script.Statement.{Answer}
use Rattle.script_session.specs.script.Run.{RunStep, RunResult, output_of, errors_of, spent_of, least_peak, after_step, after_fault, after_reading}
use Rattle.script_session.specs.script_state.Reads.{count_after}
use Rattle.script_session.specs.Session.{charge_of, peak_of}
use Rattle.script_session.specs.declared.session.Session.{Session}
use Rattle.script_run.specs.Ends.{Outside, Ends, Is}
use Rattle.script_run.specs.declared.advancing.Advanced.{Advanced}
use Rattle.script_run.specs.declared.advancing.Advanced.TheVariants.{Done as WasDone, Refused as WasRefused}
use Rattle.script_run.specs.declared.status.Status.{Status}

-- what these steps print was written, and their files were fetched
pub record Does (steps : List RunStep) (old new : Outside) : Type 0 where
  pub out : new.out ≡ appended old.out (output_of steps)
  pub err : new.err ≡ appended old.err (errors_of steps)
  pub fetches : new.files.fetches ≡ count_after old.files.fetches (spent_of steps).fetches
  pub out_faults : old.out_faults ≤ new.out_faults
  pub err_faults : old.err_faults ≤ new.err_faults

-- the charge and the peak so far
pub record Tally : Type 0 where
  pub charge : ℕ
  pub peak : ℕ

abbrev pub tally_of : Session → Tally
tally_of s = record { charge = charge_of s; peak = peak_of s }

-- these steps, and then the rest
abbrev pub after_steps : List RunStep → RunResult → RunResult
after_steps steps rest = record { steps = steps ++ rest.steps; ending = rest.ending }

-- The whole run is some steps, which were done, and then the rest. The charge is that of the steps, and no table that a name stood for after one of them has more rows than the peak.
pub record ComesTo (whole rest : RunResult) (tally : Tally) (old new : Outside) : Type 0 where
  pub steps : List RunStep
  pub is : whole ≡ after_steps steps rest
  pub does : Does steps old new
  pub charge : tally.charge ≡ count_after 0 (spent_of steps).charge
  pub least : least_peak steps ≤ tally.peak

-- what is left of a run after a statement that was refused, or done, or with a fault so far or none
abbrev pub after_turn : Bool → Bool → RunResult → RunResult
after_turn keep_going false rest = rest
after_turn keep_going true rest = after_fault keep_going rest

abbrev pub was_refused : Advanced → Bool
was_refused WasDone = false
was_refused WasRefused = true

-- The statement was done and added to the charge, or refused, and what is left goes on from the new state. The peak has at least the rows of the step, and isn't lower.
pub record GoesOn (answer : Reading Answer) (line : ℕ) (refused : Bool) (first state : State) (before after : Tally) (old new : Outside) : Type 0 where
  pub step : RunStep
  pub does : Does (step ∷ []) old new
  pub goes : (keep_going : Bool) (go : State → RunResult) → after_reading keep_going first answer line go ≡ after_step step (after_turn keep_going refused (go state))
  pub charge : after.charge ≡ count_after before.charge step.spent.charge
  pub rows : step.rows ≤ after.peak
  pub peak : before.peak ≤ after.peak

-- the run ends at the statement, whatever would have followed it
abbrev pub Stops : Reading Answer → ℕ → State → Status → Outside → Outside → Type 0
Stops answer line first status old new = (keep_going : Bool) (go : State → RunResult) → Ends (Is (after_reading keep_going first answer line go)) status old new
