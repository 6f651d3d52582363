-- How a run ends, and what it wrote by then.
use Rattle.std.specs.Prelude.{◌≡◌, ◌≢◌, ◌⊎◌, ◌<◌, ◌≤◌, ℕ, List, [], ◌++◌, length, Option, codes}
use Rattle.outside_io.specs.Count.{HasRisen}
use Rattle.outside_io.specs.Files.{FilesValue, Serves}
use Rattle.outside_io.specs.Sink.{SinkValue, appended, AppendsFront}
use Rattle.script_session.specs.cells.Text.{Text}
use Rattle.script_session.specs.script.Run.{RunResult, Ending, finished, fault, usage, syntax, output_of, errors_of, spent_of, before_fetch, before_byte}
use Rattle.script_session.specs.script_state.Reads.{count_after}
use Rattle.script_run.specs.declared.status.Status.{Status}
use Rattle.script_run.specs.declared.status.Status.TheVariants.{Done, Fault, Usage, Syntax, Input, Output, Memory}

-- What is seen of the outside: the files, the bytes on the output and on the errors, where the sinks tell them, and how many calls of each have failed.
pub record Outside : Type 0 where
  pub files : FilesValue
  pub out : Option (List ℕ)
  pub err : Option (List ℕ)
  pub out_faults : ℕ
  pub err_faults : ℕ

abbrev pub outside : {F O E : Type 0} → (F → FilesValue) → (O → SinkValue) → (E → SinkValue) → F → O → E → Outside
outside files out err f o e = record {
  files = files f;
  out = (out o).written;
  err = (err e).written;
  out_faults = (out o).faults;
  err_faults = (err e).faults;
}

-- A read has failed where the status says so, and so a write. What the files hold stays, and no count of failed calls is lower.
pub record HasCause (status : Status) (old new : Outside) : Type 0 where
  pub input : status ≡ Input → HasRisen old.files.faults new.files.faults
  pub output : status ≡ Output → HasRisen old.out_faults new.out_faults ⊎ HasRisen old.err_faults new.err_faults
  pub serves : Serves old.files new.files
  pub out_faults : old.out_faults ≤ new.out_faults
  pub err_faults : old.err_faults ≤ new.err_faults

-- the status of a run that ends by its meaning
abbrev pub status_of : Ending → Status
status_of finished = Done
status_of fault = Fault
status_of usage = Usage
status_of syntax = Syntax

-- a run that doesn't end by its meaning: a read or a write failed, or memory was refused
abbrev pub IsCutShort : Status → Type 0
IsCutShort status = (status ≡ Input) ⊎ (status ≡ Output) ⊎ (status ≡ Memory)

-- the run ends as a result that it may have, with all that it prints and with as many fetches
abbrev pub EndsAs : (RunResult → Type 0) → Status → Outside → Outside → Type 0
EndsAs means status old new =
    (result : RunResult) × means result × (status ≡ status_of result.ending)
    × (new.out ≡ appended old.out (output_of result.steps)) × (new.err ≡ appended old.err (errors_of result.steps)) × (new.files.fetches ≡ count_after old.files.fetches (spent_of result.steps).fetches)

-- of a result that the run may have, a front was written
abbrev pub EndsEarly : (RunResult → Type 0) → Outside → Outside → Type 0
EndsEarly means old new =
    (result : RunResult) × means result × AppendsFront old.out new.out (output_of result.steps) × AppendsFront old.err new.err (errors_of result.steps)

-- The same where a write failed. Where it was one on the errors that left a byte of them missing, the output is that of the steps before the one in whose errors this byte stands.
abbrev pub EndsUnwritten : (RunResult → Type 0) → Outside → Outside → Type 0
EndsUnwritten means old new =
    (result : RunResult) × means result × AppendsFront old.out new.out (output_of result.steps)
    × ((text rest : List ℕ) × (errors_of result.steps ≡ text ++ rest) × (new.err ≡ appended old.err text)
    × (¬ (HasRisen old.out_faults new.out_faults) → rest ≢ [] → new.out ≡ appended old.out (output_of (before_byte (length text) result.steps))))

-- The same where a read failed, with a front of one line more on the errors. Where no write failed, all steps before the one of the last fetch were written, and the line.
abbrev pub EndsUnread : (RunResult → Type 0) → Outside → Outside → Type 0
EndsUnread means old new =
    (result : RunResult) × means result × AppendsFront old.out new.out (output_of result.steps)
    × ((text rest : List ℕ) × (errors_of result.steps ≡ text ++ rest) × AppendsFront (appended old.err text) new.err (codes "input failed\n"))
    × ((m : ℕ) × (0 < m) × (m ≤ (spent_of result.steps).fetches) × (new.files.fetches ≡ count_after old.files.fetches m)
    × (¬ (HasRisen old.out_faults new.out_faults) → ¬ (HasRisen old.err_faults new.err_faults) →
    (new.out ≡ appended old.out (output_of (before_fetch m result.steps))) × (new.err ≡ appended old.err (errors_of (before_fetch m result.steps) ++ codes "input failed\n"))))

-- The status, and what was written. A read that failed, a write that failed and want of memory leave a front; else the run ends by its meaning.
abbrev pub Ends : (RunResult → Type 0) → Status → Outside → Outside → Type 0
Ends means Input old new = EndsUnread means old new
Ends means Output old new = EndsUnwritten means old new
Ends means Memory old new = EndsEarly means old new
Ends means status old new = EndsAs means status old new

-- the one result
abbrev pub Is : RunResult → RunResult → Type 0
Is one result = result ≡ one

-- the run ends as a result that it may have, all of which was written, or for want of memory
abbrev pub EndsByMeaning : (RunResult → Type 0) → Status → Outside → Outside → Type 0
EndsByMeaning means status old new = EndsAs means status old new ⊎ (status ≡ Memory)

-- The line was written and the run ends with this status, or the write failed after a front of it, or there was no memory for it.
abbrev pub EndsWithLine : Text → Status → Status → Option (List ℕ) → Option (List ℕ) → Type 0
EndsWithLine line status result err err' = ((result ≡ status) × (err' ≡ appended err line)) ⊎ ((result ≡ Output) × AppendsFront err err' line) ⊎ ((result ≡ Memory) × (err' ≡ err))

-- what a run that is to end with this line does to the errors
pub record EndsWith (line : Text) (status result : Status) (old new : SinkValue) : Type 0 where
  pub ended : EndsWithLine line status result old.written new.written
  pub output : result ≡ Output → HasRisen old.faults new.faults
  pub faults : old.faults ≤ new.faults
