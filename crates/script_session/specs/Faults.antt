-- What a refusal says of what a statement means.
use Rattle.std.specs.Prelude.{◌≡◌, Bool, false, List, None, OnErr, Result, Ok, Err}
use Rattle.script_state.specs.cells.Cell.{IsLonger}
use Rattle.script_state.specs.cells.Text.{Text, Contents}
use Rattle.script_state.specs.cells.FaultOf.{fault_of}
use Rattle.script_state.specs.tables.Settled.{IsSettled}
use Rattle.script_state.specs.language.Tree as tree
use Rattle.frame_store.specs.declared.fault.OpFault.{OpFault}
use Rattle.frame_store.specs.declared.fault.OpFault.TheVariants.{Refused as OpRefused, NoMemory as OpNoMemory}
use Rattle.frame_store.specs.World.{Keeps}
use Rattle.frame_store.specs.Objects.{KeepBlocks}
use Rattle.outside_io.specs.Files.{FilesValue, Serves}
use Rattle.script_state.specs.script.Reading.{Files, Reading, at_once}
use Rattle.script_state.specs.script.State.{State}
use Rattle.script_state.specs.script.Statement.{Answer, done, refused, statement_result}
use Rattle.script_state.specs.Evaluates.{Moment, meter_of}
use Rattle.script_state.specs.Reads.{Goes, Meter, Pays, Stuck, Spends, IsCaused, absent_name, files_in}
use Rattle.script_state.specs.Work.{names_in, world_of, state_in}
use Rattle.script_state.specs.declared.file_names.FileName.{FileName}
use Rattle.script_state.specs.declared.fault.EvalFault.{EvalFault}
use Rattle.script_state.specs.declared.fault.EvalFault.TheVariants.{Refused as EvalRefused, Input as EvalInput, NoMemory as EvalNoMemory}
use Rattle.script_session.specs.declared.fault.Outcome.{Outcome}
use Rattle.script_session.specs.declared.fault.StepFault.{StepFault}
use Rattle.script_session.specs.declared.fault.StepFault.TheVariants.{Refused, Input, NoMemory}

-- the fault of a statement, before a mark
abbrev pub step_fault : EvalFault → StepFault
step_fault (EvalRefused c) = Refused c false
step_fault EvalInput = Input
step_fault EvalNoMemory = NoMemory

-- the fault of a setting, with a mark
abbrev pub marked_fault : Bool → OpFault → StepFault
marked_fault warned (OpRefused c) = Refused c warned
marked_fault warned OpNoMemory = NoMemory

-- The answer is that refusal with its mark, and its texts were given their numbers; or a file could not be read, or memory was refused.
abbrev pub IsStepFault : List Text → Files → FilesValue → FilesValue → Reading Answer → StepFault → Type 0
IsStepFault texts files old new answer (Refused code warned) = Goes files.held old new answer (at_once (refused (fault_of texts code) warned)) × IsCaused files.paths old new (absent_name code) × IsSettled fault_of texts code
IsStepFault texts files old new answer Input = Stuck files.held old new answer
IsStepFault texts files old new answer NoMemory = Spends files.held old new answer

-- what a statement answers: its outcome, after which the names stand for this state, or why it wasn't done
abbrev pub Performs : State → List Text → Files → Meter → Meter → Reading Answer → Result Outcome StepFault → Type 0
Performs s texts files old new answer (Ok o) = Pays files.held old new answer (at_once (done s o.printed o.warned))
Performs s texts files old new answer (Err fault) = IsStepFault texts files old.files new.files answer fault

-- What a statement does, with the files that it reads. Where it is refused the names stay, and what was live, on the blocks on which it lay. Texts keep their numbers in any case.
pub record Answers (paths : List FileName) (meant : Files → State → Reading Answer) (old new : Moment) (result : Result Outcome StepFault) : Type 0 where
  pub answers : (held : Contents) → Performs (state_in new.work) (world_of new.work).texts (files_in paths held) (meter_of old) (meter_of new) (meant (files_in paths held) (state_in old.work)) result
  pub serves : Serves old.files new.files
  pub names : OnErr result (names_in new.work ≡ names_in old.work)
  pub kept : OnErr result (Keeps (world_of old.work) (world_of new.work))
  pub blocks : OnErr result (KeepBlocks None old.work.store new.work.store)
  pub longer : IsLonger (world_of old.work).texts (world_of new.work).texts

abbrev pub Executes : List FileName → tree.Action → Moment → Moment → Result Outcome StepFault → Type 0
Executes paths action old new result = Answers paths (λ files s. statement_result files s action) old new result
