-- What an evaluation does, with the files that it reads on the way.
use Rattle.std.specs.Prelude.{◌≡◌, List, Option, None, Result, IfOk}
use Rattle.meaning_laws.specs.cells.Text.{Text, Contents}
use Rattle.frame_store.specs.World.{World, Keeps, IsKnownValue}
use Rattle.frame_store.specs.Objects.{KeepBlocks}
use Rattle.frame_store.specs.declared.arguments.Value.{Value}
use Rattle.outside_io.specs.Files.{FilesValue, Serves}
use Rattle.meaning_laws.specs.script.Reading.{Files, Reads}
use Rattle.meaning_laws.specs.script.State.{State}
use Rattle.script_state.specs.Bindings.{IsOf}
use Rattle.script_state.specs.Reads.{files_in, Meter, metered, Reaches}
use Rattle.script_state.specs.Work.{names_in, tab_of, world_of, state_in}
use Rattle.script_state.specs.declared.file_names.FileName.{FileName}
use Rattle.script_state.specs.declared.fault.EvalFault.{EvalFault}
use Rattle.script_state.specs.declared.work.Work.{Work}

-- where a statement stands: the names, objects and texts, and what is seen of the files
pub record Moment : Type 0 where
  pub work : Work
  pub files : FilesValue

abbrev pub moment_of : Work → FilesValue → Moment
moment_of w s = record { work = w; files = s }

abbrev pub moment : {F : Type 0} → (F → FilesValue) → Work → F → Moment
moment seen w f = moment_of w (seen f)

abbrev pub meter_of : Moment → Meter
meter_of m = metered (tab_of m.work) m.files

-- the value of that name, or one that no name stands for
pub record IsValue (name : Option Text) (w : Work) (v : Value) : Type 0 where
  pub known : IsKnownValue (world_of w) v
  pub object : IsOf (names_in w) name v

-- The names stay, and what was live, on the blocks on which it lay. The answer is what is meant, as it is seen, and it is known; or the evaluation halts.
pub record Evaluates {V A : Type 0} (paths : List FileName) (known : Work → V → Type 0) (view : World → V → A) (meant : Files → State → Reads A) (old new : Moment) (result : Result V EvalFault) : Type 0 where
  pub names : names_in new.work ≡ names_in old.work
  pub kept : Keeps (world_of old.work) (world_of new.work)
  pub blocks : KeepBlocks None old.work.store new.work.store
  pub serves : Serves old.files new.files
  pub reads : (held : Contents) → Reaches (view (world_of new.work)) (world_of new.work).texts (files_in paths held) (meter_of old) (meter_of new) (meant (files_in paths held) (state_in old.work)) result
  pub found : IfOk result (known new.work)
