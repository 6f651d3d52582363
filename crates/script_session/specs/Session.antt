-- What a session stands for.
use Rattle.std.specs.Prelude.{◌≡◌, ◌↔◌, ◌≤◌, ℕ, List, Some, None, IsSome}
use Rattle.script_state.specs.cells.Text.{Text}
use Rattle.frame_store.specs.Objects.{held_of, KeepBlocks}
use Rattle.frame_store.specs.Shown.{Shown}
use Rattle.frame_store.specs.declared.arguments.Value.TheVariants.{Object}
use Rattle.frame_store.specs.declared.object.ObjId.{ObjId}
use Rattle.script_state.specs.script.State.{State}
use Rattle.frame_store.specs.World.{objects_of}
use Rattle.script_state.specs.Bindings.{value_at}
use Rattle.outside_io.specs.Files.{FilesValue}
use Rattle.script_state.specs.Reads.{Meter, metered}
use Rattle.script_state.specs.Work.{names_in, tab_of, world_of, state_in}
use Rattle.script_session.specs.declared.session.Session.{Session}

-- the names in order, the value of each, and which are one object
abbrev pub state_of : Session → State
state_of s = state_in s.work

-- the table of each live object, by its number
abbrev pub live_of : Session → Shown
live_of s = objects_of (world_of s.work)

-- the texts by number
abbrev pub texts_of : Session → List Text
texts_of s = s.work.dict

-- each object that was live and still is lies on the blocks on which it lay
abbrev pub LieStill : Session → Session → Type 0
LieStill old new = KeepBlocks None old.work.store new.work.store

-- the charge of the statements that were done, how many cells the live objects hold, and the most that they held after a statement
abbrev pub charge_of : Session → ℕ
charge_of s = s.work.charge

abbrev pub held_in : Session → ℕ
held_in s = held_of s.work.store

abbrev pub peak_of : Session → ℕ
peak_of s = s.peak

-- the charge and what is held, beside what is seen of the files
abbrev pub meter_in : Session → FilesValue → Meter
meter_in s seen = metered (tab_of s.work) seen

-- the peak, and what is held, are at most the charge
pub record IsWithinCharge (s : Session) : Type 0 where
  pub held : held_in s ≤ charge_of s
  pub peak : peak_of s ≤ charge_of s

-- the live objects are exactly those that a name stands for
abbrev pub LiveAreNamed : Session → Type 0
LiveAreNamed s = (id : ObjId) → IsSome (live_of s id.0) ↔ ((n : Text) × (value_at (names_in s.work) n ≡ Some (Object id)))
