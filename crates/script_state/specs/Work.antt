-- What stands in the midst of a statement.
use Rattle.std.specs.Prelude.{◌≡◌, ℕ, false, Option, IfSome, ⊤, Result}
use Rattle.meaning_laws.specs.cells.Fault.{FaultValue}
use Rattle.meaning_laws.specs.tables.Table.{Table}
use Rattle.meaning_laws.specs.tables.Value.{Entry}
use Rattle.frame_store.specs.Objects.{Tables, tables}
use Rattle.frame_store.specs.declared.object.ObjId.{ObjId}
use Rattle.frame_store.specs.declared.arguments.Value.{Value}
use Rattle.frame_store.specs.declared.arguments.Value.TheVariants.{Object}
use Rattle.frame_store.specs.declared.arguments.Argument.{Argument}
use Rattle.frame_store.specs.declared.arguments.Argument.TheVariants.{One}
use Rattle.frame_store.specs.declared.fault.OpFault.{OpFault}
use Rattle.meaning_laws.specs.script.Spent.{spent_for}
use Rattle.meaning_laws.specs.script.State.{State}
use Rattle.frame_store.specs.World.{World, world, FormsFor, SetsFor}
use Rattle.frame_set.specs.Assigned.{without}
use Rattle.script_state.specs.Bindings.{Bindings, bindings_of, is_named, state_over}
use Rattle.script_state.specs.Charges.{Charges}
use Rattle.script_state.specs.Reads.{Tab}
use Rattle.script_state.specs.declared.work.Work.{Work}

abbrev pub names_in : Work → Bindings
names_in w = bindings_of w.names.values.entries

abbrev pub tables_in : Work → Tables
tables_in w = tables w.store

abbrev pub world_of : Work → World
world_of w = world w.store w.dict

abbrev pub state_in : Work → State
state_in w = state_over (names_in w) (world_of w)

-- the charge so far, and how many cells are held
abbrev pub tab_of : Work → Tab
tab_of w = record { charge = w.charge; held = (world_of w).holding.cells }

-- the object is the value, and no name stands for it
abbrev pub IsUnnamedValue : Bindings → Argument → ObjId → Type 0
IsUnnamedValue bs value id = (is_named bs id.0 ≡ false) × (value ≡ One (Object id))

-- what a form answers, with the names as they were, and the charge with what the answer costs
pub record FormsIn (r : Result Value OpFault) (charge : Entry → ℕ) (meant : Result Entry FaultValue) (old new : Work) : Type 0 where
  pub names : names_in new ≡ names_in old
  pub answers : FormsFor charge r meant (world_of old) (world_of new)
  pub charged : Charges r (spent_for charge meant).charge old.charge new.charge

-- what a setting by a value does: the object of the value may end with it, if no name stands for it
pub record SetsIn (value : Argument) (r : Result ⊤ OpFault) (on : Value) (charge : Table → ℕ) (meant : Result Table FaultValue) (old new : Work) : Type 0 where
  pub names : names_in new ≡ names_in old
  pub spare : Option ObjId
  pub unnamed : IfSome spare (IsUnnamedValue (names_in old) value)
  pub sets : SetsFor charge r on meant (without r spare (world_of old)) (world_of new)

-- the same, with what is counted for it
pub record SetsFrom (value : Argument) (r : Result ⊤ OpFault) (on : Value) (charge : Table → ℕ) (meant : Result Table FaultValue) (old new : Work) : Type 0 where
  pub names : names_in new ≡ names_in old
  pub spare : Option ObjId
  pub unnamed : IfSome spare (IsUnnamedValue (names_in old) value)
  pub sets : SetsFor charge r on meant (without r spare (world_of old)) (world_of new)
  pub charged : Charges r (spent_for charge meant).charge old.charge new.charge
