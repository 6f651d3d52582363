-- Objects and texts together, and what forms know of what they are given and say of what they give.
use Rattle.std.specs.Prelude.{◌≡◌, ℕ, ◌+◌, ◌≤◌, List, Option, None, IsSome, ⊤, Result}
use Rattle.cell_core.specs.declared.cell.Label.{Label}
use Rattle.meaning_tables.specs.cells.Text.{Text}
use Rattle.meaning_tables.specs.cells.Cell.{IsLonger}
use Rattle.meaning_tables.specs.cells.Fault.{FaultValue}
use Rattle.meaning_tables.specs.Settled.{IsSettled}
use Rattle.meaning_tables.specs.Table.{NumberedTable, Table, table_value}
use Rattle.meaning_tables.specs.Valid.{IsWhole}
use Rattle.meaning_tables.specs.Cost.{answer_charge, cost_of}
use Rattle.meaning_tables.specs.Value.{Entry, Given, NamedGiven, GivenSub}
use Rattle.frame_store.specs.Objects.{Tables, Holding, tables, holding_of, changing, LieStill}
use Rattle.frame_store.specs.Stores.{charged}
use Rattle.frame_store.specs.Arguments.{entry_of, item_of, items_of, argument_of, entries_of, arguments_of, subscript_of, IsLive, IsLiveItem, AreLiveItems, IsLiveArgument, AreLivePairs, AreLive, IsLiveSubscript}
use Rattle.frame_store.specs.Shown.{Shown, shown, FormAnswers, Changes}
use Rattle.frame_store.specs.declared.arguments.Argument.{Argument}
use Rattle.frame_store.specs.declared.arguments.Item.{Item}
use Rattle.frame_store.specs.declared.arguments.Named.{Named}
use Rattle.frame_store.specs.declared.arguments.Subscript.{Subscript}
use Rattle.frame_store.specs.declared.arguments.Value.{Value}
use Rattle.frame_store.specs.declared.arguments.Value.TheVariants.{Object, Scalar}
use Rattle.frame_store.specs.declared.fault.OpFault.{OpFault}
use Rattle.frame_store.specs.declared.store.Store.{Store}

-- the table of each live object, the texts by number, and what the objects hold of the pool
pub record World : Type 0 where
  pub tables : Tables
  pub texts : List Text
  pub holding : Holding

abbrev pub world : Store → List Text → World
world store texts = record { tables = tables store; texts = texts; holding = holding_of store }

-- the object of a value that a form changes, where it is done
abbrev pub changed_value : {A E : Type 0} → Value → Result A E → Option ℕ
changed_value (Object id) r = changing id.0 r
changed_value (Scalar c) r = None

-- the tables with texts
abbrev pub objects_of : World → Shown
objects_of w = shown w.texts w.tables

-- a value, an argument, the arguments of a call and a subscript, with their tables and texts
abbrev pub entry_in : World → Value → Entry
entry_in w v = entry_of w.tables w.texts v

abbrev pub argument_in : World → Argument → Given
argument_in w a = argument_of w.tables w.texts a

abbrev pub arguments_in : World → List Named → List NamedGiven
arguments_in w args = arguments_of w.tables w.texts args

abbrev pub subscript_in : World → Subscript → GivenSub
subscript_in w s = subscript_of w.tables w.texts s

-- each text of a table was given its number
abbrev pub IsSettledWorld : World → Type 0
IsSettledWorld w = IsSettled shown w.texts w.tables

-- the objects that were live are live with the same tables, and the texts have their numbers
pub record Keeps (old new : World) : Type 0 where
  pub objects : (id : ℕ) → IsSome (old.tables id) → objects_of new id ≡ objects_of old id
  pub texts : IsLonger old.texts new.texts

-- something that is made of values, by its sight: its objects are live, and its texts were given their numbers
pub record IsKnown {X Y : Type 0} (alive : Tables → X → Type 0) (view : Tables → List Text → X → Y) (w : World) (x : X) : Type 0 where
  pub live : alive w.tables x
  pub given : IsSettled (view w.tables) w.texts x

abbrev pub IsKnownValue : World → Value → Type 0
IsKnownValue w v = IsKnown IsLive entry_of w v

abbrev pub IsKnownItem : World → Item → Type 0
IsKnownItem w item = IsKnown IsLiveItem item_of w item

abbrev pub AreKnownItems : World → List Item → Type 0
AreKnownItems w items = IsKnown AreLiveItems items_of w items

abbrev pub IsKnownArgument : World → Argument → Type 0
IsKnownArgument w a = IsKnown IsLiveArgument argument_of w a

abbrev pub AreKnownPairs : World → List (Label × Argument) → Type 0
AreKnownPairs w pairs = IsKnown AreLivePairs entries_of w pairs

abbrev pub AreKnownArguments : World → List Named → Type 0
AreKnownArguments w args = IsKnown AreLive arguments_of w args

abbrev pub IsKnownSubscript : World → Subscript → Type 0
IsKnownSubscript w s = IsKnown IsLiveSubscript subscript_of w s

-- a table whose parts fit, and whose texts were given their numbers
pub record IsKnownTable (texts : List Text) (t : NumberedTable) : Type 0 where
  pub whole : IsWhole t
  pub given : IsSettled table_value texts t

-- At most so many cells more are held, and each object that was there, but this one, lies on the blocks on which it lay.
pub record Holds (more : ℕ) (but : Option ℕ) (old new : World) : Type 0 where
  pub cells : new.holding.cells ≤ old.holding.cells + more
  pub blocks : LieStill but old.tables new.tables old.holding.blocks new.holding.blocks

-- What a form answers in a world, which may get more texts and stays settled. It holds at most what its answer costs more,
-- and nothing more where it is refused; each object that was there lies on its blocks.
abbrev pub FormsFor : (Entry → ℕ) → Result Value OpFault → Result Entry FaultValue → World → World → Type 0
FormsFor charge r meant old new =
    FormAnswers new.texts r meant (objects_of old) (objects_of new)
    × IsLonger old.texts new.texts × IsSettledWorld new
    × Holds (charged (cost_of charge meant) r) None old new

-- a form whose answer costs its cells
abbrev pub Forms : Result Value OpFault → Result Entry FaultValue → World → World → Type 0
Forms r meant old new = FormsFor answer_charge r meant old new

-- What a form changes in a world, which may get more texts and stays settled. It holds at most what the changed table costs
-- more, and nothing more where it is refused; each other object that was there lies on its blocks, and after a refusal each.
abbrev pub SetsFor : (Table → ℕ) → Result ⊤ OpFault → Value → Result Table FaultValue → World → World → Type 0
SetsFor charge r on meant old new =
    Changes new.texts r on meant (objects_of old) (objects_of new)
    × IsLonger old.texts new.texts × IsSettledWorld new
    × Holds (charged (cost_of charge meant) r) (changed_value on r) old new
