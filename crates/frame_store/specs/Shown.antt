-- Objects and their tables with texts, and what a form makes of them.
use Rattle.std.specs.Prelude.{◌≡◌, ℕ, List, map, nat_eq, Option, Some, None, option_map, IsSome, ⊤, Result, Ok, Err, if◌then◌else◌}
use Rattle.cell_core.specs.declared.cell.Label.{Label}
use Rattle.cell_core.specs.declared.cell.Cell.{Cell}
use Rattle.cell_core.specs.declared.code.Code.{Code}
use Rattle.meaning_tables.specs.cells.Text.{Text}
use Rattle.meaning_tables.specs.cells.Cell.{CellValue, LabelValue, datum}
use Rattle.meaning_tables.specs.cells.Fault.{FaultValue}
use Rattle.meaning_tables.specs.cells.FaultOf.{fault_of}
use Rattle.meaning_tables.specs.Settled.{IsSettled}
use Rattle.meaning_tables.specs.Table.{ColumnOf, NumberedTable, Table, no_table, table_value, heading_value, tuple_value, column_value}
use Rattle.meaning_tables.specs.Value as value
use Rattle.meaning_tables.specs.Value.{Entry}
use Rattle.frame_store.specs.Objects.{Tables, with_object}
use Rattle.frame_store.specs.declared.object.ObjId.{ObjId}
use Rattle.frame_store.specs.declared.arguments.Value.{Value}
use Rattle.frame_store.specs.declared.arguments.Value.TheVariants.{Object, Scalar}
use Rattle.frame_store.specs.declared.fault.OpFault.{OpFault}
use Rattle.frame_store.specs.declared.fault.OpFault.TheVariants.{Refused, NoMemory}

-- the table of each live object, with texts
abbrev pub Shown : Type 0
Shown = ℕ → Option Table

abbrev pub shown : List Text → Tables → Shown
shown texts tables = λ id. option_map (table_value texts) (tables id)

-- the tables with another one for an object
abbrev pub with_shown : Shown → ℕ → Option Table → Shown
with_shown objects id t = λ other. if nat_eq id other then t else objects other

abbrev pub table_in : Option Table → Table
table_in None = no_table
table_in (Some t) = t

-- the parts of tables with texts
abbrev pub labels_value : List Text → List (List Label) → List (List LabelValue)
labels_value texts labels = map (tuple_value texts) labels

abbrev pub headings_value : List Text → List (Option Label) → List (Option LabelValue)
headings_value texts headings = map (heading_value texts) headings

abbrev pub columns_value : List Text → List (ColumnOf Cell) → List (ColumnOf CellValue)
columns_value texts columns = map (column_value texts) columns

abbrev pub cells_value : List Text → List Cell → List CellValue
cells_value texts cells = map (datum texts) cells

-- a value as it is among the objects
abbrev pub seen : List Text → Shown → Value → Entry
seen texts objects (Object id) = value.table (table_in (objects id.0))
seen texts objects (Scalar c) = value.cell (datum texts c)

-- an object that is answered was not live before, and no other object changed; a text that is answered was given its number
abbrev pub Grew : List Text → Value → Shown → Shown → Type 0
Grew texts (Scalar c) old new = (new ≡ old) × IsSettled datum texts c
Grew texts (Object id) old new = (old id.0 ≡ None) × IsSome (new id.0) × (new ≡ with_shown old id.0 (new id.0))

-- The first fault is what the code stands for, and each text that the code names was given its number.
abbrev pub Refuses : {A : Type 0} → List Text → Code → Result A FaultValue → Type 0
Refuses texts code meant = (meant ≡ Err (fault_of texts code)) × IsSettled fault_of texts code

-- What a form answers is what is meant, or its first fault is. After a refusal all objects are as they were; want of memory may come in place of any answer.
abbrev pub FormAnswers : List Text → Result Value OpFault → Result Entry FaultValue → Shown → Shown → Type 0
FormAnswers texts (Ok v) meant old new = (meant ≡ Ok (seen texts new v)) × Grew texts v old new
FormAnswers texts (Err (Refused code)) meant old new = Refuses texts code meant × (new ≡ old)
FormAnswers texts (Err NoMemory) meant old new = new ≡ old

-- What a form does that changes the object on which it is called, and no other: what is meant, or its first fault is
-- answered. After a refusal all objects are as they were; want of memory may come in place of any answer.
abbrev pub Changes : List Text → Result ⊤ OpFault → Value → Result Table FaultValue → Shown → Shown → Type 0
Changes texts (Ok done) (Object id) meant old new = (meant ≡ Ok (table_in (new id.0))) × IsSome (new id.0) × (new ≡ with_shown old id.0 (new id.0))
Changes texts (Ok done) (Scalar c) meant old new = ⊥
Changes texts (Err (Refused code)) on meant old new = Refuses texts code meant × (new ≡ old)
Changes texts (Err NoMemory) on meant old new = new ≡ old

-- the tables without an object, if there is one, that ends where a form has done what it is to do; a refusal ends none
abbrev pub spent : Result ⊤ OpFault → Option ObjId → Tables → Tables
spent (Ok done) None tables = tables
spent (Ok done) (Some id) tables = with_object tables id.0 None
spent (Err fault) spare tables = tables

-- What is made for a new object, before it is one: the table, whose texts were given their numbers, or the first fault.
abbrev pub Makes : List Text → Result NumberedTable OpFault → Result Entry FaultValue → Type 0
Makes texts (Ok made) meant = (meant ≡ Ok (value.table (table_value texts made))) × IsSettled table_value texts made
Makes texts (Err (Refused code)) meant = Refuses texts code meant
Makes texts (Err NoMemory) meant = Unit {0}
