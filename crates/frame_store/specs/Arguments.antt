-- Arguments of forms as plain values, in which an object is its table and a text is the text itself.
use Rattle.std.specs.Prelude.{List, [], ◌∷◌, map, IsSome}
use Rattle.cell_core.specs.declared.cell.Label.{Label}
use Rattle.cell_core.specs.declared.grid.Shape.{Shape}
use Rattle.meaning_tables.specs.cells.Text.{Text}
use Rattle.meaning_tables.specs.cells.Cell.{LabelValue, datum, label_datum}
use Rattle.meaning_tables.specs.Table.{Table, table_value}
use Rattle.meaning_tables.specs.Value as value
use Rattle.meaning_tables.specs.Value.{Entry, Given, GivenList, GivenPairs, GivenSub, NamedGiven}
use Rattle.frame_store.specs.Objects.{Tables, table_at}
use Rattle.frame_store.specs.declared.object.ObjId.{ObjId}
use Rattle.frame_store.specs.declared.arguments.Value.{Value}
use Rattle.frame_store.specs.declared.arguments.Value.TheVariants.{Object, Scalar}
use Rattle.frame_store.specs.declared.arguments.Argument.{Argument, Nothing, One, Row, Many, Table', Row_of-Entries-pairs-2, end_of-Entries-pairs-2, more_of-Entries-pairs-2}
use Rattle.frame_store.specs.declared.arguments.Item.{Item, One as OneItem, Row' as RowItem', Row_of-Item, end_of-Item, more_of-Item}
use Rattle.frame_store.specs.declared.arguments.Named.{Named}
use Rattle.frame_store.specs.declared.arguments.Subscript.{Subscript}
use Rattle.frame_store.specs.declared.arguments.Subscript.TheVariants.{Key, Span}

-- the table of an object, and whether the object is live
abbrev pub object_value : Tables → List Text → ObjId → Table
object_value tables texts id = table_value texts (table_at tables id.0)

abbrev pub shape_at : Tables → ObjId → Shape
shape_at tables id = (table_at tables id.0).shape

abbrev pub IsLiveObject : Tables → ObjId → Type 0
IsLiveObject tables id = IsSome (tables id.0)

abbrev pub entry_of : Tables → List Text → Value → Entry
entry_of tables texts (Object id) = value.table (object_value tables texts id)
entry_of tables texts (Scalar c) = value.cell (datum texts c)

abbrev mutual
  pub item_of : Tables → List Text → Item → Given
  item_of tables texts (OneItem v) = value.one (entry_of tables texts v)
  item_of tables texts (RowItem' shape row) = value.row (items_row tables texts row)

  pub items_row : Tables → List Text → {m : _} → Row_of-Item m → GivenList
  items_row tables texts end_of-Item = value.no_given
  items_row tables texts (more_of-Item a rest) = value.more_given (item_of tables texts a) (items_row tables texts rest)

abbrev pub items_of : Tables → List Text → List Item → GivenList
items_of tables texts items = value.given_list (map (item_of tables texts) items)

abbrev mutual
  pub argument_of : Tables → List Text → Argument → Given
  argument_of tables texts Nothing = value.nothing
  argument_of tables texts (One v) = value.one (entry_of tables texts v)
  argument_of tables texts (Row l) = value.row (items_of tables texts l.items.items)
  argument_of tables texts (Many l) = value.many (items_of tables texts l.items.items)
  argument_of tables texts (Table' shape row) = value.entries (entries_row tables texts row)

  pub entries_row : Tables → List Text → {m : _} → Row_of-Entries-pairs-2 m → GivenPairs
  entries_row tables texts end_of-Entries-pairs-2 = value.no_entries
  entries_row tables texts (more_of-Entries-pairs-2 label a rest) = value.more_entries (label_datum texts label) (argument_of tables texts a) (entries_row tables texts rest)

abbrev pub pair_of : Tables → List Text → Label × Argument → LabelValue × Given
pair_of tables texts e = (label_datum texts e.0, argument_of tables texts e.1)

abbrev pub entries_of : Tables → List Text → List (Label × Argument) → GivenPairs
entries_of tables texts pairs = value.given_pairs (map (pair_of tables texts) pairs)

abbrev pub named_of : Tables → List Text → Named → NamedGiven
named_of tables texts g = record { name = g.name; value = argument_of tables texts g.value }

abbrev pub arguments_of : Tables → List Text → List Named → List NamedGiven
arguments_of tables texts gs = map (named_of tables texts) gs

abbrev pub subscript_of : Tables → List Text → Subscript → GivenSub
subscript_of tables texts (Key a) = value.key_given (argument_of tables texts a)
subscript_of tables texts (Span from to by) = value.span_given (argument_of tables texts from) (argument_of tables texts to) (argument_of tables texts by)

-- each object that is handed in is live
abbrev pub IsLive : Tables → Value → Type 0
IsLive tables (Object id) = IsLiveObject tables id
IsLive tables (Scalar c) = Unit {0}

abbrev mutual
  pub IsLiveItem : Tables → Item → Type 0
  IsLiveItem tables (OneItem v) = IsLive tables v
  IsLiveItem tables (RowItem' shape row) = IsLiveRow tables row

  pub IsLiveRow : Tables → {m : _} → Row_of-Item m → Type 0
  IsLiveRow tables end_of-Item = Unit {0}
  IsLiveRow tables (more_of-Item a rest) = IsLiveItem tables a × IsLiveRow tables rest

abbrev pub AreLiveItems : Tables → List Item → Type 0
AreLiveItems tables [] = Unit {0}
AreLiveItems tables (item ∷ rest) = IsLiveItem tables item × AreLiveItems tables rest

abbrev mutual
  pub IsLiveArgument : Tables → Argument → Type 0
  IsLiveArgument tables Nothing = Unit {0}
  IsLiveArgument tables (One v) = IsLive tables v
  IsLiveArgument tables (Row l) = AreLiveItems tables l.items.items
  IsLiveArgument tables (Many l) = AreLiveItems tables l.items.items
  IsLiveArgument tables (Table' shape row) = AreLiveEntries tables row

  pub AreLiveEntries : Tables → {m : _} → Row_of-Entries-pairs-2 m → Type 0
  AreLiveEntries tables end_of-Entries-pairs-2 = Unit {0}
  AreLiveEntries tables (more_of-Entries-pairs-2 label a rest) = IsLiveArgument tables a × AreLiveEntries tables rest

abbrev pub AreLivePairs : Tables → List (Label × Argument) → Type 0
AreLivePairs tables [] = Unit {0}
AreLivePairs tables (pair ∷ rest) = IsLiveArgument tables pair.1 × AreLivePairs tables rest

abbrev pub AreLive : Tables → List Named → Type 0
AreLive tables [] = Unit {0}
AreLive tables (g ∷ rest) = IsLiveArgument tables g.value × AreLive tables rest

abbrev pub IsLiveSubscript : Tables → Subscript → Type 0
IsLiveSubscript tables (Key a) = IsLiveArgument tables a
IsLiveSubscript tables (Span from to by) = IsLiveArgument tables from × IsLiveArgument tables to × IsLiveArgument tables by
