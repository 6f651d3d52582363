-- A row of parts, as the list of them.
use mathlib.Core.Former.{Count}
use Rattle.{
  meaning_tables.proofs.cells.Common.{◌≡◌, refl, List, Text},
  frame_store.specs.{declared.arguments.{Argument.{Argument, Table, Table', Row_of-Entries-pairs-2, end_of-Entries-pairs-2, more_of-Entries-pairs-2, items-the_row-Entries-pairs-2, items_hidden-the_row-Entries-pairs-2-0}, Item.{Item, Row, Row', Row_of-Item, end_of-Item, more_of-Item, items-the_row-Item, items_hidden-the_row-Item-0}, Items.{Items}, Entries.{Entries}}, Objects.{Tables}, Arguments.{item_of, items_row, items_of, argument_of, entries_row, entries_of, IsLiveItem, IsLiveRow, AreLiveItems, IsLiveArgument, AreLiveEntries, AreLivePairs}},
}
use Rattle.meaning_tables.specs.Value as value

items_row-list : (tables : Tables) (texts : List Text) (n : Count) (row : Row_of-Item n) → items_row tables texts row ≡ items_of tables texts (items-the_row-Item n row)
items_row-list _ _ _ end_of-Item = refl
items_row-list tables texts _ (more_of-Item {n} a rest) = cc (items_row-list tables texts n rest)

abbrev item_row : Item → (n : Count) × Row_of-Item n
item_row (Row' _ row) = (_, row)
item_row _ = (_, end_of-Item)

pub item_of-Row : (tables : Tables) (texts : List Text) (l : Items) → item_of tables texts (Row l) ≡ value.row (items_of tables texts l.items.items)
item_of-Row tables texts l =
    let row = item_row (Row l) in
    cc (items_row-list tables texts row.0 row.1, items_hidden-the_row-Item-0 l.items)

entries_row-list : (tables : Tables) (texts : List Text) (n : Count) (row : Row_of-Entries-pairs-2 n) → entries_row tables texts row ≡ entries_of tables texts (items-the_row-Entries-pairs-2 n row)
entries_row-list _ _ _ end_of-Entries-pairs-2 = refl
entries_row-list tables texts _ (more_of-Entries-pairs-2 {n} label a rest) = cc (entries_row-list tables texts n rest)

abbrev table_row : Argument → (n : Count) × Row_of-Entries-pairs-2 n
table_row (Table' _ row) = (_, row)
table_row _ = (_, end_of-Entries-pairs-2)

pub argument_of-Table : (tables : Tables) (texts : List Text) (l : Entries) → argument_of tables texts (Table l) ≡ value.entries (entries_of tables texts l.pairs.items)
argument_of-Table tables texts l =
    let row = table_row (Table l) in
    cc (entries_row-list tables texts row.0 row.1, items_hidden-the_row-Entries-pairs-2-0 l.pairs)

-- the same for liveness
live_row-list : (tables : Tables) (n : Count) (row : Row_of-Item n) → IsLiveRow tables row → AreLiveItems tables (items-the_row-Item n row)
live_row-list _ _ end_of-Item h = tt
live_row-list tables _ (more_of-Item {n} a rest) h = (h.0, live_row-list tables n rest h.1)

pub IsLiveItem-Row : (tables : Tables) (l : Items) → IsLiveItem tables (Row l) → AreLiveItems tables l.items.items
IsLiveItem-Row tables l h =
    let row = item_row (Row l) in
    rw (← items_hidden-the_row-Item-0 l.items) (live_row-list tables row.0 row.1 h)

live_entries-list : (tables : Tables) (n : Count) (row : Row_of-Entries-pairs-2 n) → AreLiveEntries tables row → AreLivePairs tables (items-the_row-Entries-pairs-2 n row)
live_entries-list _ _ end_of-Entries-pairs-2 h = tt
live_entries-list tables _ (more_of-Entries-pairs-2 {n} label a rest) h = (h.0, live_entries-list tables n rest h.1)

pub IsLiveArgument-Table : (tables : Tables) (l : Entries) → IsLiveArgument tables (Table l) → AreLivePairs tables l.pairs.items
IsLiveArgument-Table tables l h =
    let row = table_row (Table l) in
    rw (← items_hidden-the_row-Entries-pairs-2-0 l.pairs) (live_entries-list tables row.0 row.1 h)
