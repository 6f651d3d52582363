-- What readers give of arguments, whatever the tables and texts are.
use Rattle.std.specs.Prelude.{◌≡◌, List, Option, IfSome}
use Rattle.std.specs.Borrow.{Bor}
use Rattle.std.specs.Option.{option_map}
use Rattle.cell_core.specs.declared.cell.Label.{Label}
use Rattle.cell_core.specs.declared.cell.Cell.{Cell}
use Rattle.meaning_tables.specs.cells.Text.{Text}
use Rattle.meaning_tables.specs.cells.Cell.{CellValue, datum}
use Rattle.meaning_tables.specs.Value.{Given, GivenList, GivenPairs}
use Rattle.frame_store.specs.Objects.{Tables}
use Rattle.frame_store.specs.Arguments.{items_of, argument_of, entries_of, AreLiveItems, IsLiveArgument, AreLivePairs}
use Rattle.frame_store.specs.declared.arguments.Argument.{Argument}
use Rattle.frame_store.specs.declared.arguments.Item.{Item}

-- the result is what the definition reads of the thing
abbrev pub Agrees : {X Y A : Type 0} → (Y → A) → (Tables → List Text → X → Y) → X → A → Type 0
Agrees read view x result = (tables : Tables) (texts : List Text) → result ≡ read (view tables texts x)

-- and so by these texts
abbrev pub AgreesBy : {X Y A : Type 0} → List Text → (Y → A) → (Tables → List Text → X → Y) → X → A → Type 0
AgreesBy texts read view x result = (tables : Tables) → result ≡ read (view tables texts x)

-- the result, seen through the tables and texts too, is what the definition reads of the thing, if anything
abbrev pub AgreesSeen : {X Y A B : Type 0} → (Y → Option B) → (Tables → List Text → X → Y) → X → (Tables → List Text → A → B) → Option A → Type 0
AgreesSeen read view x seen result = (tables : Tables) (texts : List Text) → option_map (seen tables texts) result ≡ read (view tables texts x)

-- the result is live where the thing is
abbrev pub IsLiveWith : {X A : Type 0} → (Tables → X → Type 0) → X → (Tables → A → Type 0) → Option A → Type 0
IsLiveWith alive x found result = (tables : Tables) → alive tables x → IfSome result (found tables)

-- a cell, and an argument, parts and pairs that are lent
abbrev pub cell_seen : Tables → List Text → Cell → CellValue
cell_seen tables texts c = datum texts c

abbrev pub lent_argument : Tables → List Text → Bor Argument → Given
lent_argument tables texts a = argument_of tables texts a.now

abbrev pub lent_items : Tables → List Text → Bor (List Item) → GivenList
lent_items tables texts items = items_of tables texts items.now

abbrev pub lent_pairs : Tables → List Text → Bor (List (Label × Argument)) → GivenPairs
lent_pairs tables texts pairs = entries_of tables texts pairs.now

abbrev pub IsLiveLent : Tables → Bor Argument → Type 0
IsLiveLent tables a = IsLiveArgument tables a.now

abbrev pub AreLiveLentItems : Tables → Bor (List Item) → Type 0
AreLiveLentItems tables items = AreLiveItems tables items.now

abbrev pub AreLiveLentPairs : Tables → Bor (List (Label × Argument)) → Type 0
AreLiveLentPairs tables pairs = AreLivePairs tables pairs.now
