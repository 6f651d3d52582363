-- Lists of parts, pairs and arguments that grow by one.
use mathlib.Core.Former.{Count}
use Rattle.{
  script_state.{proofs.cells.Common.{arith, ◌≡◌, List, [], ◌∷◌, ◌++◌, Option, refl, append_assoc, Label, Text, cell_label, label_datum}, specs.{language.Tree.{parts}, script.Expression.{cell_of, parts_by, part_by, pairs_by, given_by, arguments_by}, tables.{Settled.{IsSettled}, Value.{Entry, GivenList, GivenPairs, NamedGiven, no_given, more_given, no_entries, more_entries}}}},
  script_session.{specs.Masks.{asks, masked}, proofs.Gathering.{ReadsParts}},
  frame_store.{specs.{Objects.{Tables}, Arguments.{item_of, items_of, argument_of, entries_of, named_of, arguments_of, IsLiveItem, IsLiveRow, AreLiveItems, IsLiveArgument, AreLiveEntries, AreLivePairs, AreLive}, declared.arguments.{Argument.{Argument, Table, Table', Row_of-Entries-pairs-2, end_of-Entries-pairs-2, more_of-Entries-pairs-2, items-the_row-Entries-pairs-2, items_hidden-the_row-Entries-pairs-2-0}, Item.{Item, Row, Row', Row_of-Item, end_of-Item, more_of-Item, items-the_row-Item, items_hidden-the_row-Item-0}, Items.{Items}, Entries.{Entries}, Named.{Named}}, World.{World, IsKnownItem, AreKnownItems, IsKnownArgument, AreKnownPairs, AreKnownArguments, IsKnownSubscript}}, proofs.RowLaws.{item_of-Row, argument_of-Table}},
}
use Rattle.frame_store.specs.declared.arguments.Subscript.TheVariants as subscript

-- lists of parts, pairs and arguments as they are read
pub reads_items : (f : Option Entry) → ReadsParts (λ fs s xs. parts_by (asks f fs) fs (masked f s) (parts xs)) (λ fs s x. part_by (asks f fs) fs (masked f s) x.1) (λ x. more_given) no_given
reads_items f = record { none = λ fs s. refl; more = λ fs s x xs. refl }

pub reads_pairs : (f : Option Entry) → ReadsParts (λ fs s xs. pairs_by (asks f fs) fs (masked f s) (parts xs)) (λ fs s x. given_by (asks f fs) fs (masked f s) x.1) (λ x. more_entries (cell_label (cell_of x.0))) no_entries
reads_pairs f = record { none = λ fs s. refl; more = λ fs s x xs. refl }

pub reads_arguments : (f : Option Entry) → ReadsParts (λ fs s xs. arguments_by (asks f fs) fs (masked f s) (parts xs)) (λ fs s x. given_by (asks f fs) fs (masked f s) x.1) (λ x g l. record { name = x.0; value = g } ∷ l) []
reads_arguments f = record { none = λ fs s. refl; more = λ fs s x xs. refl }

-- parts behind parts
abbrev pub join_parts : GivenList → GivenList → GivenList
join_parts no_given l = l
join_parts (more_given g gs) l = more_given g (join_parts gs l)

abbrev pub join_pairs : GivenPairs → GivenPairs → GivenPairs
join_pairs no_entries l = l
join_pairs (more_entries k g gs) l = more_entries k g (join_pairs gs l)

pub parts_end : (l : GivenList) → join_parts l no_given ≡ l
parts_end no_given = refl
parts_end (more_given g gs) = cc (parts_end gs)

pub pairs_end : (l : GivenPairs) → join_pairs l no_entries ≡ l
pairs_end no_entries = refl
pairs_end (more_entries k g gs) = cc (pairs_end gs)

parts_joined : (a b l : GivenList) → join_parts (join_parts a b) l ≡ join_parts a (join_parts b l)
parts_joined no_given _ _ = refl
parts_joined (more_given g gs) b l = cc (parts_joined gs b l)

pairs_joined : (a b l : GivenPairs) → join_pairs (join_pairs a b) l ≡ join_pairs a (join_pairs b l)
pairs_joined no_entries _ _ = refl
pairs_joined (more_entries k g gs) b l = cc (pairs_joined gs b l)

module _ (tables : Tables) (texts : List Text) where
  items_join : (items : List Item) (item : Item) → items_of tables texts (items ++ item ∷ []) ≡ join_parts (items_of tables texts items) (more_given (item_of tables texts item) no_given)
  items_join [] _ = refl
  items_join (i ∷ items) item = cc (items_join items item)

  pub items_push : (items items' : List Item) (item : Item) → items' ≡ items ++ item ∷ [] → (l : GivenList)
      → join_parts (items_of tables texts items) (more_given (item_of tables texts item) l) ≡ join_parts (items_of tables texts items') l
  items_push = grind (arith, items_join, parts_joined)

  pairs_join : (pairs : List (Label × Argument)) (pair : Label × Argument)
      → entries_of tables texts (pairs ++ pair ∷ []) ≡ join_pairs (entries_of tables texts pairs) (more_entries (label_datum texts pair.0) (argument_of tables texts pair.1) no_entries)
  pairs_join [] _ = refl
  pairs_join (p ∷ pairs) pair = cc (pairs_join pairs pair)

  pub pairs_push : (pairs pairs' : List (Label × Argument)) (label : Label) (a : Argument) → pairs' ≡ pairs ++ (label, a) ∷ [] → (l : GivenPairs)
      → join_pairs (entries_of tables texts pairs) (more_entries (label_datum texts label) (argument_of tables texts a) l) ≡ join_pairs (entries_of tables texts pairs') l
  pairs_push = grind (arith, pairs_join, pairs_joined)

  arguments_join : (args : List Named) (g : Named) → arguments_of tables texts (args ++ g ∷ []) ≡ arguments_of tables texts args ++ named_of tables texts g ∷ []
  arguments_join [] g = refl
  arguments_join (a ∷ args) g = cc (arguments_join args g)

  pub arguments_push : (args args' : List Named) (g : Named) → args' ≡ args ++ g ∷ [] → (l : List NamedGiven) → arguments_of tables texts args ++ named_of tables texts g ∷ l ≡ arguments_of tables texts args' ++ l
  arguments_push = grind (arith, append_assoc, arguments_join)

-- liveness of one more
live_items_push : (tables : Tables) (items : List Item) (item : Item) → AreLiveItems tables items → IsLiveItem tables item → AreLiveItems tables (items ++ item ∷ [])
live_items_push _ [] _ _ one = (one, tt)
live_items_push _ (i ∷ items) _ all one = (all.0, live_items_push _ items _ all.1 one)

live_pairs_push : (tables : Tables) (pairs : List (Label × Argument)) (pair : Label × Argument) → AreLivePairs tables pairs → IsLiveArgument tables pair.1 → AreLivePairs tables (pairs ++ pair ∷ [])
live_pairs_push _ [] _ _ one = (one, tt)
live_pairs_push _ (p ∷ pairs) _ all one = (all.0, live_pairs_push _ pairs _ all.1 one)

live_arguments_push : (tables : Tables) (args : List Named) (g : Named) → AreLive tables args → IsLiveArgument tables g.value → AreLive tables (args ++ g ∷ [])
live_arguments_push _ [] g _ one = (one, tt)
live_arguments_push _ (a ∷ args) g all one = (all.0, live_arguments_push _ args g all.1 one)

module _ (w : World) where
  pub items_known : (items items' : List Item) (item : Item) → items' ≡ items ++ item ∷ [] → AreKnownItems w items → IsKnownItem w item → AreKnownItems w items'
  items_known = grind (arith, live_items_push, items_join)

  pub pairs_known : (pairs pairs' : List (Label × Argument)) (label : Label) (a : Argument) → pairs' ≡ pairs ++ (label, a) ∷ [] → AreKnownPairs w pairs → IsSettled label_datum w.texts label → IsKnownArgument w a → AreKnownPairs w pairs'
  pairs_known = grind (arith, live_pairs_push, pairs_join)

  pub arguments_known : (args args' : List Named) (g : Named) → args' ≡ args ++ g ∷ [] → AreKnownArguments w args → IsKnownArgument w g.value → AreKnownArguments w args'
  arguments_known = grind (arith, live_arguments_push, arguments_join)

  -- none yet
  pub no_items : (items : List Item) → items ≡ [] → AreKnownItems w items × ((l : GivenList) → join_parts (items_of w.tables w.texts items) l ≡ l)
  no_items items none = rw none (record { live = tt; given = λ more. refl }, λ l. refl)

  pub no_pairs : (pairs : List (Label × Argument)) → pairs ≡ [] → AreKnownPairs w pairs × ((l : GivenPairs) → join_pairs (entries_of w.tables w.texts pairs) l ≡ l)
  no_pairs pairs none = rw none (record { live = tt; given = λ more. refl }, λ l. refl)

  pub no_arguments : (args : List Named) → args ≡ [] → AreKnownArguments w args × ((l : List NamedGiven) → arguments_of w.tables w.texts args ++ l ≡ l)
  no_arguments args none = rw none (record { live = tt; given = λ more. refl }, λ l. refl)

-- a list and a dict whose parts are live
live_row : (tables : Tables) (n : Count) (row : Row_of-Item n) → AreLiveItems tables (items-the_row-Item n row) → IsLiveRow tables row
live_row _ _ end_of-Item _ = tt
live_row _ _ (more_of-Item {n} a rest) live = (live.0, live_row _ n rest live.1)

abbrev item_row : Item → (n : Count) × Row_of-Item n
item_row (Row' _ row) = (_, row)
item_row _ = (_, end_of-Item)

live_entries : (tables : Tables) (n : Count) (row : Row_of-Entries-pairs-2 n) → AreLivePairs tables (items-the_row-Entries-pairs-2 n row) → AreLiveEntries tables row
live_entries _ _ end_of-Entries-pairs-2 _ = tt
live_entries _ _ (more_of-Entries-pairs-2 {n} label a rest) live = (live.0, live_entries _ n rest live.1)

abbrev table_row : Argument → (n : Count) × Row_of-Entries-pairs-2 n
table_row (Table' _ row) = (_, row)
table_row _ = (_, end_of-Entries-pairs-2)

pub row_known : (w : World) (l : Items) → AreKnownItems w l.items.items → IsKnownItem w (Row l)
row_known w l known =
    record {
      live = live_row _ _ (item_row (Row l)).1 (rw (items_hidden-the_row-Item-0 l.items) known.live);
      given = grind (arith, item_of-Row);
    }

pub table_known : (w : World) (l : Entries) → AreKnownPairs w l.pairs.items → IsKnownArgument w (Table l)
table_known w l known =
    record {
      live = live_entries _ _ (table_row (Table l)).1 (rw (items_hidden-the_row-Entries-pairs-2-0 l.pairs) known.live);
      given = grind (arith, argument_of-Table);
    }

-- a value, a list, a tuple and None as arguments, and subscripts of arguments
module _ (w : World) where
  pub key_known : (a : Argument) → IsKnownArgument w a → IsKnownSubscript w (subscript.Key a)
  key_known = grind arith

  pub span_known : (a b c : Argument) → IsKnownArgument w a → IsKnownArgument w b → IsKnownArgument w c → IsKnownSubscript w (subscript.Span a b c)
  span_known = grind arith
