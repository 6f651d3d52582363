-- Parts that are evaluated one after the other, as they are seen.
use Rattle.std.specs.Prelude.{Option, option_map, IfSome}
use Rattle.script_state.specs.tables.Value.{Given, GivenList, GivenPairs, GivenSub}
use Rattle.frame_store.specs.Arguments.{item_of, items_of, entries_of, subscript_of}
use Rattle.frame_store.specs.World.{World, argument_in, subscript_in, IsKnownArgument, IsKnownSubscript}
use Rattle.frame_store.specs.declared.arguments.Argument.{Argument}
use Rattle.frame_store.specs.declared.arguments.Item.{Item}
use Rattle.frame_store.specs.declared.arguments.Items.{Items}
use Rattle.frame_store.specs.declared.arguments.Entries.{Entries}
use Rattle.frame_store.specs.declared.arguments.Selector.{Selector}
use Rattle.frame_store.specs.declared.arguments.Subscript.{Subscript}
use Rattle.script_state.specs.frame_select.Selected.{way_of}
use Rattle.script_state.specs.script.Expression.{Target}
use Rattle.script_state.specs.Work.{world_of}
use Rattle.script_state.specs.declared.work.Work.{Work}

-- parts of arguments, as they are seen
abbrev pub item_in : World → Item → Given
item_in w item = item_of w.tables w.texts item

abbrev pub items_in : World → Items → GivenList
items_in w items = items_of w.tables w.texts items.items.items

abbrev pub pairs_in : World → Entries → GivenPairs
pairs_in w entries = entries_of w.tables w.texts entries.pairs.items

-- one subscript or two
abbrev pub subscripts_in : World → Subscript × Option Subscript → GivenSub × Option GivenSub
subscripts_in w p = (subscript_in w p.0, option_map (subscript_in w) p.1)

abbrev pub AreSubscripts : Work → Subscript × Option Subscript → Type 0
AreSubscripts w p = IsKnownSubscript (world_of w) p.0 × IfSome p.1 (IsKnownSubscript (world_of w))

-- what stands in brackets behind `groupby`, if they are there
abbrev pub brackets_in : World → Option Argument → Option Given
brackets_in w a = option_map (argument_in w) a

abbrev pub AreBrackets : Work → Option Argument → Type 0
AreBrackets w a = IfSome a (IsKnownArgument (world_of w))

-- the last step of a target, as it is seen
abbrev pub target_seen : World → Selector × Subscript × Option Subscript → Target
target_seen w p = record { way = way_of p.0; first = subscript_of w.tables w.texts p.1; second = option_map (subscript_of w.tables w.texts) p.2 }

abbrev pub IsTarget : Work → Selector × Subscript × Option Subscript → Type 0
IsTarget w p = IsKnownSubscript (world_of w) p.1 × IfSome p.2 (IsKnownSubscript (world_of w))
