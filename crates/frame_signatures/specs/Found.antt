-- What stands at a place of a signature.
use Rattle.std.specs.Prelude.{List}
use Rattle.frame_store.specs.cells.Text.{Text}
use Rattle.frame_store.specs.tables.Value.{Given as Value}
use Rattle.meaning_call.specs.Binding.{stands_for, IsNoText}
use Rattle.frame_store.specs.Objects.{Tables}
use Rattle.frame_store.specs.Arguments.{argument_of, IsLiveArgument}
use Rattle.frame_signatures.specs.declared.places.Found.{Found}
use Rattle.frame_signatures.specs.declared.places.Found.TheVariants.{Given, StandIn}

abbrev pub found_value : Tables → List Text → Found → Value
found_value live texts (Given a) = argument_of live texts a.now
found_value live texts (StandIn omitted) = stands_for omitted

abbrev pub IsFoundLive : Tables → Found → Type 0
IsFoundLive live (Given a) = IsLiveArgument live a.now
IsFoundLive live (StandIn omitted) = Unit {0}

abbrev pub StandsNoText : Found → Type 0
StandsNoText (Given a) = Unit {0}
StandsNoText (StandIn omitted) = IsNoText omitted
