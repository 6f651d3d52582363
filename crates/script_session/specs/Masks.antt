-- What is evaluated in the mask of a query.
use Rattle.std.specs.Prelude.{Option, Some, None, IfSome, Result, Ok, Err, option_map}
use Rattle.std.specs.Borrow.{Bor}
use Rattle.script_state.specs.cells.Text.{Text}
use Rattle.script_state.specs.cells.Fault.{FaultValue, wrong_kind}
use Rattle.script_state.specs.tables.Value.{Entry}
use Rattle.script_state.specs.script.query.Query.{frame_name}
use Rattle.script_state.specs.script.Reading.{Files}
use Rattle.script_state.specs.script.State.{State, with_new}
use Rattle.script_state.specs.script.Expression.{Asked, queried, no_query}
use Rattle.frame_store.specs.World.{World, entry_in, IsKnownValue}
use Rattle.frame_store.specs.declared.arguments.Value.{Value}
use Rattle.script_state.specs.Evaluates.{IsValue}
use Rattle.script_state.specs.Work.{world_of}
use Rattle.script_state.specs.declared.work.Work.{Work}

-- the frame of the query whose mask is evaluated, if it is one
abbrev pub frame_in : World → Option Value → Option Entry
frame_in w frame = option_map (entry_in w) frame

abbrev pub IsKnownFrame : World → Option Value → Type 0
IsKnownFrame w frame = IfSome frame (IsKnownValue w)

-- what a query gives: none is asked in a mask
abbrev pub asks : Option Entry → Files → Asked
asks None files = queried files
asks (Some v) files = no_query

-- the names: in a mask the empty one is the frame's
abbrev pub masked : Option Entry → State → State
masked None s = s
masked (Some v) s = with_new s frame_name v

-- the value of that name, or one that no name stands for; of a value in a mask nobody asks that
abbrev pub IsAnswer : Option Value → Option Text → Work → Value → Type 0
IsAnswer None name w v = IsValue name w v
IsAnswer (Some frame) name w v = IsKnownValue (world_of w) v

-- the text that was found
abbrev pub found_text : Option (Bor Text) → Option Text
found_text found = option_map (λ text. text.now) found

-- the text of a query that was found, and else another kind
abbrev pub asked_text : Option (Bor Text) → Result Text FaultValue
asked_text None = Err wrong_kind
asked_text (Some text) = Ok text.now
