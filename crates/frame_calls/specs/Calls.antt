-- What a name means in a call.
use Rattle.std.specs.Prelude.{List, Option, Some, None, IfSome, Result, Err}
use Rattle.std.specs.Option.{option_map}
use Rattle.meaning_call.specs.cells.Text.{Text}
use Rattle.meaning_call.specs.cells.Fault.{FaultValue, wrong_kind}
use Rattle.meaning_call.specs.declared.Function.{Function}
use Rattle.meaning_call.specs.declared.Method.{Method}
use Rattle.meaning_call.specs.Signature.{method_named}
use Rattle.frame_store.specs.tables.Value.{Entry, cell, table, NamedGiven}
use Rattle.frame_store.specs.World.{World, argument_in, arguments_in, IsKnownArgument, AreKnownArguments}
use Rattle.frame_labels.specs.method.Calls.{ChainValue, grouped, rolling, expanding}
use Rattle.frame_labels.specs.method.Readers.{file_name_of}
use Rattle.frame_calls.specs.declared.between.Between.{Between}
use Rattle.frame_calls.specs.declared.between.Between.TheVariants.{Groupby, Rolling, Expanding}

-- the method that a value has under a name; a scalar has none
abbrev pub method_in : Entry → Text → Option Method
method_in (cell c) name = None
method_in (table t) name = method_named t.shape name

-- the text that names the file of a call; a call of no function names none
abbrev pub name_for : Option Function → List NamedGiven → Result Text FaultValue
name_for None gs = Err wrong_kind
name_for (Some f) gs = file_name_of f gs

-- what stands before a name, and the name, with tables and texts
abbrev pub chain_of : World → Between → Text → ChainValue
chain_of w (Groupby args brackets) name = grouped (arguments_in w args.now) (option_map (argument_in w) brackets.now) name
chain_of w (Rolling args) name = rolling (arguments_in w args.now) name
chain_of w (Expanding args) name = expanding (arguments_in w args.now) name

-- the arguments and what stands in brackets are known
abbrev pub IsKnownBetween : World → Between → Type 0
IsKnownBetween w (Groupby args brackets) = AreKnownArguments w args.now × IfSome brackets.now (IsKnownArgument w)
IsKnownBetween w (Rolling args) = AreKnownArguments w args.now
IsKnownBetween w (Expanding args) = AreKnownArguments w args.now
