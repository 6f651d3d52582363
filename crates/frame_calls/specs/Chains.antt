-- Chains of calls with their tables and texts.
use Rattle.std.specs.Prelude.{IfSome}
use Rattle.std.specs.Option.{option_map}
use Rattle.frame_labels.specs.method.Calls.{ChainValue, plain, on_texts, grouped, rolling, expanding}
use Rattle.frame_calls.specs.declared.chain.Chain.{Chain}
use Rattle.frame_calls.specs.declared.chain.Chain.TheVariants.{Plain, Text, Group, Rolling, Expanding}
use Rattle.frame_store.specs.World.{World, argument_in, arguments_in, IsKnownArgument, AreKnownArguments}

-- a chain with its tables and texts
abbrev pub chain_in : World → Chain → ChainValue
chain_in w (Plain name) = plain name
chain_in w (Text name) = on_texts name
chain_in w (Group by brackets name) = grouped (arguments_in w by) (option_map (argument_in w) brackets) name
chain_in w (Rolling args name) = rolling (arguments_in w args) name
chain_in w (Expanding args name) = expanding (arguments_in w args) name

-- the arguments of the links and the brackets are known
abbrev pub IsKnownChain : World → Chain → Type 0
IsKnownChain w (Plain name) = Unit {0}
IsKnownChain w (Text name) = Unit {0}
IsKnownChain w (Group by brackets name) = AreKnownArguments w by × IfSome brackets (IsKnownArgument w)
IsKnownChain w (Rolling args name) = AreKnownArguments w args
IsKnownChain w (Expanding args name) = AreKnownArguments w args
