-- Calls behind `groupby`, `rolling` and `expanding`.
use Rattle.std.specs.Prelude.{List, Option, codes}
use Rattle.std.specs.Borrow.{Bor}
use Rattle.script_state.specs.cells.Text.{Text}
use Rattle.script_state.specs.tables.Value.{Entry, Given, NamedGiven}
use Rattle.script_state.specs.language.Tree.{parts}
use Rattle.script_state.specs.method.Calls.{has_method, ChainValue, grouped, rolling, expanding}
use Rattle.script_state.specs.script.Reading.{Files, Reads, then_read}
use Rattle.script_state.specs.script.State.{State}
use Rattle.script_state.specs.script.Expression.{Asked, called, where_named, arguments_by, brackets_by}
use Rattle.script_tree.specs.View.{named_parts_of, optional_arg}
use Rattle.frame_store.specs.declared.arguments.Argument.{Argument}
use Rattle.frame_store.specs.declared.arguments.Named.{Named}
use Rattle.script_state.specs.frame_calls.declared.between.Between.{Between}
use Rattle.script_state.specs.frame_calls.declared.between.Between.TheVariants as between
use Rattle.script_session.specs.declared.link.Link.{Link}
use Rattle.script_session.specs.declared.link.Link.TheVariants.{Groupby, Rolling, Expanding}
use Rattle.script_session.specs.declared.link.Linked.{Linked}

abbrev pub link_name : Link → Text
link_name Groupby = codes "groupby"
link_name Rolling = codes "rolling"
link_name Expanding = codes "expanding"

-- what stands before a name: a link with its arguments and what stands in brackets, which windows don't have
abbrev pub between_of : Link → Bor (List Named) → Bor (Option Argument) → Between
between_of Groupby args by = between.Groupby args by
between_of Rolling args by = between.Rolling args
between_of Expanding args by = between.Expanding args

-- the same with plain values, and the name behind it
abbrev pub chain_meant : Link → List NamedGiven → Option Given → Text → ChainValue
chain_meant Groupby args by name = grouped args by name
chain_meant Rolling args by name = rolling args name
chain_meant Expanding args by name = expanding args name

-- what follows the arguments of the link, and what follows the brackets
abbrev pub after_brackets : Asked → Files → State → Entry → Linked → List NamedGiven → Option Given → Reads Entry
after_brackets ask files s v call g h = then_read (arguments_by ask files s (parts (named_parts_of call.more.now))) (called v (chain_meant call.link g h call.name.now))

abbrev pub after_link : Asked → Files → State → Entry → Linked → List NamedGiven → Reads Entry
after_link ask files s v call g = then_read (brackets_by ask files s (optional_arg call.by.now)) (after_brackets ask files s v call g)

-- The name is tested first. Then all arguments and the brackets are read, from left to right, and the method is called.
abbrev pub linked : Asked → Files → State → Entry → Linked → Reads Entry
linked ask files s v call =
    where_named (has_method v (link_name call.link)) (link_name call.link)
    (then_read (arguments_by ask files s (parts (named_parts_of call.args.now))) (after_link ask files s v call))
