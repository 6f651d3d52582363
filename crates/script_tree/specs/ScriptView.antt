-- The statements of a script, as plain trees.
use Rattle.std.specs.Prelude.{List, map}
use Rattle.script_tokens.specs.language.Tree as tree
use Rattle.script_tree.specs.declared.script.Script.{Script}
use Rattle.script_tree.specs.View.{statement_of}

abbrev pub statements_of : Script → List tree.Statement
statements_of s = map statement_of s.statements.items
