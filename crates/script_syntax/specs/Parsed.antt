-- What the bytes of a text are parsed to.
use Rattle.std.specs.Prelude.{◌≡◌, ◌<◌, ◌≤◌, ℕ, List, length, Result, Ok, Err}
use Rattle.script_tokens.specs.language.Tree.{Statement}
use Rattle.script_tokens.specs.language.Script.{IsScript, IsSyntaxLine, most_bytes}
use Rattle.script_tree.specs.ScriptView.{statements_of}
use Rattle.script_tree.specs.declared.script.Script.{Script}
use Rattle.script_syntax.specs.declared.pieces.ParseFault.{ParseFault}
use Rattle.script_syntax.specs.declared.pieces.ParseFault.TheVariants.{SyntaxAt, TooLarge, NoMemory}

-- the bytes are this script, and nothing else
abbrev pub IsTheScript : List ℕ → List Statement → Type 0
IsTheScript bytes ss = IsScript bytes ss × ((others : List Statement) → IsScript bytes others → others ≡ ss) × ((line : ℕ) → IsSyntaxLine bytes line → ⊥)

-- the bytes are no script, and this is the one line of the syntax error
abbrev pub IsTheSyntaxLine : List ℕ → ℕ → Type 0
IsTheSyntaxLine bytes line = IsSyntaxLine bytes line × ((other : ℕ) → IsSyntaxLine bytes other → other ≡ line) × ((ss : List Statement) → IsScript bytes ss → ⊥)

abbrev pub IsParsed : List ℕ → Result Script ParseFault → Type 0
IsParsed bytes (Ok script) = (length bytes ≤ most_bytes) × IsTheScript bytes (statements_of script)
IsParsed bytes (Err (SyntaxAt line)) = (length bytes ≤ most_bytes) × IsTheSyntaxLine bytes line
IsParsed bytes (Err TooLarge) = most_bytes < length bytes
IsParsed bytes (Err NoMemory) = Unit {0}
