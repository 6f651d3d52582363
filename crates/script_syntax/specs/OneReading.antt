-- That a text is read in one way.
use Rattle.std.specs.Prelude.{ℕ, List, ◌⊎◌}
use Rattle.script_tokens.specs.language.Tree.{Statement}
use Rattle.script_syntax.specs.Parsed.{IsTheScript, IsTheSyntaxLine}

-- The bytes are one script and no other, and have no syntax line; or they are no script, and have one syntax line.
abbrev pub HasOneReading : List ℕ → Type 0
HasOneReading bytes = ((ss : List Statement) × IsTheScript bytes ss) ⊎ ((line : ℕ) × IsTheSyntaxLine bytes line)
