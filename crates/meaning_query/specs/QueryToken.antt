-- The tokens of a query: those of a script, `@`, and names between backquotes.
use Rattle.std.specs.Prelude.{◌≡◌, ◌≢◌, ℕ, ◌==◌, ◌||◌, not, Bool, true, List, [], ◌∷◌, ◌++◌}
use Rattle.std.specs.List.{list_all}
use Rattle.meaning_language.specs.cells.Text.{Text}
use Rattle.meaning_language.specs.Token.{Token, IsToken, skip}

pub data QueryToken : Type 0 where
  plain : Token → QueryToken
  at_sign : QueryToken
  quoted : Text → QueryToken

-- a byte of a name between backquotes: neither a backquote nor a line feed
abbrev pub is_quoted_byte : ℕ → Bool
is_quoted_byte b = not (b == 96 || b == 10)

-- the bytes begin with the token, and the rest follows it
abbrev pub IsQueryToken : QueryToken → List ℕ → List ℕ → Type 0
IsQueryToken (plain t) bytes rest = IsToken t bytes rest
IsQueryToken at_sign bytes rest = bytes ≡ 64 ∷ rest
IsQueryToken (quoted name) bytes rest = (bytes ≡ 96 ∷ name ++ 96 ∷ rest) × (list_all is_quoted_byte name ≡ true) × (name ≢ [])

-- the tokens of the bytes, of which the first stands at their front; blanks and comments are those of a script
abbrev pub LexesQuery : List QueryToken → List ℕ → Type 0
LexesQuery [] bytes = bytes ≡ []
LexesQuery (t ∷ ts) bytes = (rest : List ℕ) × IsQueryToken t bytes rest × LexesQuery ts (skip rest)
