-- Bytes that begin with no token of a query, or end no name.
use Rattle.std.specs.Prelude.{ℕ, List, ◌∷◌}
use Rattle.meaning_query.specs.language.Token.{skip}
use Rattle.meaning_query.specs.language.cells.Text.{Text}
use Rattle.meaning_query.specs.QueryToken.{QueryToken, quoted, IsQueryToken, LexesQuery}

abbrev pub BeginsNoQueryToken : List ℕ → Type 0
BeginsNoQueryToken bytes = (t : QueryToken) (rest : List ℕ) → IsQueryToken t bytes rest → ⊥

-- the name and its closing backquote, behind the opening one
abbrev pub IsQuotedName : Text → List ℕ → List ℕ → Type 0
IsQuotedName name bytes rest = IsQueryToken (quoted name) (96 ∷ bytes) rest

-- no name ends there
abbrev pub EndsNoName : List ℕ → Type 0
EndsNoName bytes = (name : Text) (rest : List ℕ) → IsQuotedName name bytes rest → ⊥

-- not made of the tokens of a query
abbrev pub HasNoQueryTokens : Text → Type 0
HasNoQueryTokens text = (ts : List QueryToken) → LexesQuery ts (skip text) → ⊥
