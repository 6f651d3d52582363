-- Bytes that begin with no token, or with none of a kind.
use Rattle.std.specs.Prelude.{◌≡◌, ℕ, List, [], ◌∷◌}
use Rattle.meaning_language.specs.Tree as tree
use Rattle.meaning_language.specs.Token.{Token, Mark, op, mark, spelling_of, IsToken, Lexes}

abbrev pub BeginsNoToken : List ℕ → Type 0
BeginsNoToken bytes = (t : Token) (rest : List ℕ) → IsToken t bytes rest → ⊥

abbrev pub BeginsNoLongOperator : List ℕ → Type 0
BeginsNoLongOperator bytes = (o : tree.Binary) (a b : ℕ) (rest : List ℕ) → spelling_of o ≡ a ∷ b ∷ [] → bytes ≡ a ∷ b ∷ rest → ⊥

-- no operator and no mark
abbrev pub BeginsNoSign : List ℕ → Type 0
BeginsNoSign bytes = ((o : tree.Binary) (rest : List ℕ) → IsToken (op o) bytes rest → ⊥) × ((m : Mark) (rest : List ℕ) → IsToken (mark m) bytes rest → ⊥)

-- not made of tokens
abbrev pub HasNoTokens : List ℕ → Type 0
HasNoTokens bytes = (ts : List Token) → Lexes ts bytes → ⊥
