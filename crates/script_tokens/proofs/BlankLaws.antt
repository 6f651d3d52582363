-- A blank piece has no token.
use Rattle.{
  meaning_language.{proofs.cells.Common.{◌≡◌, ℕ, List, [], ◌∷◌, arith, nat_tests}, specs.{Token.{Token, word, int, text, op, mark, IsToken, Lexes, skip}, Script.{IsBlank}}},
  script_tokens.proofs.TokenLaws.{IsToken-shorter, word_begins, int_begins},
}

-- nothing is skipped before a token
pub skip-token : (t : Token) (bytes rest : List ℕ) → IsToken t bytes rest → skip bytes ≡ bytes
skip-token t [] = grind arith
skip-token (word w) (b ∷ bs) = grind (arith, nat_tests, word_begins w (b ∷ bs))
skip-token (int n) (b ∷ bs) = grind (arith, nat_tests, int_begins n (b ∷ bs))
skip-token (text s) (b ∷ bs) = grind (arith, nat_tests)
skip-token (op o) (b ∷ bs) = grind (arith, nat_tests)
skip-token (mark m) (b ∷ bs) = grind (arith, nat_tests)

pub Lexes-blank : (ts : List Token) (piece : List ℕ) → IsBlank piece → Lexes ts piece → ts ≡ []
Lexes-blank [] = grind arith
Lexes-blank (t ∷ ts) = grind (arith, skip-token, IsToken-shorter)
