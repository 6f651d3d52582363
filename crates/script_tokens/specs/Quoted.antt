-- Parts of a text between quotes.
use Rattle.std.specs.Prelude.{◌≡◌, ℕ, ◌==◌, ◌||◌, Bool, true, false, List, ◌∷◌, Some, if◌then◌else◌}
use Rattle.meaning_language.specs.cells.Text.{Text}
use Rattle.meaning_language.specs.Token.{escaped, IsQuoted}

-- a byte that stands for itself
abbrev pub is_plain : ℕ → ℕ → Bool
is_plain quote b = if b == quote || b == 92 || b == 10 then false else true

abbrev pub IsEscape : ℕ → List ℕ → List ℕ → Type 0
IsEscape c bytes rest = (e : ℕ) × (bytes ≡ 92 ∷ e ∷ rest) × (escaped e ≡ Some c)

abbrev pub BeginsNoEscape : List ℕ → Type 0
BeginsNoEscape bytes = (c : ℕ) (rest : List ℕ) → IsEscape c bytes rest → ⊥

-- no text ends there with this quote
abbrev pub EndsNoText : ℕ → List ℕ → Type 0
EndsNoText quote bytes = (s : Text) (rest : List ℕ) → IsQuoted quote s bytes rest → ⊥
