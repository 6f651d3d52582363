-- Scripts.
use Rattle.std.specs.Prelude.{◌≡◌, ◌≢◌, ℕ, suc, ◌+◌, ◌==◌, ◌⊎◌, ◌^◌, List, [], ◌∷◌, count_by}
use Rattle.std.specs.Str.{IsUtf8}
use Rattle.meaning_language.specs.Token.{Token, Lexes, skip}
use Rattle.meaning_language.specs.Tree.{Action, Statement}
use Rattle.meaning_language.specs.Grammar.{SpellsAction, IsShallow}
use Rattle.meaning_language.specs.Pieces.{pieces}

abbrev pub most_bytes : ℕ
most_bytes = 2 ^ 20

abbrev pub most_statements : ℕ
most_statements = 10000

-- how many lines end in a piece
abbrev pub line_ends : List ℕ → ℕ
line_ends piece = count_by (λ b. b == 10) piece

-- nothing but blanks, line ends and comments
abbrev pub IsBlank : List ℕ → Type 0
IsBlank piece = skip piece ≡ []

-- the piece is the statement, from its first column on
abbrev pub IsStatement : Action → List ℕ → Type 0
IsStatement action piece = (ts : List Token) × Lexes ts piece × SpellsAction action ts × IsShallow action

-- The statements of pieces, of which the first begins on this line. So many statements may still come.
abbrev pub ArePieces : ℕ → ℕ → List (List ℕ) → List Statement → Type 0
ArePieces left line [] ss = ss ≡ []
ArePieces left line (piece ∷ rest) ss =
    (IsUtf8 piece × IsBlank piece × ArePieces left (line + line_ends piece) rest ss)
    ⊎ ((fewer : ℕ) × (action : Action) × (more : List Statement) × (left ≡ suc fewer) × IsUtf8 piece × IsStatement action piece
    × (ss ≡ record { line = line; action = action } ∷ more) × ArePieces fewer (line + line_ends piece) rest more)

-- a piece that is text, and blank, or one statement where one may still come
abbrev pub IsRight : ℕ → List ℕ → Type 0
IsRight left piece = IsUtf8 piece × (IsBlank piece ⊎ ((left ≢ 0) × ((action : Action) × IsStatement action piece)))

-- the line on which the first piece begins that isn't right
abbrev pub IsFirstWrong : ℕ → ℕ → List (List ℕ) → ℕ → Type 0
IsFirstWrong left line [] wrong = ⊥
IsFirstWrong left line (piece ∷ rest) wrong =
    (IsUtf8 piece × IsBlank piece × IsFirstWrong left (line + line_ends piece) rest wrong)
    ⊎ ((fewer : ℕ) × (action : Action) × (left ≡ suc fewer) × IsUtf8 piece × IsStatement action piece × IsFirstWrong fewer (line + line_ends piece) rest wrong)
    ⊎ ((wrong ≡ line) × (¬ (IsRight left piece)))

-- the bytes are a script, and these are its statements
abbrev pub IsScript : List ℕ → List Statement → Type 0
IsScript bytes ss = ArePieces most_statements 1 (pieces bytes) ss

-- the bytes are no script, and this is the line of the syntax error
abbrev pub IsSyntaxLine : List ℕ → ℕ → Type 0
IsSyntaxLine bytes line = IsFirstWrong most_statements 1 (pieces bytes) line
