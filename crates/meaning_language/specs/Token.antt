-- The tokens of a statement.
use Rattle.std.specs.Prelude.{◌≡◌, ◌≢◌, ℕ, ◌≤◌, ◌^◌, ◌==◌, ◌&&◌, ◌||◌, ◌⊎◌, nat_le, Bool, true, false, List, [], ◌∷◌, ◌++◌, Option, Some, None, codes, decimal, if◌then◌else◌}
use Rattle.std.specs.List.{list_all}
use Rattle.meaning_cells.specs.Text.{Text}
use Rattle.meaning_language.specs.Tree.{Binary, add, sub, mul, floor_div, mod_, eq, ne, lt, le, gt, ge, and, or, xor}

pub data Mark : Type 0 where
  equals : Mark
  dot : Mark
  comma : Mark
  colon : Mark
  tilde : Mark
  open_paren : Mark
  close_paren : Mark
  open_bracket : Mark
  close_bracket : Mark
  open_brace : Mark
  close_brace : Mark

-- A word is a name or a reserved word. A minus sign is the operator `sub`.
pub data Token : Type 0 where
  word : Text → Token
  int : ℕ → Token
  text : Text → Token
  op : Binary → Token
  mark : Mark → Token

abbrev pub byte_of : Mark → ℕ
byte_of equals = 61
byte_of dot = 46
byte_of comma = 44
byte_of colon = 58
byte_of tilde = 126
byte_of open_paren = 40
byte_of close_paren = 41
byte_of open_bracket = 91
byte_of close_bracket = 93
byte_of open_brace = 123
byte_of close_brace = 125

abbrev pub spelling_of : Binary → Text
spelling_of add = codes "+"
spelling_of sub = codes "-"
spelling_of mul = codes "*"
spelling_of floor_div = codes "//"
spelling_of mod_ = codes "%"
spelling_of eq = codes "=="
spelling_of ne = codes "!="
spelling_of lt = codes "<"
spelling_of le = codes "<="
spelling_of gt = codes ">"
spelling_of ge = codes ">="
spelling_of and = codes "&"
spelling_of or = codes "|"
spelling_of xor = codes "^"

-- `=`, `<` and `>` are no tokens of their own before another `=`
abbrev pub may_grow : Token → Bool
may_grow (mark equals) = true
may_grow (op lt) = true
may_grow (op gt) = true
may_grow t = false

abbrev pub is_digit : ℕ → Bool
is_digit b = nat_le 48 b && nat_le b 57

-- an ASCII letter or `_`, with which a word begins
abbrev pub begins_word : ℕ → Bool
begins_word b = (nat_le 65 b && nat_le b 90) || (nat_le 97 b && nat_le b 122) || b == 95

abbrev pub continues_word : ℕ → Bool
continues_word b = begins_word b || is_digit b

-- the first byte passes
abbrev pub begins_with : (ℕ → Bool) → List ℕ → Bool
begins_with p [] = false
begins_with p (b ∷ bs) = p b

-- the longest front of bytes that pass, and what follows it
abbrev pub IsRun : (ℕ → Bool) → List ℕ → List ℕ → List ℕ → Type 0
IsRun p front bytes rest = (bytes ≡ front ++ rest) × (list_all p front ≡ true) × (begins_with p rest ≡ false)

-- the byte that an escape stands for, by the byte after its backslash: `\\`, `\'`, `\"`, `\n`, `\t`
abbrev pub escaped : ℕ → Option ℕ
escaped b =
    if b == 92 then Some 92
    else if b == 39 then Some 39
    else if b == 34 then Some 34
    else if b == 110 then Some 10
    else if b == 116 then Some 9
    else None

-- a byte of a text between these quotes, as it stands or by an escape
abbrev pub IsTextByte : ℕ → ℕ → List ℕ → List ℕ → Type 0
IsTextByte quote c bytes rest =
    ((bytes ≡ c ∷ rest) × (c ≢ quote) × (c ≢ 92) × (c ≢ 10))
    ⊎ ((e : ℕ) × (bytes ≡ 92 ∷ e ∷ rest) × (escaped e ≡ Some c))

-- the bytes of a text, and the quote that ends it
abbrev pub IsQuoted : ℕ → Text → List ℕ → List ℕ → Type 0
IsQuoted quote [] bytes rest = bytes ≡ quote ∷ rest
IsQuoted quote (c ∷ cs) bytes rest = (more : List ℕ) × IsTextByte quote c bytes more × IsQuoted quote cs more rest

abbrev pub IsQuote : ℕ → Type 0
IsQuote b = (b ≡ 39) ⊎ (b ≡ 34)

-- The bytes begin with the token, and the rest follows it. A whole number has no leading zero; 2^63 is one only after a minus sign.
abbrev pub IsToken : Token → List ℕ → List ℕ → Type 0
IsToken (word w) bytes rest = IsRun continues_word w bytes rest × (begins_with begins_word w ≡ true)
IsToken (int n) bytes rest = IsRun is_digit (decimal n) bytes rest × (n ≤ 2 ^ 63)
IsToken (text s) bytes rest = (quote : ℕ) × (more : List ℕ) × IsQuote quote × (bytes ≡ quote ∷ more) × IsQuoted quote s more rest
IsToken (op o) bytes rest = (bytes ≡ spelling_of o ++ rest) × (may_grow (op o) && begins_with (λ b. b == 61) rest ≡ false)
IsToken (mark m) bytes rest = (bytes ≡ byte_of m ∷ rest) × (may_grow (mark m) && begins_with (λ b. b == 61) rest ≡ false)

-- a line feed, or a carriage return just before one
abbrev pub ends_line : ℕ → List ℕ → Bool
ends_line b rest = b == 10 || (b == 13 && begins_with (λ c. c == 10) rest)

-- what follows spaces, tabs, line ends and comments
abbrev mutual
  pub skip : List ℕ → List ℕ
  skip [] = []
  skip (b ∷ bs) = if b == 32 || b == 9 || ends_line b bs then skip bs else if b == 35 then skip_comment bs else b ∷ bs

  pub skip_comment : List ℕ → List ℕ
  skip_comment [] = []
  skip_comment (b ∷ bs) = if b == 10 then skip bs else skip_comment bs

-- the tokens of the bytes, of which the first stands at their front
abbrev pub Lexes : List Token → List ℕ → Type 0
Lexes [] bytes = bytes ≡ []
Lexes (t ∷ ts) bytes = (rest : List ℕ) × IsToken t bytes rest × Lexes ts (skip rest)
