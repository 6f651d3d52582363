-- The tokens of a query's text, read from its front. A reader answers a value and the bytes after it, or that none stands there.
use Rattle.std.specs.Prelude.{ℕ, zero, suc, ◌^◌, ◌==◌, ◌||◌, ◌&&◌, nat_le, Bool, true, false, List, [], ◌∷◌, take, drop, length, Option, Some, None, decimal}
use Rattle.std.specs.List.{prefix_len}
use Rattle.std.specs.Str.Parse.{digits_value}
use Rattle.meaning_language.specs.cells.Text.{Text, same_text}
use Rattle.meaning_language.specs.Tree.{add, sub, mul, floor_div, mod_, eq, ne, lt, le, gt, ge, and, or, xor}
use Rattle.meaning_language.specs.Token.{Token, word, int, text, op, mark, equals, dot, comma, colon, tilde, open_paren, close_paren, open_bracket, close_bracket, open_brace, close_brace, byte_of, spelling_of, is_digit, begins_word, continues_word, escaped, skip}
use Rattle.meaning_query.specs.QueryToken.{QueryToken, plain, at_sign, quoted, is_quoted_byte}

abbrev pub Reader : Type 0 → Type 0
Reader A = List ℕ → Option (A × List ℕ)

unfoldable pub and_then : {A B : Type 0} → Option A → (A → Option B) → Option B
and_then None f = None
and_then (Some x) f = f x

infixl 10 ◌>>=◌
abbrev pub ◌>>=◌ : {A B : Type 0} → Option A → (A → Option B) → Option B
o >>= f = and_then o f

unfoldable pub pick : {A : Type 0} → Bool → A → A → A
pick true x y = x
pick false x y = y

-- the longest front of bytes that pass
abbrev pub run : (ℕ → Bool) → List ℕ → List ℕ
run p bytes = take (prefix_len p bytes) bytes

-- what follows it
abbrev pub past_run : (ℕ → Bool) → List ℕ → List ℕ
past_run p bytes = drop (prefix_len p bytes) bytes

-- the whole number that these digits write, where they write it as `decimal` does
unfoldable pub number_of : List ℕ → Option ℕ
number_of digits = pick (nat_le (digits_value 10 digits) (2 ^ 63) && same_text (decimal (digits_value 10 digits)) digits) (Some (digits_value 10 digits)) None

-- the text before this quote, and what follows the quote
unfoldable pub text_before : ℕ → Reader Text
text_before quote [] = None
text_before quote (b ∷ []) = pick (b == quote) (Some ([], [])) None
text_before quote (b ∷ e ∷ bytes) =
    pick (b == quote) (Some ([], e ∷ bytes))
    (pick (b == 92) (escaped e >>= λ c. text_before quote bytes >>= λ s. Some (c ∷ s.0, s.1))
    (pick (b == 10) None (text_before quote (e ∷ bytes) >>= λ s. Some (b ∷ s.0, s.1))))

-- what follows these bytes
unfoldable pub after_bytes : List ℕ → List ℕ → Option (List ℕ)
after_bytes [] bytes = Some bytes
after_bytes (c ∷ cs) [] = None
after_bytes (c ∷ cs) (b ∷ bytes) = pick (b == c) (after_bytes cs bytes) None

-- the bytes of an operator or a mark
abbrev pub spelling : Token → List ℕ
spelling (op o) = spelling_of o
spelling (mark m) = byte_of m ∷ []
spelling _ = []

-- the operators and the marks, those of two bytes first
abbrev pub signs : List Token
signs =
    op floor_div ∷ op eq ∷ op ne ∷ op le ∷ op ge
    ∷ op add ∷ op sub ∷ op mul ∷ op mod_ ∷ op lt ∷ op gt ∷ op and ∷ op or ∷ op xor
    ∷ mark equals ∷ mark dot ∷ mark comma ∷ mark colon ∷ mark tilde ∷ mark open_paren ∷ mark close_paren
    ∷ mark open_bracket ∷ mark close_bracket ∷ mark open_brace ∷ mark close_brace ∷ []

unfoldable pub or_first : {A : Type 0} → Option (List ℕ) → A → Option (A × List ℕ) → Option (A × List ℕ)
or_first None x other = other
or_first (Some rest) x other = Some (x, rest)

-- the first of these signs that stands there
unfoldable pub sign_among : List Token → Reader Token
sign_among [] bytes = None
sign_among (t ∷ ts) bytes = or_first (after_bytes (spelling t) bytes) t (sign_among ts bytes)

-- a token of a script
unfoldable pub token_at : Reader Token
token_at [] = None
token_at (b ∷ bytes) =
    pick (begins_word b) (Some (word (run continues_word (b ∷ bytes)), past_run continues_word (b ∷ bytes)))
    (pick (is_digit b) (number_of (run is_digit (b ∷ bytes)) >>= λ n. Some (int n, past_run is_digit (b ∷ bytes)))
    (pick (b == 39 || b == 34) (text_before b bytes >>= λ s. Some (text s.0, s.1)) (sign_among signs (b ∷ bytes))))

-- the name before a backquote, and what follows it
unfoldable pub name_before : Text → Reader QueryToken
name_before [] bytes = None
name_before (c ∷ cs) bytes = after_bytes (96 ∷ []) bytes >>= λ rest. Some (quoted (c ∷ cs), rest)

unfoldable pub query_token_at : Reader QueryToken
query_token_at [] = None
query_token_at (b ∷ bytes) =
    pick (b == 64) (Some (at_sign, bytes))
    (pick (b == 96) (name_before (run is_quoted_byte bytes) (past_run is_quoted_byte bytes))
    (token_at (b ∷ bytes) >>= λ t. Some (plain t.0, t.1)))

-- the tokens of the bytes, of which the first stands at their front; the number bounds how many
unfoldable pub tokens_at : ℕ → List ℕ → Option (List QueryToken)
tokens_at n [] = Some []
tokens_at zero bytes = None
tokens_at (suc n) bytes = query_token_at bytes >>= λ t. tokens_at n (skip t.1) >>= λ ts. Some (t.0 ∷ ts)

-- the tokens of a text
unfoldable pub tokens_of : Text → Option (List QueryToken)
tokens_of t = tokens_at (length t) (skip t)
