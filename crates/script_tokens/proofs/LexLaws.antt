-- A piece is read token by token.
use Rattle.{
  meaning_language.{proofs.cells.Common.{rules, ◌≡◌, sym, ap, subst, refl, ℕ, ◌≤◌, ◌<◌, true, false, ◌||◌, List, [], ◌∷◌, ◌++◌, Option, length, get_or, eqb, append_assoc, arith, inl, inr, nat_tests, IsUtf8-nil, append-nil, map-append, MatchOption, IsUtf8}, specs.Token.{Token, text, op, mark, begins_word, is_digit, ends_line, IsQuote, IsToken, Lexes, skip, skip_comment}},
  script_tokens.{specs.{View.{token_of, tokens_of}, Absent.{BeginsNoToken, BeginsNoSign}, Quoted.{EndsNoText}}, proofs.{Runs.{true_or_false}, TokenLaws.{kind_at, kind_of, IsToken-kind, IsToken-unique, IsToken-shorter, IsUtf8-after_token}, Texts.{IsUtf8-after_ascii}}},
}
use Rattle.script_tokens.specs.declared.token.Token as code

-- ---- one token

pub no_token_short : (bytes : List ℕ) → length bytes < 1 → BeginsNoToken bytes
no_token_short = grind (arith, IsToken-shorter)

-- what follows a quote is text
pub IsUtf8-after_quote : (b : ℕ) (bytes rest : List ℕ) → IsQuote b → bytes ≡ b ∷ rest → IsUtf8 bytes → IsUtf8 rest
IsUtf8-after_quote b bytes rest is e all = IsUtf8-after_ascii [] b rest (grind arith) (subst IsUtf8 e all)

pub no_text : (b : ℕ) (bytes rest : List ℕ) → IsQuote b → bytes ≡ b ∷ rest → EndsNoText b rest → BeginsNoToken bytes
no_text b _ _ is e none (text s) after (quote, more, was, f, q) = grind arith
no_text b bytes _ is e none t after was =
    let kinds : kind_of t ≡ 2 = grind (arith, IsToken-kind t bytes after was) in
    absurd (omega arith)

no_sign_no_token : (bytes : List ℕ) → kind_at (get_or bytes 0 0) ≡ 3 → BeginsNoSign bytes → BeginsNoToken bytes
no_sign_no_token _ sign none (op o) = none.0 o
no_sign_no_token _ sign none (mark m) = none.1 m
no_sign_no_token _ sign none t = grind (arith, IsToken-kind t)

pub only_signs : {A : Type 0} (r : Option A) (bytes : List ℕ) (Q : A → Type 0) → begins_word (get_or bytes 0 0) ≡ false → is_digit (get_or bytes 0 0) ≡ false → (IsQuote (get_or bytes 0 0) → ⊥)
    → MatchOption r (BeginsNoSign bytes) Q → MatchOption r (BeginsNoToken bytes) Q
only_signs r bytes Q = grind (arith, no_sign_no_token, rules, true_or_false, nat_tests)

-- ---- what is skipped

mutual
  pub length-skip : (bs : List ℕ) → length (skip bs) ≤ length bs
  length-skip [] = omega arith
  length-skip (b ∷ bs) = grind (arith, true_or_false, length-skip bs, length-skip_comment bs)

  length-skip_comment : (bs : List ℕ) → length (skip_comment bs) ≤ length bs
  length-skip_comment [] = omega arith
  length-skip_comment (b ∷ bs) = grind (arith, true_or_false, length-skip bs, length-skip_comment bs)

separator_is_ascii : (b : ℕ) (bs : List ℕ) → (eqb b 32 || eqb b 9 || ends_line b bs) ≡ true → b < 128
separator_is_ascii = grind (arith, nat_tests)

is_below : (b n : ℕ) → eqb b n ≡ true → n < 128 → b < 128
is_below = grind (arith, nat_tests)

mutual
  pub IsUtf8-skip : (bs : List ℕ) → IsUtf8 bs → IsUtf8 (skip bs)
  IsUtf8-skip [] all = all
  IsUtf8-skip (b ∷ bs) all = elim (true_or_false (eqb b 32 || eqb b 9 || ends_line b bs)) [
    | inl blank ↦ rw blank (IsUtf8-skip bs (IsUtf8-after_ascii [] b bs (separator_is_ascii b bs blank) all))
    | inr other ↦ elim (true_or_false (eqb b 35)) [
      | inl comment ↦ rw (other, comment) (IsUtf8-skip_comment (b ∷ []) bs all)
      | inr none ↦ rw (other, none) all
    ]
  ]

  -- the bytes of a comment, which may begin within a character
  IsUtf8-skip_comment : (front bs : List ℕ) → IsUtf8 (front ++ bs) → IsUtf8 (skip_comment bs)
  IsUtf8-skip_comment _ [] _ = IsUtf8-nil
  IsUtf8-skip_comment front (b ∷ bs) all = elim (true_or_false (eqb b 10)) [
    | inl ends ↦ rw ends (IsUtf8-skip bs (IsUtf8-after_ascii front b bs (is_below b 10 ends (omega arith)) all))
    | inr goes_on ↦ rw goes_on (IsUtf8-skip_comment (front ++ b ∷ []) bs (subst IsUtf8 (sym (append_assoc front (b ∷ []) bs)) all))
  ]

-- ---- the tokens of a piece

-- The tokens of the piece are these and those of the rest.
pub record IsLexedTo (piece rest : List ℕ) (ts : List Token) : Type 0 where
  pub grows : (more : List Token) → Lexes more rest → Lexes (ts ++ more) piece
  pub only : (all : List Token) → Lexes all piece → (more : List Token) × Lexes more rest

after_token : (t : Token) (rest after : List ℕ) (more : List Token) → IsToken t rest after → Lexes more rest → (others : List Token) × Lexes others (skip after)
after_token t rest after [] is l = grind (arith, no_token_short)
after_token t rest after (u ∷ us) is l = (us, rw (IsToken-unique u t rest l.0 after l.1 is).1 at l.2)

lexed_step : (piece rest after : List ℕ) (ts : List Token) (t : Token) → IsLexedTo piece rest ts → IsToken t rest after
    → IsLexedTo piece (skip after) (ts ++ t ∷ [])
lexed_step = grind (arith, append_assoc, after_token)

-- a turn of the loop over a piece
pub lexed_pushed : (piece rest after rest' : List ℕ) (items items' : List code.Token) (t : code.Token) → IsLexedTo piece rest (tokens_of items)
    → IsToken (token_of t) rest after → items' ≡ items ++ t ∷ [] → rest' ≡ skip after → IsLexedTo piece rest' (tokens_of items')
lexed_pushed = grind (arith, map-append, lexed_step)

pub lexed_shorter : (rest after rest' : List ℕ) (t : Token) → IsToken t rest after → rest' ≡ skip after → length rest' < length rest
lexed_shorter rest after rest' t is skipped = omega (arith, IsToken-shorter t rest after is, length-skip after, ap length skipped)

pub IsUtf8-after_lexed : (rest after rest' : List ℕ) (t : Token) → IsUtf8 rest → IsToken t rest after → rest' ≡ skip after → IsUtf8 rest'
IsUtf8-after_lexed _ _ _ t all is skipped = rw skipped (IsUtf8-skip _ (IsUtf8-after_token t _ _ all is))

pub lexed_end : (piece rest : List ℕ) (ts : List Token) → IsLexedTo piece rest ts → length rest ≡ 0 → Lexes ts piece
lexed_end _ [] ts so_far _ = rw (← append-nil ts) (so_far.grows [] refl)
lexed_end _ (b ∷ bs) _ so_far none = absurd (omega arith)

stops_there : (rest : List ℕ) (more : List Token) → 0 < length rest → BeginsNoToken rest → Lexes more rest → ⊥
stops_there rest [] = grind arith
stops_there rest (t ∷ ts) = grind arith

pub lexed_stops : (piece rest : List ℕ) (ts : List Token) → IsLexedTo piece rest ts → 0 < length rest → BeginsNoToken rest → (all : List Token) → Lexes all piece → ⊥
lexed_stops = grind (arith, stops_there)

-- a piece has one list of tokens
pub Lexes-unique : (ts us : List Token) (bytes : List ℕ) → Lexes ts bytes → Lexes us bytes → ts ≡ us
Lexes-unique [] [] = grind arith
Lexes-unique [] (u ∷ us) = grind (arith, no_token_short)
Lexes-unique (t ∷ ts) [] = grind (arith, no_token_short)
Lexes-unique (t ∷ ts) (u ∷ us) = grind (arith, IsToken-unique, Lexes-unique ts us)
