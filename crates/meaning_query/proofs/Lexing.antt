-- The tokens that are read from a text are its tokens.
use Rattle.{
  meaning_language.{proofs.cells.Common.{◌≡◌, ◌≢◌, sym, ap, subst, refl, ℕ, zero, suc, ◌<◌, ◌≤◌, true, false, ◌||◌, List, [], ◌∷◌, ◌++◌, length, length-append, Some, inl, inr, arith, eqb, list_all, nat_tests, Text, Binary}, specs.Token.{Token, word, int, text, op, mark, Mark, begins_word, continues_word, is_digit, IsRun, IsQuote, IsQuoted, IsToken, skip, skip_comment}},
  std.proofs.lemmas.Fmt.{decimal_nonempty},
  meaning_query.{specs.{QueryToken.{QueryToken, plain, at_sign, quoted, is_quoted_byte, IsQueryToken, LexesQuery}, Lexing.{and_then, pick, run, past_run, text_before, after_bytes, token_at, name_before, query_token_at, tokens_at, tokens_of}}, proofs.Fronts.{same_value, then_takes, picked, is_byte, true_or_false, both_true, run_is, run_only, word_stands, int_stands, int_reads, text_takes, text_reads, after_bytes_takes, operator_reads, mark_reads, sign_takes}},
}

-- ---- the tokens of a script

is_quote : (b : ℕ) → (eqb b 39 || eqb b 34) ≡ true → IsQuote b
is_quote = grind (arith, nat_tests)

abbrev Stands : List ℕ → Token × List ℕ → Type 0
Stands bytes t = IsToken t.0 bytes t.1

pub token_takes : (bytes : List ℕ) (t : Token × List ℕ) → token_at bytes ≡ Some t → Stands bytes t
unfolding token_at
token_takes [] t e = absurd cc
token_takes (b ∷ bs) t e = elim (picked _ _ _ _ e) [
  | inl (begins, f) ↦ subst (Stands (b ∷ bs)) (same_value f) (word_stands b bs (run continues_word (b ∷ bs)) (past_run continues_word (b ∷ bs)) begins (run_is continues_word (b ∷ bs)))
  | inr (_, f) ↦ elim (picked _ _ _ _ f) [
    | inl (_, g) ↦
        let n = then_takes _ _ _ g in
        subst (Stands (b ∷ bs)) (same_value n.2) (int_stands (b ∷ bs) n.0 n.1)
    | inr (_, g) ↦ elim (picked _ _ _ _ g) [
      | inl (quote, h) ↦
          let s = then_takes _ _ _ h in
          subst (Stands (b ∷ bs)) (same_value s.2) (b, bs, is_quote b quote, refl, text_takes b bs s.0 s.1)
      | inr (_, h) ↦ sign_takes (b ∷ bs) t.1 t.0 h
    ]
  ]
]

word_begins : (w : Text) (b : ℕ) (bs rest : List ℕ) → IsToken (word w) (b ∷ bs) rest → begins_word b ≡ true
word_begins [] b bs rest = grind arith
word_begins (c ∷ cs) b bs rest = grind arith

digits_begin : (ds : List ℕ) (b : ℕ) (bs rest : List ℕ) → 0 < length ds → IsRun is_digit ds (b ∷ bs) rest → is_digit b ≡ true
digits_begin [] b bs rest some is = absurd (omega arith)
digits_begin (d ∷ ds) b bs rest some is = grind (arith, both_true)

int_begins : (n b : ℕ) (bs rest : List ℕ) → IsToken (int n) (b ∷ bs) rest → (is_digit b ≡ true) × (begins_word b ≡ false)
int_begins n b bs rest (is, small) =
    let digit = digits_begin _ b bs rest (decimal_nonempty n (omega arith)) is in
    (digit, grind (arith, nat_tests))

-- the tests of a byte that come before the signs
abbrev BeginsSign : ℕ → Type 0
BeginsSign b = (begins_word b ≡ false) × (is_digit b ≡ false) × ((eqb b 39 || eqb b 34) ≡ false)

operator_begins : (o : Binary) (b : ℕ) (bs rest : List ℕ) → IsToken (op o) (b ∷ bs) rest → BeginsSign b
operator_begins = grind arith

mark_begins : (m : Mark) (b : ℕ) (bs rest : List ℕ) → IsToken (mark m) (b ∷ bs) rest → BeginsSign b
mark_begins = grind arith

-- a quote ends a text
quoted_ends : (quote : ℕ) (s bytes rest : List ℕ) → IsQuoted quote s bytes rest → (front : List ℕ) × (bytes ≡ front ++ quote ∷ rest)
quoted_ends _ [] _ _ q = ([], q)
quoted_ends _ (c ∷ cs) _ _ (more, inl a, q) =
    let ends = quoted_ends _ cs _ _ q in
    (c ∷ ends.0, search)
quoted_ends _ (c ∷ cs) _ _ (more, inr (e, f, g), q) =
    let ends = quoted_ends _ cs _ _ q in
    (92 ∷ e ∷ ends.0, search)

-- what follows a token is shorter
token_shorter : (t : Token) (bytes rest : List ℕ) → IsToken t bytes rest → length rest < length bytes
token_shorter = grind (arith, length-append, decimal_nonempty, quoted_ends)

quote_tests : (b : ℕ) → IsQuote b → (begins_word b ≡ false) × (is_digit b ≡ false) × ((eqb b 39 || eqb b 34) ≡ true)
quote_tests = grind arith

pub token_reads : (t : Token) (bytes rest : List ℕ) → IsToken t bytes rest → token_at bytes ≡ Some (t, rest)
unfolding token_at pick and_then
token_reads t [] rest is = absurd (omega (arith, token_shorter t [] rest is))
token_reads (word w) (b ∷ bs) rest is =
    let only = run_only continues_word (b ∷ bs) w rest is.0 in
    rw (only.0, only.1, word_begins w b bs rest is) refl
token_reads (int n) (b ∷ bs) rest is =
    let begins = int_begins n b bs rest is in
    rw (int_reads (b ∷ bs) rest n is, (run_only is_digit (b ∷ bs) _ rest is.0).1, begins.1, begins.0) refl
token_reads (text s) (b ∷ bs) rest (quote, more, is, e, q) =
    let first : b ≡ quote = cc in
    let then : bs ≡ more = cc in
    let tests = quote_tests b (subst IsQuote (sym first) is) in
    let reads : text_before b bs ≡ Some (s, rest) = rw (first, then) (text_reads quote s more rest is q) in
    rw (tests.0, tests.1, tests.2, reads) refl
token_reads (op o) (b ∷ bs) rest is =
    let begins = operator_begins o b bs rest is in
    rw (begins.0, begins.1, begins.2) (operator_reads o (b ∷ bs) rest is)
token_reads (mark m) (b ∷ bs) rest is =
    let begins = mark_begins m b bs rest is in
    rw (begins.0, begins.1, begins.2) (mark_reads m (b ∷ bs) rest is)

-- ---- the tokens of a query

abbrev StandsQuery : List ℕ → QueryToken × List ℕ → Type 0
StandsQuery bytes t = IsQueryToken t.0 bytes t.1

name_takes : (name bytes : List ℕ) (t : QueryToken × List ℕ) → name_before name bytes ≡ Some t → (t.0 ≡ quoted name) × (bytes ≡ 96 ∷ t.1) × (name ≢ [])
unfolding name_before
name_takes [] bytes t e = absurd cc
name_takes (c ∷ cs) bytes t e =
    let rest = then_takes _ _ _ e in
    let ends = after_bytes_takes (96 ∷ []) bytes rest.0 rest.1 in
    let same = same_value rest.2 in
    grind arith

pub query_token_takes : (bytes : List ℕ) (t : QueryToken × List ℕ) → query_token_at bytes ≡ Some t → StandsQuery bytes t
unfolding query_token_at
query_token_takes [] t e = absurd cc
query_token_takes (b ∷ bs) t e = elim (picked _ _ _ _ e) [
  | inl (at, f) ↦ subst (StandsQuery (b ∷ bs)) (same_value f) (rw (is_byte b 64 at) refl)
  | inr (_, f) ↦ elim (picked _ _ _ _ f) [
    | inl (quote, g) ↦
        let name = name_takes (run is_quoted_byte bs) (past_run is_quoted_byte bs) t g in
        let is = run_is is_quoted_byte bs in
        let bytes : b ∷ bs ≡ 96 ∷ run is_quoted_byte bs ++ 96 ∷ t.1 = grind (arith, is_byte) in
        rw name.0 (bytes, is.1, name.2)
    | inr (_, g) ↦
        let s = then_takes _ _ _ g in
        subst (StandsQuery (b ∷ bs)) (same_value s.2) (token_takes (b ∷ bs) s.0 s.1)
  ]
]

-- no token of a script begins with `@` or a backquote
abbrev BeginsScript : ℕ → Type 0
BeginsScript b = (eqb b 64 ≡ false) × (eqb b 96 ≡ false)

script_begins : (t : Token) (b : ℕ) (bs rest : List ℕ) → IsToken t (b ∷ bs) rest → BeginsScript b
script_begins (word w) b bs rest is =
    let begins = word_begins w b bs rest is in
    grind (arith, nat_tests)
script_begins (int n) b bs rest is =
    let begins = (int_begins n b bs rest is).0 in
    grind (arith, nat_tests)
script_begins (text s) b bs rest (quote, more, is, e, q) = grind arith
script_begins (op o) b bs rest is = grind arith
script_begins (mark m) b bs rest is = grind arith

query_token_shorter : (t : QueryToken) (bytes rest : List ℕ) → IsQueryToken t bytes rest → length rest < length bytes
query_token_shorter (plain t) bytes rest is = token_shorter t bytes rest is
query_token_shorter at_sign bytes rest is = omega (arith, ap length is)
query_token_shorter (quoted name) bytes rest is = omega (arith, ap length is.0, length-append name (96 ∷ rest))

name_reads : (name rest : List ℕ) → list_all is_quoted_byte name ≡ true → name ≢ [] → name_before (run is_quoted_byte (name ++ 96 ∷ rest)) (past_run is_quoted_byte (name ++ 96 ∷ rest)) ≡ Some (quoted name, rest)
unfolding name_before after_bytes pick and_then
name_reads [] rest all some = absurd (some refl)
name_reads (c ∷ cs) rest all some =
    let only = run_only is_quoted_byte ((c ∷ cs) ++ 96 ∷ rest) (c ∷ cs) (96 ∷ rest) (refl, all, refl) in
    rw (only.0, only.1) refl

pub query_token_reads : (t : QueryToken) (bytes rest : List ℕ) → IsQueryToken t bytes rest → query_token_at bytes ≡ Some (t, rest)
unfolding query_token_at pick and_then
query_token_reads t [] rest is = absurd (omega (arith, query_token_shorter t [] rest is))
query_token_reads (plain t) (b ∷ bs) rest is =
    let begins = script_begins t b bs rest is in
    rw (begins.0, begins.1, token_reads t (b ∷ bs) rest is) refl
query_token_reads at_sign (b ∷ bs) rest is =
    let first : b ≡ 64 = cc in
    let then : bs ≡ rest = cc in
    rw (first, then) refl
query_token_reads (quoted name) (b ∷ bs) rest (is, all, some) =
    let first : b ≡ 96 = cc in
    let then : bs ≡ name ++ 96 ∷ rest = cc in
    rw (first, then) (name_reads name rest all some)

-- ---- the tokens of a text

mutual
  length-skip : (bs : List ℕ) → length (skip bs) ≤ length bs
  length-skip [] = omega arith
  length-skip (b ∷ bs) = grind (arith, true_or_false, length-skip bs, length-skip_comment bs)

  length-skip_comment : (bs : List ℕ) → length (skip_comment bs) ≤ length bs
  length-skip_comment [] = omega arith
  length-skip_comment (b ∷ bs) = grind (arith, true_or_false, length-skip bs, length-skip_comment bs)

tokens_take : (n : ℕ) (bytes : List ℕ) (ts : List QueryToken) → tokens_at n bytes ≡ Some ts → LexesQuery ts bytes
unfolding tokens_at
tokens_take zero [] ts e = subst (λ us. LexesQuery us []) (same_value e) refl
tokens_take (suc n) [] ts e = subst (λ us. LexesQuery us []) (same_value e) refl
tokens_take zero (b ∷ bs) ts e = absurd cc
tokens_take (suc n) (b ∷ bs) ts e =
    let t = then_takes _ _ _ e in
    let us = then_takes _ _ _ t.2 in
    subst (λ vs. LexesQuery vs (b ∷ bs)) (same_value us.2) (t.0.1, query_token_takes (b ∷ bs) t.0 t.1, tokens_take n (skip t.0.1) us.0 us.1)

tokens_read : (n : ℕ) (ts : List QueryToken) (bytes : List ℕ) → length bytes ≤ n → LexesQuery ts bytes → tokens_at n bytes ≡ Some ts
unfolding tokens_at and_then
tokens_read zero [] [] _ is = refl
tokens_read (suc n) [] [] _ is = refl
tokens_read n [] (b ∷ bs) _ is = absurd cc
tokens_read n (t ∷ ts) [] _ (rest, is, more) = absurd (omega (arith, query_token_shorter t [] rest is))
tokens_read zero (t ∷ ts) (b ∷ bs) most _ = absurd (omega arith)
tokens_read (suc n) (t ∷ ts) (b ∷ bs) most (rest, is, more) =
    let left : length (skip rest) ≤ n = omega (arith, query_token_shorter t (b ∷ bs) rest is, length-skip rest) in
    rw (query_token_reads t (b ∷ bs) rest is, tokens_read n ts (skip rest) left more) refl

-- what is read are tokens of the text
pub tokens_lex : (t : Text) (ts : List QueryToken) → tokens_of t ≡ Some ts → LexesQuery ts (skip t)
unfolding tokens_of
tokens_lex t ts e = tokens_take (length t) (skip t) ts e

-- the tokens of the text are read
pub lexes_tokens : (t : Text) (ts : List QueryToken) → LexesQuery ts (skip t) → tokens_of t ≡ Some ts
unfolding tokens_of
lexes_tokens t ts is = tokens_read (length t) ts (skip t) (length-skip t) is
