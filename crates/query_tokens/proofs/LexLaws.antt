-- A text is read token by token.
use Rattle.{meaning_query.{proofs.language.cells.Common.{false≢true, ◌≡◌, subst, ap, refl, ℕ, ◌<◌, List, [], ◌∷◌, ◌++◌, length, length-append, append_assoc, arith, append-nil, map-append, IsUtf8}, specs.{language.Token.{Token, word, int, skip}, QueryToken.{QueryToken, plain, at_sign, quoted, IsQueryToken, LexesQuery}}}, query_tokens.{specs.{View.{query_token_of, query_tokens_of}, Absent.{BeginsNoQueryToken, EndsNoName}}, proofs.Names.{name_run}}, script_tokens.{specs.language.Token.{IsToken}, proofs.{Runs.{IsRun-unique}, LexLaws.{length-skip, IsUtf8-skip}, Texts.{IsUtf8-after_ascii}, TokenLaws.{word_begins, int_begins, IsToken-unique, IsToken-shorter, IsUtf8-after_token}}}}
use Rattle.query_tokens.specs.declared.token.QueryToken as code

-- ---- one token

-- neither `@` nor a backquote begins a token of a script
not_at_sign : (t : Token) (bytes rest : List ℕ) → IsToken t (64 ∷ bytes) rest → ⊥
not_at_sign (word w) bytes rest is = false≢true (word_begins w (64 ∷ bytes) rest is)
not_at_sign (int n) bytes rest is = false≢true (int_begins n (64 ∷ bytes) rest is)
not_at_sign t bytes rest is = grind arith

not_backquote : (t : Token) (bytes rest : List ℕ) → IsToken t (96 ∷ bytes) rest → ⊥
not_backquote (word w) bytes rest is = false≢true (word_begins w (96 ∷ bytes) rest is)
not_backquote (int n) bytes rest is = false≢true (int_begins n (96 ∷ bytes) rest is)
not_backquote t bytes rest is = grind arith

-- what follows a token is shorter
pub IsQueryToken-shorter : (t : QueryToken) (bytes rest : List ℕ) → IsQueryToken t bytes rest → length rest < length bytes
IsQueryToken-shorter (plain t) bytes rest is = IsToken-shorter t bytes rest is
IsQueryToken-shorter at_sign bytes rest is = grind arith
IsQueryToken-shorter (quoted name) bytes rest is = omega (arith, ap length is.0, length-append name (96 ∷ rest))

pub no_token_short : (bytes : List ℕ) → length bytes < 1 → BeginsNoQueryToken bytes
no_token_short bytes short t rest is = absurd (omega (arith, IsQueryToken-shorter t bytes rest is))

pub no_quoted : (bytes rest : List ℕ) → bytes ≡ 96 ∷ rest → EndsNoName rest → BeginsNoQueryToken bytes
no_quoted bytes rest e none (plain t) after is = not_backquote t rest after (subst (λ bs. IsToken t bs after) e is)
no_quoted bytes rest e none at_sign after is = grind arith
no_quoted bytes rest e none (quoted name) after is = none name after (subst (λ bs. IsQueryToken (quoted name) bs after) e is)

-- the token that bytes begin with, and the rest, are the only ones
pub IsQueryToken-unique : (t u : QueryToken) (bytes rest rest' : List ℕ) → IsQueryToken t bytes rest → IsQueryToken u bytes rest' → (t ≡ u) × (rest ≡ rest')
IsQueryToken-unique (plain t) (plain u) bytes rest rest' p q = grind (arith, IsToken-unique t u bytes rest rest' p q)
IsQueryToken-unique (plain t) at_sign bytes rest rest' p q = absurd (not_at_sign t rest' rest (subst (λ bs. IsToken t bs rest) q p))
IsQueryToken-unique (plain t) (quoted name) bytes rest rest' p q = absurd (not_backquote t _ rest (subst (λ bs. IsToken t bs rest) q.0 p))
IsQueryToken-unique at_sign (plain u) bytes rest rest' p q = absurd (not_at_sign u rest rest' (subst (λ bs. IsToken u bs rest') p q))
IsQueryToken-unique (quoted name) (plain u) bytes rest rest' p q = absurd (not_backquote u _ rest' (subst (λ bs. IsToken u bs rest') p.0 q))
IsQueryToken-unique (quoted name) (quoted other) [] rest rest' p q = grind arith
IsQueryToken-unique (quoted name) (quoted other) (b ∷ bs) rest rest' p q =
    let first : b ≡ 96 = grind arith in
    let same = IsRun-unique _ bs name (96 ∷ rest) other (96 ∷ rest') (name_run name bs rest (grind arith)) (name_run other bs rest' (grind arith)) in
    grind arith
IsQueryToken-unique t u bytes rest rest' p q = grind arith

-- what follows a backquote is text
pub IsUtf8-after_backquote : (bytes rest : List ℕ) → bytes ≡ 96 ∷ rest → IsUtf8 bytes → IsUtf8 rest
IsUtf8-after_backquote bytes rest e text = IsUtf8-after_ascii [] 96 rest (omega arith) (subst IsUtf8 e text)

pub IsUtf8-after_query_token : (t : QueryToken) (bytes rest : List ℕ) → IsUtf8 bytes → IsQueryToken t bytes rest → IsUtf8 rest
IsUtf8-after_query_token (plain t) bytes rest text is = IsUtf8-after_token t bytes rest text is
IsUtf8-after_query_token at_sign bytes rest text is = IsUtf8-after_ascii [] 64 rest (omega arith) (subst IsUtf8 is text)
IsUtf8-after_query_token (quoted name) bytes rest text is = IsUtf8-after_ascii (96 ∷ name) 96 rest (omega arith) (subst IsUtf8 is.0 text)

-- ---- the tokens of a text

-- The tokens of the bytes are these and those of the rest.
pub record IsLexedTo (bytes rest : List ℕ) (ts : List QueryToken) : Type 0 where
  pub grows : (more : List QueryToken) → LexesQuery more rest → LexesQuery (ts ++ more) bytes
  pub only : (all : List QueryToken) → LexesQuery all bytes → (more : List QueryToken) × LexesQuery more rest

after_token : (t : QueryToken) (rest after : List ℕ) (more : List QueryToken) → IsQueryToken t rest after → LexesQuery more rest → (others : List QueryToken) × LexesQuery others (skip after)
after_token t rest after [] is l = absurd (no_token_short rest (omega (arith, ap length l)) t after is)
after_token t rest after (u ∷ us) is l = (us, rw (IsQueryToken-unique u t rest l.0 after l.1 is).1 at l.2)

lexed_step : (bytes rest after : List ℕ) (ts : List QueryToken) (t : QueryToken) → IsLexedTo bytes rest ts → IsQueryToken t rest after
    → IsLexedTo bytes (skip after) (ts ++ t ∷ [])
lexed_step = grind (arith, append_assoc, after_token)

-- nothing is read at first
pub lexed_none : (bytes rest : List ℕ) → rest ≡ bytes → IsLexedTo bytes rest []
lexed_none bytes rest e = rw e record {
  grows = λ more is. is;
  only = λ all is. (all, is);
}

-- a turn of the loop over a text
pub lexed_pushed : (bytes rest after rest' : List ℕ) (items items' : List code.QueryToken) (t : code.QueryToken) → IsLexedTo bytes rest (query_tokens_of items)
    → IsQueryToken (query_token_of t) rest after → items' ≡ items ++ t ∷ [] → rest' ≡ skip after → IsLexedTo bytes rest' (query_tokens_of items')
lexed_pushed = grind (arith, map-append, lexed_step)

pub lexed_shorter : (rest after rest' : List ℕ) (t : QueryToken) → IsQueryToken t rest after → rest' ≡ skip after → length rest' < length rest
lexed_shorter rest after rest' t is skipped = omega (arith, IsQueryToken-shorter t rest after is, length-skip after, ap length skipped)

pub IsUtf8-after_lexed : (rest after rest' : List ℕ) (t : QueryToken) → IsUtf8 rest → IsQueryToken t rest after → rest' ≡ skip after → IsUtf8 rest'
IsUtf8-after_lexed rest after rest' t text is skipped = rw skipped (IsUtf8-skip after (IsUtf8-after_query_token t rest after text is))

pub lexed_end : (bytes rest : List ℕ) (ts : List QueryToken) → IsLexedTo bytes rest ts → length rest ≡ 0 → LexesQuery ts bytes
lexed_end bytes [] ts so_far none = rw (← append-nil ts) (so_far.grows [] refl)
lexed_end bytes (b ∷ bs) ts so_far none = absurd (omega arith)

stops_there : (rest : List ℕ) (more : List QueryToken) → 0 < length rest → BeginsNoQueryToken rest → LexesQuery more rest → ⊥
stops_there rest [] = grind arith
stops_there rest (t ∷ ts) = grind arith

pub lexed_stops : (bytes rest : List ℕ) (ts : List QueryToken) → IsLexedTo bytes rest ts → 0 < length rest → BeginsNoQueryToken rest → (all : List QueryToken) → LexesQuery all bytes → ⊥
lexed_stops = grind (arith, stops_there)

-- bytes have one list of tokens
pub LexesQuery-unique : (ts us : List QueryToken) (bytes : List ℕ) → LexesQuery ts bytes → LexesQuery us bytes → ts ≡ us
LexesQuery-unique [] [] bytes l m = refl
LexesQuery-unique [] (u ∷ us) bytes l m = absurd (no_token_short bytes (omega (arith, ap length l)) u m.0 m.1)
LexesQuery-unique (t ∷ ts) [] bytes l m = absurd (no_token_short bytes (omega (arith, ap length m)) t l.0 l.1)
LexesQuery-unique (t ∷ ts) (u ∷ us) bytes l m = grind (arith, IsQueryToken-unique, LexesQuery-unique ts us)
