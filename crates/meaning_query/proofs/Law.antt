-- A mask is read exactly where the tokens spell a query that has it, and it is no deeper than the limit.
use Rattle.{meaning_language.{proofs.cells.Common.{◌≡◌, ◌≤◌, List, [], ◌∷◌, Option, Some, None, refl, arith, Text}, specs.{Token.{skip}, Tree.{Expr}, Depth.{depth}, Grammar.{most_depth}}}, meaning_query.{specs.{QueryToken.{QueryToken, LexesQuery}, Lexing.{tokens_of}, Query.{Query, mask_of, SpellsQuery, IsQuery}, Reading.{and_then, ended, Form, query_at, mask_read, joint_at, query_expr}, QueryLaw.{ReadsQuery}}, proofs.{Takes.{Only, then_only}, Sound.{IsForm, query_sound}, Complete.{query_is_read}, Lexing.{tokens_lex, lexes_tokens}}}}

-- the tokens spell a query that has this mask
abbrev pub IsMask : List QueryToken → Expr → Type 0
IsMask ts x = (q : Query) × SpellsQuery q 0 ts [] × (x ≡ mask_of q) × (depth x ≤ most_depth)

ended_mask : (ts us : List QueryToken) (x : Form) → IsForm most_depth 0 ts (x, us) → Only (IsMask ts) (ended x.0 us)
unfolding ended
ended_mask ts [] x (q, s, f, g, d) = (q, s, f, d)
ended_mask ts (t ∷ us) x h = tt

mask_only : (ts : List QueryToken) → Only (IsMask ts) (mask_read ts)
unfolding mask_read
mask_only ts = then_only (IsForm most_depth 0 ts) (IsMask ts) (query_at most_depth 0 ts) _ (query_sound most_depth 0 ts (omega arith)) (λ x h. ended_mask ts x.1 x.0 h)

pub mask_sound : (ts : List QueryToken) (x : Expr) → mask_read ts ≡ Some x → IsMask ts x
mask_sound ts x e = rw e at (mask_only ts)

pub mask_complete : (ts : List QueryToken) (x : Expr) → IsMask ts x → mask_read ts ≡ Some x
unfolding mask_read ended and_then joint_at
mask_complete ts x (q, s, f, d) =
    rw ((query_is_read q).whole most_depth 0 ts [] (omega arith) s tt (rw f at d), f) refl

-- ---- texts

text_sound : (text : Text) (o : Option (List QueryToken)) → tokens_of text ≡ o → (x : Expr) → and_then o mask_read ≡ Some x → IsQuery text x
unfolding and_then
text_sound text None e x f = absurd cc
text_sound text (Some ts) e x f =
    let m = mask_sound ts x f in
    (m.0, ts, tokens_lex text ts e, m.1, m.2, m.3)

text_complete : (text : Text) (x : Expr) → IsQuery text x → query_expr text ≡ Some x
unfolding query_expr and_then
text_complete text x (q, ts, s, t, f, d) = rw (lexes_tokens text ts s) (mask_complete ts x (q, t, f, d))

-- a mask is read exactly where the text stands for it
pub reads_query : (text : Text) → ReadsQuery text
unfolding query_expr
reads_query text = (text_sound text (tokens_of text) refl, text_complete text)

-- a text with these tokens is read as they are, and one without tokens is not
pub read_as : (text : Text) (ts : List QueryToken) → LexesQuery ts (skip text) → query_expr text ≡ mask_read ts
unfolding query_expr and_then
read_as text ts s = rw (lexes_tokens text ts s) refl

pub unread : (text : Text) → ((ts : List QueryToken) → LexesQuery ts (skip text) → ⊥) → query_expr text ≡ None
unfolding query_expr and_then
unread text absent = go (tokens_of text) refl
  where
    go : (o : Option (List QueryToken)) → tokens_of text ≡ o → and_then o mask_read ≡ None
    go None e = refl
    go (Some ts) e = absurd (absent ts (tokens_lex text ts e))
