-- A name between backquotes is read up to the first byte that is none of its own.
use Rattle.{meaning_query.{proofs.language.cells.Common.{◌≡◌, subst, sym, ℕ, ◌<◌, List, [], ◌∷◌, ◌++◌, length, length-append, arith, get_or-append_seam, take-append_seam, IsUtf8}, specs.{language.Token.{IsRun}, QueryToken.{is_quoted_byte}}}, std.proofs.lemmas.Str.{IsUtf8-take, IsCharBoundary-before_ascii}, query_tokens.specs.Absent.{IsQuotedName, EndsNoName}, script_tokens.proofs.Runs.{IsRun-unique}}

-- a name is the run of its bytes, and a backquote follows
pub name_run : (name bytes rest : List ℕ) → IsQuotedName name bytes rest → IsRun is_quoted_byte name bytes (96 ∷ rest)
name_run name bytes rest = grind arith

pub name_stands : (name bytes after rest : List ℕ) → IsRun is_quoted_byte name bytes after → after ≡ 96 ∷ rest → 0 < length name → IsQuotedName name bytes rest
name_stands [] bytes after rest = grind arith
name_stands (c ∷ cs) bytes after rest = grind arith

pub no_name : (name bytes after : List ℕ) → IsRun is_quoted_byte name bytes after → length name ≡ 0 → EndsNoName bytes
no_name (c ∷ cs) bytes after run none other rest is = absurd (omega arith)
no_name [] bytes after run none other rest is = is.2 (sym (IsRun-unique is_quoted_byte bytes [] after other (96 ∷ rest) run (name_run other bytes rest is)).0)

pub not_closed : (name bytes after : List ℕ) → IsRun is_quoted_byte name bytes after → ((rest : List ℕ) → after ≡ 96 ∷ rest → ⊥) → EndsNoName bytes
not_closed name bytes after run none other rest is =
    none rest (IsRun-unique is_quoted_byte bytes name after other (96 ∷ rest) run (name_run other bytes rest is)).1

-- what stands before a byte of ASCII is text
IsUtf8-before_ascii : (front : List ℕ) (b : ℕ) (rest : List ℕ) → b < 128 → IsUtf8 (front ++ b ∷ rest) → IsUtf8 front
IsUtf8-before_ascii front b rest low text =
    let at = get_or-append_seam front b rest 0 in
    let short : length front < length (front ++ b ∷ rest) = omega (arith, length-append front (b ∷ rest)) in
    let cut = IsCharBoundary-before_ascii _ _ short (omega arith) in
    subst IsUtf8 (take-append_seam front _) (IsUtf8-take _ _ text cut)

pub IsUtf8-name : (name bytes after rest : List ℕ) → IsUtf8 bytes → IsRun is_quoted_byte name bytes after → after ≡ 96 ∷ rest → IsUtf8 name
IsUtf8-name name bytes after rest text run e =
    let whole : bytes ≡ name ++ 96 ∷ rest = grind arith in
    IsUtf8-before_ascii name 96 rest (omega arith) (subst IsUtf8 whole text)
