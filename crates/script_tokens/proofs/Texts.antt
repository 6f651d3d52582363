-- A text between quotes is read part by part.
use Rattle.{
  meaning_language.{proofs.cells.Common.{◌≡◌, ◌≢◌, subst, refl, ℕ, ◌<◌, true, false, List, [], ◌∷◌, ◌++◌, length, length-append, append_assoc, arith, inl, inr, nat_tests, append-nil, get_or-append_seam, drop-append_seam, take-append_seam, list_all, IsUtf8, Text}, specs.Token.{begins_with, IsRun, IsQuoted, IsQuote}},
  std.proofs.{lemmas.Str.{IsUtf8-take, IsUtf8-drop, IsCharBoundary-before_ascii, IsCharBoundary-after_ascii}, Math.Seq.{drop-append-add}},
  script_tokens.{specs.Quoted.{is_plain, IsEscape, BeginsNoEscape, EndsNoText}, proofs.Runs.{both_true}},
}

-- ---- what was read so far

pub record IsReadTo (quote : ℕ) (bytes rest : List ℕ) (s : Text) : Type 0 where
  pub grows : (more : Text) (end : List ℕ) → IsQuoted quote more rest end → IsQuoted quote (s ++ more) bytes end
  pub only : (all : Text) (end : List ℕ) → IsQuoted quote all bytes end → (more : Text) × IsQuoted quote more rest end

quoted_run : (quote : ℕ) (front bytes after more end : List ℕ) → bytes ≡ front ++ after → list_all (is_plain quote) front ≡ true → IsQuoted quote more after end → IsQuoted quote (front ++ more) bytes end
quoted_run _ [] _ _ _ _ e _ q = rw e q
quoted_run quote (b ∷ bs) _ after more end e all q = grind (arith, nat_tests, quoted_run quote bs (bs ++ after) after more end refl (both_true (is_plain quote b) _ all).1 q)

quoted_after_run : (quote : ℕ) (front bytes after s end : List ℕ) → bytes ≡ front ++ after → list_all (is_plain quote) front ≡ true → IsQuoted quote s bytes end → (more : Text) × IsQuoted quote more after end
quoted_after_run quote [] bytes after s = grind arith
quoted_after_run quote (b ∷ bs) bytes after [] = grind (arith, nat_tests)
quoted_after_run quote (b ∷ bs) bytes after (c ∷ cs) = grind (arith, nat_tests, both_true, quoted_after_run quote bs (bs ++ after) after cs)

pub read_plain : (quote : ℕ) (bytes rest front after pushed : List ℕ) (s s' : Text) → IsReadTo quote bytes rest s → IsRun (is_plain quote) front rest after → pushed ≡ front → s' ≡ s ++ pushed → IsReadTo quote bytes after s'
read_plain = grind (arith, append_assoc, quoted_run, quoted_after_run)

after_an_escape : (quote c : ℕ) (rest next s end : List ℕ) → quote ≢ 92 → IsEscape c rest next → IsQuoted quote s rest end → (more : Text) × IsQuoted quote more next end
after_an_escape quote c rest next [] = grind arith
after_an_escape quote c rest next (d ∷ ds) = grind arith

read_escape : (quote c : ℕ) (bytes rest next : List ℕ) (s : Text) → quote ≢ 92 → IsReadTo quote bytes rest s → IsEscape c rest next → IsReadTo quote bytes next (s ++ c ∷ [])
read_escape _ c _ _ _ s apart so_far escape = record {
  grows = grind (arith, append_assoc);
  only = λ all end q. after_an_escape _ c _ _ _ _ apart escape (so_far.only all end q).1;
}

pub read_escaped : (quote c : ℕ) (bytes rest next pushed : List ℕ) (s s' : Text) → IsQuote quote → IsReadTo quote bytes rest s → IsEscape c rest next → pushed ≡ c ∷ [] → s' ≡ s ++ pushed → IsReadTo quote bytes next s'
read_escaped = grind (arith, read_escape)

pub read_quote : (quote : ℕ) (bytes rest end : List ℕ) (s : Text) → IsReadTo quote bytes rest s → rest ≡ quote ∷ end → IsQuoted quote s bytes end
read_quote _ _ _ end s so_far e = rw (← append-nil s) (so_far.grows [] end e)

none_goes_on : (quote : ℕ) (rest s end : List ℕ) → begins_with (is_plain quote) rest ≡ false → ((after : List ℕ) → rest ≡ quote ∷ after → ⊥) → BeginsNoEscape rest → IsQuoted quote s rest end → ⊥
none_goes_on _ _ [] end _ no_quote _ q = no_quote end q
none_goes_on _ _ (c ∷ cs) _ _ _ no_escape (more, inr escape, q) = no_escape c more escape
none_goes_on _ _ (c ∷ cs) _ plain no_quote no_escape (more, inl a, q) = grind (arith, nat_tests)

pub read_stops : (quote : ℕ) (bytes rest : List ℕ) (s : Text) → IsReadTo quote bytes rest s → begins_with (is_plain quote) rest ≡ false → ((after : List ℕ) → rest ≡ quote ∷ after → ⊥) → BeginsNoEscape rest → EndsNoText quote bytes
read_stops = grind (arith, none_goes_on)

-- a quote ends a text
pub quoted_ends : (quote : ℕ) (s bytes rest : List ℕ) → IsQuoted quote s bytes rest → (front : List ℕ) × (bytes ≡ front ++ quote ∷ rest)
quoted_ends _ [] _ _ q = ([], q)
quoted_ends _ (c ∷ cs) _ _ (more, inl a, q) =
    let ends = quoted_ends _ cs _ _ q in
    (c ∷ ends.0, search)
quoted_ends _ (c ∷ cs) _ _ (more, inr (e, f, g), q) =
    let ends = quoted_ends _ cs _ _ q in
    (92 ∷ e ∷ ends.0, search)

-- ---- UTF-8

-- what follows a byte of ASCII is text
pub IsUtf8-after_ascii : (front : List ℕ) (b : ℕ) (rest : List ℕ) → b < 128 → IsUtf8 (front ++ b ∷ rest) → IsUtf8 rest
IsUtf8-after_ascii front b rest low text =
    let at = get_or-append_seam front b rest 0 in
    let short : length front < length (front ++ b ∷ rest) = omega (arith, length-append front (b ∷ rest)) in
    let cut = IsCharBoundary-after_ascii _ _ text short (omega arith) in
    subst IsUtf8 (drop-append-add front _ 1) (IsUtf8-drop _ _ text cut)

text_at_seam : (front : List ℕ) (b : ℕ) (rest : List ℕ) → b < 128 → IsUtf8 (front ++ b ∷ rest) → IsUtf8 front × IsUtf8 (b ∷ rest)
text_at_seam front b rest low text =
    let at = get_or-append_seam front b rest 0 in
    let short : length front < length (front ++ b ∷ rest) = omega (arith, length-append front (b ∷ rest)) in
    let cut = IsCharBoundary-before_ascii _ _ short (omega arith) in (
      subst IsUtf8 (take-append_seam front _) (IsUtf8-take _ _ text cut),
      subst IsUtf8 (drop-append_seam front _) (IsUtf8-drop _ _ text cut),
    )

-- a run of such bytes is text, and so is what follows it
pub IsUtf8-plain : (quote : ℕ) (front bytes rest : List ℕ) → IsQuote quote → IsUtf8 bytes → IsRun (is_plain quote) front bytes rest → IsUtf8 front × IsUtf8 rest
IsUtf8-plain quote front bytes [] is text run = grind (arith, append-nil)
IsUtf8-plain quote front bytes (b ∷ bs) is text run = text_at_seam _ b bs (grind (arith, nat_tests)) (subst IsUtf8 run.0 text)

pub IsUtf8-after_escape : (c : ℕ) (bytes rest : List ℕ) → IsUtf8 bytes → IsEscape c bytes rest → IsUtf8 rest
IsUtf8-after_escape c bytes rest text (e, f, g) = IsUtf8-after_ascii (92 ∷ []) e _ (grind (arith, nat_tests)) (subst IsUtf8 f text)
