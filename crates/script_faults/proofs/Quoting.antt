-- The bytes of texts in quotes.
use Rattle.{
  meaning_script.{proofs.cells.Common.{◌≡◌, ◌≢◌, ℕ, suc, ◌<◌, List, [], ◌∷◌, ◌++◌, length, get_or, encode_utf8, refl, ap, sym, ◌∙◌, append_assoc, arith, inside_one, nat_tests, quoted_bytes}, specs.cells.FaultText.{quoted_byte}},
  std.proofs.Common.{append-nil},
}

-- none of the four that are escaped
pub record IsPlain (b : ℕ) : Type 0 where
  pub backslash : b ≢ 92
  pub quote : b ≢ 39
  pub line_feed : b ≢ 10
  pub tab : b ≢ 9

quoted_byte-plain : (b : ℕ) → IsPlain b → quoted_byte b ≡ b ∷ []
quoted_byte-plain = grind (arith, nat_tests)

quoted_bytes-plain : (bs : List ℕ) → ((k : ℕ) → k < length bs → IsPlain (get_or bs k 0)) → quoted_bytes bs ≡ bs
quoted_bytes-plain [] _ = refl
quoted_bytes-plain (b ∷ bs) plain =
    ap (λ q. q ++ quoted_bytes bs) (quoted_byte-plain b (plain 0 (omega arith)))
    ∙ ap (λ l. b ∷ l) (quoted_bytes-plain bs (λ k within. plain (suc k) (omega arith)))

-- a byte below 128 is all of its character
plain_inside : (c k : ℕ) → IsPlain c → k < length (encode_utf8 c) → IsPlain (get_or (encode_utf8 c) k 0)
plain_inside c k plain within =
    let same : get_or (encode_utf8 c) k 0 < 128 → c ≡ get_or (encode_utf8 c) k 0 = inside_one c [] (encode_utf8 c) k (sym (append-nil _)) within in
    record {
      backslash = λ e. plain.backslash (same (omega arith) ∙ e);
      quote = λ e. plain.quote (same (omega arith) ∙ e);
      line_feed = λ e. plain.line_feed (same (omega arith) ∙ e);
      tab = λ e. plain.tab (same (omega arith) ∙ e);
    }

-- another character stands for itself
pub quoted_bytes-encode : (c : ℕ) → IsPlain c → quoted_bytes (encode_utf8 c) ≡ encode_utf8 c
quoted_bytes-encode c plain = quoted_bytes-plain (encode_utf8 c) (λ k within. plain_inside c k plain within)

pub quoted_bytes-append : (xs ys : List ℕ) → quoted_bytes (xs ++ ys) ≡ quoted_bytes xs ++ quoted_bytes ys
quoted_bytes-append [] _ = refl
quoted_bytes-append (x ∷ xs) ys = ap (λ l. quoted_byte x ++ l) (quoted_bytes-append xs ys) ∙ sym (append_assoc (quoted_byte x) (quoted_bytes xs) (quoted_bytes ys))

-- a character more of a text in quotes
pub quoted_more : (line line' before after whole : List ℕ) (c : ℕ) → line ++ quoted_bytes before ≡ whole → before ≡ encode_utf8 c ++ after → line' ≡ line ++ quoted_bytes (encode_utf8 c) → line' ++ quoted_bytes after ≡ whole
quoted_more line _ _ after _ c so_far splits grows =
    ap (λ l. l ++ quoted_bytes after) grows
    ∙ append_assoc line (quoted_bytes (encode_utf8 c)) (quoted_bytes after)
    ∙ ap (λ l. line ++ l) (sym (quoted_bytes-append (encode_utf8 c) after) ∙ ap quoted_bytes (sym splits))
    ∙ so_far

pub quoted_whole : (line rest whole : List ℕ) → line ++ quoted_bytes rest ≡ whole → length rest ≡ 0 → line ≡ whole
quoted_whole line [] _ so_far _ = sym (append-nil line) ∙ so_far
quoted_whole _ (b ∷ bs) _ so_far none = absurd (omega arith)
