-- The record of fields that are texts is a text.
use lib.Utf8.{scalars, encode}
use Rattle.{
  meaning_format.{proofs.cells.Common.{rules, ◌≡◌, ◌==◌, ℕ, ◌<◌, Bool, true, false, inl, inr, List, [], ◌∷◌, ◌++◌, encode_utf8, refl, arith, cases_Bool, and_parts, nat_tests, IsUtf8-nil, IsUtf8-append, IsUtf8-from_ascii, if◌then◌else◌, IsUtf8, Text}, specs.CsvWrite.{record_text}},
  std.{proofs.lemmas.Str.{IsUtf8-encode}, specs.Str.{encode_utf8_all}},
  csv.specs.{Records.{AllText}, Writing.{escaped, quoted, fields_text, row_body, default_writer}},
  frame_format.proofs.EscapeLaws.{each-append, each-encode},
}

pub no_texts : AllText []
unfolding AllText
no_texts = tt

-- a quote is doubled, and each other byte stands for itself
abbrev mark : ℕ → Text
mark b = if b == 34 then 34 ∷ b ∷ [] else b ∷ []

escaped_more : (b : ℕ) (bs : Text) → escaped default_writer (b ∷ bs) ≡ mark b ++ escaped default_writer bs
unfolding escaped
escaped_more = grind arith

one_utf8 : (b : ℕ) → b < 128 → IsUtf8 (b ∷ [])
one_utf8 b below = IsUtf8-from_ascii _ (search rules)

escaped-encode : (c : ℕ) → IsUtf8 (encode_utf8 c) → IsUtf8 (escaped default_writer (encode_utf8 c))
unfolding escaped encode
escaped-encode c is = elim (cases_Bool (c == 34)) [
  | inl e ↦ let quote : c ≡ 34 = grind (arith, nat_tests) in rw quote (IsUtf8-append (34 ∷ []) _ (one_utf8 34 (omega arith)) (one_utf8 34 (omega arith)))
  | inr e ↦ rw (each-encode (escaped default_writer) mark refl escaped_more (grind (arith, nat_tests)) c (grind arith)) is
]

escaped_chars : (cs : List ℕ) → scalars cs ≡ true → IsUtf8 (escaped default_writer (encode_utf8_all cs))
unfolding escaped
escaped_chars [] e = IsUtf8-nil
escaped_chars (c ∷ cs) e =
    let parts = and_parts _ _ e in
    rw (each-append (escaped default_writer) mark refl escaped_more (encode_utf8 c) (encode_utf8_all cs)) (IsUtf8-append _ _ (escaped-encode c (IsUtf8-encode c parts.0)) (escaped_chars cs parts.1))

quoted_utf8 : (t : Text) → IsUtf8 t → IsUtf8 (quoted default_writer t)
quoted_utf8 t is = IsUtf8-append (34 ∷ []) _ (one_utf8 34 (omega arith)) (IsUtf8-append _ (34 ∷ []) (grind (arith, escaped_chars)) (one_utf8 34 (omega arith)))

chosen_utf8 : (b : Bool) (x y : Text) → IsUtf8 x → IsUtf8 y → IsUtf8 (if b then x else y)
chosen_utf8 true x y f g = f
chosen_utf8 false x y f g = g

fields_utf8 : (fields : List Text) → AllText fields → IsUtf8 (fields_text default_writer fields)
unfolding AllText fields_text
fields_utf8 [] _ = IsUtf8-nil
fields_utf8 (f ∷ fs) all = IsUtf8-append (44 ∷ []) _ (one_utf8 44 (omega arith)) (IsUtf8-append _ _ (search (chosen_utf8, quoted_utf8)) (fields_utf8 fs all.1))

body_utf8 : (fields : List Text) → AllText fields → IsUtf8 (row_body default_writer fields)
unfolding AllText
body_utf8 [] _ = IsUtf8-nil
body_utf8 (f ∷ fs) all = IsUtf8-append _ _ (search (chosen_utf8, quoted_utf8)) (fields_utf8 fs all.1)

pub record_utf8 : (fields : List Text) → AllText fields → IsUtf8 (record_text fields)
record_utf8 _ all =
    IsUtf8-append _ _ (body_utf8 _ all) (IsUtf8-append _ (10 ∷ []) (search (chosen_utf8, IsUtf8-nil, IsUtf8-append _ _ (one_utf8 34 (omega arith)) (one_utf8 34 (omega arith)))) (one_utf8 10 (omega arith)))
