-- The white space at both ends of a text, by its code points.
use Rattle.{meaning_pick.proofs.cells.Common.{◌≡◌, ap, ℕ, Bool, true, false, cond, List, [], ◌∷◌, and_parts, IsUtf8}, std.{proofs.lemmas.Str.{chars-encodes, scalars-chars}, specs.{Char.{is_whitespace}, Str.{chars, encode_utf8_all, all_scalars, trim, trim_start, trim_end, skip_leading_whitespace, drop_trailing_whitespace}}}, meaning_text.specs.Points.{stripped}}

one_of : (b : Bool) (xs ys : List ℕ) → all_scalars xs ≡ true → all_scalars ys ≡ true → all_scalars (cond b xs ys) ≡ true
one_of true xs ys h k = h
one_of false xs ys h k = k

-- what is left are characters
left : (cs : List ℕ) → all_scalars cs ≡ true → all_scalars (skip_leading_whitespace cs) ≡ true
left [] h = h
left (c ∷ cs) h = one_of (is_whitespace c) (skip_leading_whitespace cs) (c ∷ cs) (left cs (and_parts _ _ h).1) h

pub trim_points : (t : List ℕ) → IsUtf8 t → trim t ≡ encode_utf8_all (stripped (chars t))
unfolding trim_start trim_end
trim_points t u =
    ap (λ cs. encode_utf8_all (drop_trailing_whitespace cs)) (chars-encodes (skip_leading_whitespace (chars t)) (left (chars t) (scalars-chars t u)))
