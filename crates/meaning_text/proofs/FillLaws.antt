-- Zeros after a first sign, by bytes.
use Rattle.{
  meaning_pick.proofs.cells.Common.{◌≡◌, ◌∙◌, ap, sym, refl, arith, ℕ, ◌-◌, ◌<◌, ◌≤◌, ℤ, Bool, true, false, ◌||◌, ◌==◌, inl, inr, List, [], ◌∷◌, ◌++◌, length, take, drop, replicate, slice_index, if◌then◌else◌, cases_lt, false≢true, ne_eqb, length-append, length-replicate, get_or_past, encode_utf8, IsUtf8},
  std.{
    proofs.{
      Common.{ap₂},
      lemmas.{
        List.{get_or-replicate},
        Str.{encode_ascii, encodes-append, encodes-chars, encodes-IsAscii, IsCharBoundary-start, IsCharBoundary-after_ascii, length-encode, len_utf8_bounds, char_from_byte},
      },
    },
    specs.Str.{chars, encode_utf8_all, IsCharBoundary},
  },
  meaning_text.specs.Points.{is_sign, first_sign, after_sign, width_of, zero_filled},
}

neither : (x y : Bool) → x ≡ false → y ≡ false → (x || y) ≡ false
neither true y e f = e
neither false y e f = f

-- no sign is beyond ASCII
no_sign : (c : ℕ) → 128 ≤ c → is_sign c ≡ false
no_sign c high = neither (c == 43) (c == 45) (ne_eqb c 43 (λ e. omega arith)) (ne_eqb c 45 (λ e. omega arith))

-- and neither is the first byte of a character beyond ASCII
high_byte : (c : ℕ) (rest : List ℕ) → 128 ≤ c → 128 ≤ slice_index (encode_utf8 c ++ rest) 0
high_byte c rest high =
    let some : 0 < length (encode_utf8 c ++ rest) = omega (arith, length-append (encode_utf8 c) rest, length-encode c, (len_utf8_bounds c).0) in
    elim (cases_lt (slice_index (encode_utf8 c ++ rest) 0) 128) [
      | inl low ↦ absurd (omega (arith, char_from_byte (encode_utf8 c ++ rest) rest c refl low some))
      | inr is ↦ is
    ]

unsigned : (t : List ℕ) → is_sign (slice_index t 0) ≡ false → first_sign t ≡ []
unsigned [] e = refl
unsigned (c ∷ cs) e = ap (λ b. if b then c ∷ [] else []) e

whole : (t : List ℕ) → is_sign (slice_index t 0) ≡ false → after_sign t ≡ t
whole [] e = refl
whole (c ∷ cs) e = ap (λ b. if b then cs else c ∷ cs) e

low_first : (b : Bool) (c : ℕ) → encode_utf8 c ≡ c ∷ [] → encode_utf8_all (if b then c ∷ [] else []) ≡ (if b then c ∷ [] else [])
low_first true c e = ap (λ l. l ++ []) e
low_first false c e = refl

low_after : (b : Bool) (c : ℕ) (cs : List ℕ) → encode_utf8 c ≡ c ∷ [] → encode_utf8_all (if b then cs else c ∷ cs) ≡ (if b then encode_utf8_all cs else c ∷ encode_utf8_all cs)
low_after true c cs e = refl
low_after false c cs e = ap (λ l. l ++ encode_utf8_all cs) e

first_bytes : (cs : List ℕ) → encode_utf8_all (first_sign cs) ≡ first_sign (encode_utf8_all cs)
first_bytes [] = refl
first_bytes (c ∷ cs) =
    elim (cases_lt c 128) [
      | inl low ↦ low_first (is_sign c) c (encode_ascii c low) ∙ sym (ap (λ l. first_sign (l ++ encode_utf8_all cs)) (encode_ascii c low))
      | inr high ↦
          ap encode_utf8_all (unsigned (c ∷ cs) (no_sign c high))
          ∙ sym (unsigned (encode_utf8 c ++ encode_utf8_all cs) (no_sign _ (high_byte c (encode_utf8_all cs) high)))
    ]

after_bytes : (cs : List ℕ) → encode_utf8_all (after_sign cs) ≡ after_sign (encode_utf8_all cs)
after_bytes [] = refl
after_bytes (c ∷ cs) =
    elim (cases_lt c 128) [
      | inl low ↦ low_after (is_sign c) c cs (encode_ascii c low) ∙ sym (ap (λ l. after_sign (l ++ encode_utf8_all cs)) (encode_ascii c low))
      | inr high ↦
          ap encode_utf8_all (whole (c ∷ cs) (no_sign c high))
          ∙ sym (whole (encode_utf8 c ++ encode_utf8_all cs) (no_sign _ (high_byte c (encode_utf8_all cs) high)))
    ]

zero_low : (n i : ℕ) → slice_index (replicate n 48) i < 128
zero_low n i =
    elim (cases_lt i n) [
      | inl low ↦ rw (get_or-replicate {A = ℕ} n i 48 0 low) (omega arith)
      | inr past ↦ rw (get_or_past {X = ℕ} (replicate n 48) i 0 (omega (arith, length-replicate {A = ℕ} n 48))) (omega arith)
    ]

zero_bytes : (n : ℕ) → encode_utf8_all (replicate n 48) ≡ replicate n 48
zero_bytes n = encodes-IsAscii (replicate n 48) (zero_low n)

-- a text is cut behind its first sign
cut_first : (b : Bool) (c : ℕ) (cs : List ℕ) → take (length (if b then c ∷ [] else [])) (c ∷ cs) ≡ (if b then c ∷ [] else [])
cut_first true c cs = refl
cut_first false c cs = refl

cut_after : (b : Bool) (c : ℕ) (cs : List ℕ) → drop (length (if b then c ∷ [] else [])) (c ∷ cs) ≡ (if b then cs else c ∷ cs)
cut_after true c cs = refl
cut_after false c cs = refl

first_part : (t : List ℕ) → take (length (first_sign t)) t ≡ first_sign t
first_part [] = refl
first_part (c ∷ cs) = cut_first (is_sign c) c cs

after_part : (t : List ℕ) → drop (length (first_sign t)) t ≡ after_sign t
after_part [] = refl
after_part (c ∷ cs) = cut_after (is_sign c) c cs

pub filled_points : (width : ℤ) (t : List ℕ) → IsUtf8 t → encode_utf8_all (zero_filled width (chars t))
    ≡ take (length (first_sign t)) t ++ (replicate (width_of width - length (chars t)) 48 ++ drop (length (first_sign t)) t)
filled_points width t u =
    let zeros = replicate (width_of width - length (chars t)) 48 in
    let first : encode_utf8_all (first_sign (chars t)) ≡ take (length (first_sign t)) t = first_bytes (chars t) ∙ ap first_sign (encodes-chars t u) ∙ sym (first_part t) in
    let after : encode_utf8_all (after_sign (chars t)) ≡ drop (length (first_sign t)) t = after_bytes (chars t) ∙ ap after_sign (encodes-chars t u) ∙ sym (after_part t) in
    encodes-append (first_sign (chars t)) (zeros ++ after_sign (chars t))
    ∙ ap₂ (λ a b. a ++ b) first (encodes-append zeros (after_sign (chars t)) ∙ ap₂ (λ a b. a ++ b) (zero_bytes (width_of width - length (chars t))) after)

-- how long a first sign is, and that a text may be cut behind it
if_signed : (b : Bool) (c : ℕ) → length (if b then c ∷ [] else []) ≡ (if b then 1 else 0)
if_signed true c = refl
if_signed false c = refl

pub first_length : (t : List ℕ) → length (first_sign t) ≡ (if is_sign (slice_index t 0) then 1 else 0)
first_length [] = refl
first_length (c ∷ cs) = if_signed (is_sign c) c

signs_low : (c : ℕ) → is_sign c ≡ true → c < 128
signs_low c e =
    elim (cases_lt c 128) [
      | inl low ↦ low
      | inr high ↦ absurd (false≢true (sym (no_sign c high) ∙ e))
    ]

cut_at : (b : Bool) (c : ℕ) (t : List ℕ) → IsCharBoundary t 0 → (b ≡ true → IsCharBoundary t 1) → IsCharBoundary t (length (if b then c ∷ [] else []))
cut_at true c t start after = after refl
cut_at false c t start after = start

pub sign_cut : (t : List ℕ) → IsUtf8 t → IsCharBoundary t (length (first_sign t))
sign_cut [] u = IsCharBoundary-start [] u
sign_cut (c ∷ cs) u =
    cut_at (is_sign c) c (c ∷ cs) (IsCharBoundary-start (c ∷ cs) u)
    (λ e. IsCharBoundary-after_ascii (c ∷ cs) 0 u (omega arith) (signs_low c e))
