-- Bytes are made of tokens, or they are not.
use Rattle.{
  script_tokens.{proofs.{cells.Common.{◌≡◌, ◌≢◌, ◌⊎◌, inl, inr, sym, subst, refl, ℕ, zero, suc, ◌≤◌, ◌^◌, true, false, leb, eqb, List, [], ◌∷◌, Option, Some, None, length, take, drop, decimal, arith, eqb-true, leb-true, nat_tests, digits_value, prefix_len, Text}, Runs.{true_or_false, not_both, run_of_length, IsRun-unique}, TokenLaws.{IsToken-unique, IsToken-shorter}, LexLaws.{length-skip}, Signs.{sign_decided}}, specs.{language.Token.{Token, word, int, text, op, mark, is_digit, begins_word, continues_word, begins_with, IsRun, escaped, IsQuoted, IsQuote, IsToken, Lexes, skip}, Absent.{BeginsNoToken, BeginsNoSign}}},
  std.proofs.lemmas.Fmt.{decimal_is_IsNumeral},
  script_syntax.proofs.Tools.{text_is, text_same},
}

abbrev Decided : Type 0 → Type 0
Decided P = P ⊎ (P → ⊥)

eqb_no : (a b : ℕ) → eqb a b ≡ false → a ≡ b → ⊥
eqb_no = grind (arith, nat_tests)

-- ---- texts

abbrev EndsText : ℕ → List ℕ → Type 0
EndsText quote bytes = (s : Text) × (rest : List ℕ) × IsQuoted quote s bytes rest

-- the quote, a byte of the text, or an escape
text_begins : (quote b : ℕ) (bs : List ℕ) → EndsText quote (b ∷ bs)
    → (b ≡ quote) ⊎ ((b ≢ 92) × (b ≢ 10) × EndsText quote bs) ⊎ ((e d : ℕ) × (after : List ℕ) × (b ≡ 92) × (bs ≡ e ∷ after) × (escaped e ≡ Some d) × EndsText quote after)
text_begins quote b bs ([], rest, q) = grind arith
text_begins quote b bs (c ∷ cs, rest, (more, inl a, q)) = grind arith
text_begins quote b bs (c ∷ cs, rest, (more, inr x, q)) = grind arith

-- after a backslash
text_escaped : (quote b : ℕ) (bs : List ℕ) → b ≢ quote → b ≡ 92 → ((e : ℕ) (after : List ℕ) → bs ≡ e ∷ after → Decided (EndsText quote after)) → Decided (EndsText quote (b ∷ bs))
text_escaped quote b [] apart back later = inr (λ t. grind (arith, text_begins _ _ _ t))
text_escaped quote b (e ∷ after) apart back later = chosen _ refl
  where
    chosen : (r : Option ℕ) → escaped e ≡ r → Decided (EndsText quote (b ∷ e ∷ after))
    chosen None is = inr (λ t. grind (arith, text_begins _ _ _ t))
    chosen (Some d) is = elim (later e after refl) [
      | inl (s, rest, q) ↦ inl (d ∷ s, rest, grind arith)
      | inr against ↦ inr (λ t. grind (arith, text_begins _ _ _ t))
    ]

text_step : (quote b : ℕ) (bs : List ℕ) → Decided (EndsText quote bs) → ((e : ℕ) (after : List ℕ) → bs ≡ e ∷ after → Decided (EndsText quote after)) → Decided (EndsText quote (b ∷ bs))
text_step quote b bs next later = elim (true_or_false (eqb b quote)) [
  | inl ends ↦ inl ([], bs, search eqb-true)
  | inr apart ↦ elim (true_or_false (eqb b 92)) [
    | inl back ↦ search (text_escaped, eqb_no, eqb-true)
    | inr plain ↦ elim next [
      | inl (s, rest, q) ↦ elim (true_or_false (eqb b 10)) [
        | inl line ↦ inr (λ t. grind (arith, text_begins _ _ _ t, eqb_no, eqb-true))
        | inr inside ↦ inl (b ∷ s, rest, grind (arith, eqb_no))
      ]
      | inr against ↦ inr (λ t. grind (arith, text_begins _ _ _ t, eqb_no))
    ]
  ]
]

ends_text : (quote : ℕ) (bytes : List ℕ) → Decided (EndsText quote bytes)
ends_text quote [] = inr none
  where
    none : EndsText quote [] → ⊥
    none ([], rest, q) = absurd cc
    none (c ∷ cs, rest, q) = grind arith
ends_text quote (b ∷ []) = text_step _ b [] (ends_text _ []) (λ e after is. absurd cc)
ends_text quote (b ∷ e ∷ after) = text_step _ b _ (ends_text _ _) (λ f more is. grind (arith, ends_text quote after))

-- ---- tokens

abbrev Begins : {A : Type 0} → (A → Token) → List ℕ → Type 0
Begins {A} kind bytes = (a : A) × (rest : List ℕ) × IsToken (kind a) bytes rest

abbrev word_of : List ℕ → Text
word_of bytes = take (prefix_len continues_word bytes) bytes

word_decided : (bytes : List ℕ) → Decided (Begins word bytes)
word_decided bytes =
    let run = run_of_length continues_word bytes in
    elim (true_or_false (begins_with begins_word (word_of bytes))) [
      | inl begins ↦ grind arith
      | inr against ↦ grind (arith, not_both)
    ]

value_of : (n : ℕ) → n ≤ 2 ^ 63 → digits_value 10 (decimal n) ≡ n
value_of n small = (decimal_is_IsNumeral n (omega (arith, small))).1

abbrev digits_of : List ℕ → List ℕ
digits_of bytes = take (prefix_len is_digit bytes) bytes

abbrev after_digits : List ℕ → List ℕ
after_digits bytes = drop (prefix_len is_digit bytes) bytes

abbrev number_of : List ℕ → ℕ
number_of bytes = digits_value 10 (digits_of bytes)

is_number : (bytes : List ℕ) (n : ℕ) (rest : List ℕ) → IsToken (int n) bytes rest → (decimal n ≡ digits_of bytes) × (number_of bytes ≡ n)
is_number bytes n rest is =
    let same = (IsRun-unique is_digit bytes (decimal n) rest (digits_of bytes) (after_digits bytes) is.0 (run_of_length is_digit bytes)).0 in
    grind (arith, value_of)

int_decided : (bytes : List ℕ) → Decided (Begins int bytes)
int_decided bytes = elim (true_or_false _) [
  | inl same ↦ elim (true_or_false _) [
    | inl small ↦ inl (number_of bytes, after_digits bytes, (subst (λ f. IsRun is_digit f bytes (after_digits bytes)) (sym (text_is _ _ same)) (run_of_length _ _), leb-true _ _ small))
    | inr great ↦ grind (arith, is_number, not_both, at_most)
  ]
  | inr other ↦ grind (arith, is_number, not_both, text_same)
]
  where
    at_most : (a b : ℕ) → a ≤ b → leb a b ≡ true
    at_most = grind (arith, nat_tests)

text_decided : (bytes : List ℕ) → Decided (Begins text bytes)
text_decided [] = grind arith
text_decided (b ∷ bs) = elim (quote_decided b) [
  | inl is ↦ elim (ends_text b bs) [
    | inl (s, rest, q) ↦ grind arith
    | inr against ↦ inr (none against)
  ]
  | inr other ↦ grind arith
]
  where
    quote_decided : (b : ℕ) → Decided (IsQuote b)
    quote_decided = grind (arith, true_or_false, eqb-true, eqb_no)

    none : (EndsText b bs → ⊥) → Begins text (b ∷ bs) → ⊥
    none = grind arith

no_token : (bytes : List ℕ) → (Begins word bytes → ⊥) → (Begins int bytes → ⊥) → (Begins text bytes → ⊥) → BeginsNoSign bytes → BeginsNoToken bytes
no_token bytes no_word no_int no_text none (word w) = λ rest is. no_word (w, rest, is)
no_token bytes no_word no_int no_text none (int n) = λ rest is. no_int (n, rest, is)
no_token bytes no_word no_int no_text none (text s) = λ rest is. no_text (s, rest, is)
no_token bytes no_word no_int no_text none (op o) = none.0 o
no_token bytes no_word no_int no_text none (mark m) = none.1 m

pub token_decided : (bytes : List ℕ) → ((t : Token) × (rest : List ℕ) × IsToken t bytes rest) ⊎ BeginsNoToken bytes
token_decided bytes = elim (word_decided bytes) [
  | inl (w, rest, is) ↦ inl (word w, rest, is)
  | inr no_word ↦ elim (int_decided bytes) [
    | inl (n, rest, is) ↦ inl (int n, rest, is)
    | inr no_int ↦ elim (text_decided bytes) [
      | inl (s, rest, is) ↦ inl (text s, rest, is)
      | inr no_text ↦ elim (sign_decided bytes) [
        | inl is ↦ inl is
        | inr none ↦ inr (no_token bytes no_word no_int no_text none)
      ]
    ]
  ]
]

lexes_first : (ts : List Token) (b : ℕ) (bs : List ℕ) → Lexes ts (b ∷ bs) → (t : Token) × (rest : List ℕ) × IsToken t (b ∷ bs) rest × ((us : List Token) × Lexes us (skip rest))
lexes_first [] b bs l = absurd cc
lexes_first (t ∷ ts) b bs (rest, is, l) = (t, rest, is, (ts, l))

lexed_within : (n : ℕ) (bytes : List ℕ) → length bytes ≤ n → Decided ((ts : List Token) × Lexes ts bytes)
lexed_within n [] few = inl ([], refl)
lexed_within zero (b ∷ bs) few = absurd (omega arith)
lexed_within (suc n) (b ∷ bs) few = elim (token_decided (b ∷ bs)) [
  | inl (t, rest, is) ↦ elim (lexed_within n (skip rest) (omega (arith, IsToken-shorter t (b ∷ bs) rest is, length-skip rest))) [
    | inl (ts, l) ↦ inl (t ∷ ts, (rest, is, l))
    | inr against ↦ inr (λ l. let f = lexes_first l.0 b bs l.1 in against (rw (IsToken-unique f.0 t (b ∷ bs) f.1 rest f.2 is).1 at f.3))
  ]
  | inr none ↦ grind (arith, lexes_first)
]

-- bytes are made of tokens, or they aren't
pub lexed : (bytes : List ℕ) → Decided ((ts : List Token) × Lexes ts bytes)
lexed bytes = lexed_within (length bytes) _ (omega arith)
