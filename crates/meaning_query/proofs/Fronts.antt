-- What is read at the front of bytes is there, and is read where it is: runs, numbers, texts and signs.
use Rattle.{
  meaning_language.{proofs.cells.Common.{◌≡◌, ◌≢◌, sym, ap, subst, refl, ℕ, suc, ◌+◌, ◌^◌, ◌≤◌, Bool, true, false, ◌&&◌, List, [], ◌∷◌, ◌++◌, Option, Some, None, inl, inr, ◌⊎◌, decimal, arith, eqb, leb, eqb_tells, leb-true, nat_tests, bytes_eq-Decides, list_all, prefix_len, Text, same_text, Binary}, specs.Token.{Token, word, int, op, mark, Mark, begins_with, begins_word, continues_word, is_digit, escaped, IsRun, IsQuote, IsQuoted, IsToken}},
  std.proofs.lemmas.Fmt.{decimal_is_IsNumeral},
  meaning_query.specs.Lexing.{and_then, pick, run, past_run, number_of, text_before, after_bytes, signs, or_first, sign_among},
}

-- ---- taking readers apart

pub same_value : {A : Type 0} {x y : A} → Some x ≡ Some y → x ≡ y
same_value {A} {x} {y} e = cc

pub then_takes : {A B : Type 0} (o : Option A) (f : A → Option B) (y : B) → and_then o f ≡ Some y → (x : A) × (o ≡ Some x) × (f x ≡ Some y)
unfolding and_then
then_takes None f y e = absurd cc
then_takes (Some x) f y e = (x, refl, e)

pub picked : {A : Type 0} (b : Bool) (x y z : A) → pick b x y ≡ z → ((b ≡ true) × (x ≡ z)) ⊎ ((b ≡ false) × (y ≡ z))
unfolding pick
picked true x y z e = inl (refl, e)
picked false x y z e = inr (refl, e)

pub is_byte : (b n : ℕ) → eqb b n ≡ true → b ≡ n
is_byte = grind (arith, nat_tests)

no_byte : (b n : ℕ) → eqb b n ≡ false → b ≢ n
no_byte = grind (arith, nat_tests)

-- ---- runs

pub true_or_false : (b : Bool) → (b ≡ true) ⊎ (b ≡ false)
true_or_false = grind arith

pub both_true : (a b : Bool) → (a && b) ≡ true → (a ≡ true) × (b ≡ true)
both_true = grind arith

not_both : (b : Bool) → b ≡ true → b ≡ false → ⊥
not_both b holds fails = cc

pub run_is : (p : ℕ → Bool) (bytes : List ℕ) → IsRun p (run p bytes) bytes (past_run p bytes)
run_is p [] = (refl, refl, refl)
run_is p (b ∷ bs) = elim (true_or_false (p b)) [
  | inl passes ↦
      let rest = run_is p bs in
      let one : 1 + prefix_len p bs ≡ suc (prefix_len p bs) = omega arith in
      rw (passes, one) (search, rw passes rest.1, rest.2)
  | inr fails ↦ search
]

same_run : (p : ℕ → Bool) (front rest front' rest' : List ℕ) → front ++ rest ≡ front' ++ rest' → list_all p front ≡ true → list_all p front' ≡ true
    → begins_with p rest ≡ false → begins_with p rest' ≡ false → (front ≡ front') × (rest ≡ rest')
same_run p [] rest [] rest' = grind arith
same_run p [] rest (y ∷ ys) rest' = grind (arith, not_both, both_true)
same_run p (x ∷ xs) rest [] rest' = grind (arith, not_both, both_true)
same_run p (x ∷ xs) rest (y ∷ ys) rest' = grind (arith, both_true, same_run p xs rest ys rest')

-- there is one run
pub run_only : (p : ℕ → Bool) (bytes front rest : List ℕ) → IsRun p front bytes rest → (run p bytes ≡ front) × (past_run p bytes ≡ rest)
run_only p bytes front rest is =
    let own = run_is p bytes in
    same_run p _ _ front rest (grind arith) own.1 is.1 own.2 is.2

pub word_stands : (b : ℕ) (bs front rest : List ℕ) → begins_word b ≡ true → IsRun continues_word front (b ∷ bs) rest → IsToken (word front) (b ∷ bs) rest
word_stands b bs [] rest begins is = grind (arith, not_both)
word_stands b bs (c ∷ cs) rest begins is = grind arith

-- ---- numbers

same_bytes : (a b : Text) → same_text a b ≡ true → a ≡ b
same_bytes a b e = (bytes_eq-Decides a b).0 e

number_takes : (digits : List ℕ) (n : ℕ) → number_of digits ≡ Some n → (decimal n ≡ digits) × (n ≤ 2 ^ 63)
unfolding number_of pick
number_takes digits n = grind (arith, both_true, same_bytes, leb-true)

number_reads : (n : ℕ) → n ≤ 2 ^ 63 → number_of (decimal n) ≡ Some n
unfolding number_of pick
number_reads n small =
    let value = (decimal_is_IsNumeral n (omega arith)).1 in
    let same = (bytes_eq-Decides (decimal n) (decimal n)).1 refl in
    let fits : leb n (2 ^ 63) ≡ true = grind (arith, nat_tests) in
    rw (value, fits, same) refl

pub int_stands : (bytes : List ℕ) (n : ℕ) → number_of (run is_digit bytes) ≡ Some n → IsToken (int n) bytes (past_run is_digit bytes)
int_stands bytes n e =
    let takes = number_takes (run is_digit bytes) n e in
    (rw takes.0 (run_is is_digit bytes), takes.1)

pub int_reads : (bytes rest : List ℕ) (n : ℕ) → IsToken (int n) bytes rest → number_of (run is_digit bytes) ≡ Some n
int_reads bytes rest n (is, small) = rw ((run_only is_digit bytes _ rest is).0) (number_reads n small)

-- ---- texts

abbrev Ends : ℕ → List ℕ → Text × List ℕ → Type 0
Ends quote bytes s = IsQuoted quote s.0 bytes s.1

pub text_takes : (quote : ℕ) (bytes : List ℕ) (s : Text × List ℕ) → text_before quote bytes ≡ Some s → Ends quote bytes s
unfolding text_before
text_takes quote [] s e = absurd cc
text_takes quote (b ∷ []) s e = elim (picked _ _ _ _ e) [
  | inl (at, f) ↦ subst (Ends quote (b ∷ [])) (same_value f) (ap (λ c. c ∷ []) (is_byte b quote at))
  | inr (_, f) ↦ absurd cc
]
text_takes quote (b ∷ c ∷ bytes) s e = elim (picked _ _ _ _ e) [
  | inl (at, f) ↦ subst (Ends quote (b ∷ c ∷ bytes)) (same_value f) (ap (λ a. a ∷ c ∷ bytes) (is_byte b quote at))
  | inr (no_quote, f) ↦ elim (picked _ _ _ _ f) [
    | inl (at, g) ↦
        let d = then_takes _ _ _ g in
        let u = then_takes _ _ _ d.2 in
        subst (Ends quote (b ∷ c ∷ bytes)) (same_value u.2) (bytes, inr (c, ap (λ a. a ∷ c ∷ bytes) (is_byte b 92 at), d.1), text_takes quote bytes u.0 u.1)
    | inr (no_escape, g) ↦ elim (picked _ _ _ _ g) [
      | inl (_, h) ↦ absurd cc
      | inr (no_end, h) ↦
          let u = then_takes _ _ _ h in
          subst (Ends quote (b ∷ c ∷ bytes)) (same_value u.2)
          (c ∷ bytes, inl (refl, no_byte b quote no_quote, no_byte b 92 no_escape, no_byte b 10 no_end), text_takes quote (c ∷ bytes) u.0 u.1)
    ]
  ]
]

-- no text ends where no byte is
no_text : (quote : ℕ) (s bytes rest : List ℕ) → bytes ≡ [] → IsQuoted quote s bytes rest → ⊥
no_text quote [] bytes rest none q = grind arith
no_text quote (c ∷ cs) bytes rest none (more, inl plain, q) = grind arith
no_text quote (c ∷ cs) bytes rest none (more, inr escape, q) = grind arith

abbrev IsRead : ℕ → Text → List ℕ → List ℕ → Type 0
IsRead quote s rest bytes = text_before quote bytes ≡ Some (s, rest)

pub text_reads : (quote : ℕ) (s bytes rest : List ℕ) → IsQuote quote → IsQuoted quote s bytes rest → IsRead quote s rest bytes
unfolding text_before and_then pick
text_reads quote [] [] rest is q = absurd cc
text_reads quote [] (b ∷ []) rest is q =
    let at : eqb b quote ≡ true = grind (arith, nat_tests) in
    rw at cc
text_reads quote [] (b ∷ e ∷ bytes) rest is q =
    let at : eqb b quote ≡ true = grind (arith, nat_tests) in
    rw at cc
text_reads quote (c ∷ cs) [] rest is (more, inl plain, q) = absurd (grind arith)
text_reads quote (c ∷ cs) [] rest is (more, inr escape, q) = absurd (grind arith)
text_reads quote (c ∷ cs) (b ∷ []) rest is (more, inl plain, q) = absurd (no_text quote cs more rest (grind arith) q)
text_reads quote (c ∷ cs) (b ∷ []) rest is (more, inr escape, q) = absurd (grind arith)
text_reads quote (c ∷ cs) (b ∷ e ∷ bytes) rest is (more, inl (f, no_quote, no_escape, no_end), q) =
    let same : b ≡ c = cc in
    let then : (e ∷ bytes) ≡ more = cc in
    let tests : (eqb b quote ≡ false) × (eqb b 92 ≡ false) × (eqb b 10 ≡ false) = grind (arith, nat_tests) in
    let reads = subst (IsRead quote cs rest) (sym then) (text_reads quote cs more rest is q) in
    rw (tests.0, tests.1, tests.2, reads) cc
text_reads quote (c ∷ cs) (b ∷ e ∷ bytes) rest is (more, inr (d, f, stands), q) =
    let same : e ≡ d = cc in
    let then : bytes ≡ more = cc in
    let at : b ≡ 92 = cc in
    let tests : (eqb b quote ≡ false) × (eqb b 92 ≡ true) = grind (arith, nat_tests) in
    let escape : escaped e ≡ Some c = subst (λ x. escaped x ≡ Some c) (sym same) stands in
    let reads = subst (IsRead quote cs rest) (sym then) (text_reads quote cs more rest is q) in
    rw (tests.0, tests.1, escape, reads) refl

-- ---- signs

pub after_bytes_takes : (front bytes rest : List ℕ) → after_bytes front bytes ≡ Some rest → bytes ≡ front ++ rest
unfolding after_bytes pick
after_bytes_takes [] bytes rest = grind arith
after_bytes_takes (c ∷ cs) [] rest = grind arith
after_bytes_takes (c ∷ cs) (b ∷ bs) rest = grind (arith, eqb_tells, after_bytes_takes cs bs rest)

pub operator_reads : (o : Binary) (bytes rest : List ℕ) → IsToken (op o) bytes rest → sign_among signs bytes ≡ Some (op o, rest)
unfolding sign_among or_first after_bytes pick
operator_reads = grind arith

pub mark_reads : (m : Mark) (bytes rest : List ℕ) → IsToken (mark m) bytes rest → sign_among signs bytes ≡ Some (mark m, rest)
unfolding sign_among or_first after_bytes pick
mark_reads = grind arith

pub sign_takes : (bytes rest : List ℕ) (t : Token) → sign_among signs bytes ≡ Some (t, rest) → IsToken t bytes rest
unfolding sign_among or_first after_bytes pick
sign_takes [] = grind arith
sign_takes (a ∷ []) = grind (arith, eqb_tells)
sign_takes (a ∷ b ∷ bs) = grind (arith, eqb_tells)
