-- Bytes begin with one token.
use Rattle.{
  meaning_language.{proofs.cells.Common.{◌≡◌, ◌≢◌, ◌∙◌, sym, ap, refl, ℕ, ◌≤◌, ◌<◌, ◌^◌, Bool, true, ◌||◌, eqb, if◌then◌else◌, subst, List, [], ◌∷◌, ◌++◌, length, length-append, get_or, decimal, Result, Ok, arith, rules, nat_tests, decimal_injective, IsNumeralModel, numerals_by_value, IsUtf8, digits_value, list_all, Text, Binary}, specs.Token.{Token, word, int, text, op, mark, spelling_of, is_digit, begins_word, continues_word, begins_with, IsRun, IsTextByte, IsQuoted, IsToken}},
  std.{proofs.{Common.{ltb}, lemmas.{Fmt.{decimal_nonempty, decimal-digits_value, parse-decimal}, Str.Parse.{parse_digits}}}, specs.Str.Parse.{ParsesUnsigned}},
  script_tokens.proofs.{Runs.{both_true, not_both, IsRun-unique}, Signs.{operator_reads, mark_reads}, Texts.{quoted_ends, IsUtf8-after_ascii}},
}

run_begins : (p q : ℕ → Bool) (front bytes rest : List ℕ) → IsRun p front bytes rest → begins_with q front ≡ true → begins_with q bytes ≡ true
run_begins = grind arith

passes_first : (p : ℕ → Bool) (xs : List ℕ) → 0 < length xs → list_all p xs ≡ true → begins_with p xs ≡ true
passes_first = grind (arith, both_true)

pub word_begins : (w : Text) (bytes rest : List ℕ) → IsToken (word w) bytes rest → begins_with begins_word bytes ≡ true
word_begins w _ _ t = search run_begins

pub int_begins : (n : ℕ) (bytes rest : List ℕ) → IsToken (int n) bytes rest → begins_with is_digit bytes ≡ true
int_begins = grind (arith, run_begins, passes_first, decimal_nonempty)

-- what stands at the front: a word, a number, a text or a sign
abbrev pub kind_at : ℕ → ℕ
kind_at b = if begins_word b then 0 else if is_digit b then 1 else if eqb b 39 || eqb b 34 then 2 else 3

abbrev pub kind_of : Token → ℕ
kind_of (word w) = 0
kind_of (int n) = 1
kind_of (text s) = 2
kind_of (op o) = 3
kind_of (mark m) = 3

pub kind_of_digits : (bytes : List ℕ) → begins_with is_digit bytes ≡ true → kind_at (get_or bytes 0 0) ≡ 1
kind_of_digits = grind (arith, nat_tests)

-- the first byte tells which kind of token stands there
pub IsToken-kind : (t : Token) (bytes rest : List ℕ) → IsToken t bytes rest → kind_at (get_or bytes 0 0) ≡ kind_of t
IsToken-kind = grind (arith, word_begins, kind_of_digits, int_begins)

-- a byte of a text, and what follows it, are the only ones
IsTextByte-unique : (quote c d : ℕ) (bytes more others : List ℕ) → IsTextByte quote c bytes more → IsTextByte quote d bytes others → (c ≡ d) × (more ≡ others)
IsTextByte-unique = grind arith

-- a text that ends with this quote, and what follows it, are the only ones
pub IsQuoted-unique : (quote : ℕ) (s u bytes rest rest' : List ℕ) → quote ≢ 92 → IsQuoted quote s bytes rest → IsQuoted quote u bytes rest' → (s ≡ u) × (rest ≡ rest')
IsQuoted-unique quote [] [] = grind arith
IsQuoted-unique quote [] (d ∷ ds) = grind arith
IsQuoted-unique quote (c ∷ cs) [] = grind arith
IsQuoted-unique quote (c ∷ cs) (d ∷ ds) = grind (arith, IsTextByte-unique, IsQuoted-unique quote cs ds)

-- the token that bytes begin with, and the rest, are the only ones
pub IsToken-unique : (t u : Token) (bytes rest rest' : List ℕ) → IsToken t bytes rest → IsToken u bytes rest' → (t ≡ u) × (rest ≡ rest')
IsToken-unique (word w) (word v) _ _ _ p q =
    let same = IsRun-unique _ _ w _ v _ p.0 q.0 in
    search
IsToken-unique (int n) (int k) bytes rest rest' p q =
    let same = IsRun-unique is_digit bytes _ rest _ rest' p.0 q.0 in
    grind (arith, decimal_injective)
IsToken-unique (text s) (text u) _ _ _ (a, more, is, e, p) (b, others, was, f, q) = grind (arith, IsQuoted-unique)
IsToken-unique (op o) (op k) _ _ _ p q = grind arith
IsToken-unique (op o) (mark m) _ _ _ p q = grind arith
IsToken-unique (mark m) (op o) _ _ _ p q = grind (arith, mark_reads, operator_reads)
IsToken-unique (mark m) (mark k) _ _ _ p q = grind (arith, mark_reads)
IsToken-unique t u bytes rest _ p q =
    let kinds = sym (IsToken-kind t bytes rest p) ∙ IsToken-kind u _ _ q in
    search

own_digits : IsNumeralModel (λ ds. list_all is_digit ds ≡ true) (digits_value 10)
own_digits = numerals_by_value _ (search rules)

-- what digits with no leading zero parse to is the number that they spell
pub digits_spell : {E : Type 0} (ds : List ℕ) (n : ℕ) (r : Result ℕ E) → ParsesUnsigned 64 10 ds r → r ≡ Ok n → list_all is_digit ds ≡ true → 0 < length ds
    → (get_or ds 0 0 ≡ 48 → length ds ≡ 1) → ds ≡ decimal n
digits_spell {E} ds n r parsed is digits some lead =
    let read = parse_digits own_digits {E = E} 64 ds (Ok n) (rw is at parsed) digits in
    cc (read.1, decimal-digits_value own_digits ds digits some lead read.0.1)

pub word_is_ascii : (b : ℕ) → continues_word b ≡ true → b < 128
word_is_ascii = grind (arith, nat_tests)

pub digit_is_ascii : (b : ℕ) → is_digit b ≡ true → b < 128
digit_is_ascii = grind (arith, nat_tests)

-- a run is not empty where its first byte passes
pub run_is_some : (p : ℕ → Bool) (front bytes rest : List ℕ) → IsRun p front bytes rest → begins_with p bytes ≡ true → 0 < length front
run_is_some p [] = grind (arith, not_both)
run_is_some p (x ∷ xs) = omega arith

-- the digits of a number parse to it
pub number_parses : {E : Type 0} (ds : List ℕ) (n : ℕ) (r : Result ℕ E) → ParsesUnsigned 64 10 ds r → n < 2 ^ 64 → ds ≡ decimal n → r ≡ Ok n
number_parses {E} = search parse-decimal

pub no_int : (bytes digits rest : List ℕ) → IsRun is_digit digits bytes rest → begins_with is_digit bytes ≡ true
    → ((n : ℕ) → n ≤ 2 ^ 63 → digits ≡ decimal n → ⊥) → (t : Token) (after : List ℕ) → IsToken t bytes after → ⊥
no_int bytes digits rest run e none (int n) after t = none n t.1 (IsRun-unique is_digit bytes digits rest (decimal n) after run t.0).0
no_int bytes digits rest run e none t after is = grind (arith, IsToken-kind, kind_of_digits)

-- what follows a token is shorter
pub IsToken-shorter : (t : Token) (bytes rest : List ℕ) → IsToken t bytes rest → length rest < length bytes
IsToken-shorter = grind (arith, length-append, decimal_nonempty, quoted_ends)

-- ---- UTF-8

below_128 : ℕ → Bool
below_128 b = ltb b 128

below_128_is_below : (b : ℕ) → below_128 b ≡ true → b < 128
unfolding below_128
below_128_is_below = grind (arith, nat_tests)

operator_is_ascii : (o : Binary) → list_all below_128 (spelling_of o) ≡ true
unfolding below_128
operator_is_ascii = grind arith

after_front : (p : ℕ → Bool) → ((b : ℕ) → p b ≡ true → b < 128) → (front bytes rest : List ℕ) → bytes ≡ front ++ rest → list_all p front ≡ true → IsUtf8 bytes → IsUtf8 rest
after_front p low [] _ _ e all is = subst IsUtf8 e is
after_front p low (b ∷ bs) _ _ e all is =
    after_front p low bs _ _ refl (both_true (p b) _ all).1 (IsUtf8-after_ascii [] b _ (low b (both_true (p b) _ all).0) (subst IsUtf8 e is))

-- what follows a token of a text is text
pub IsUtf8-after_token : (t : Token) (bytes rest : List ℕ) → IsUtf8 bytes → IsToken t bytes rest → IsUtf8 rest
IsUtf8-after_token (word w) _ _ all t = search (after_front, word_is_ascii)
IsUtf8-after_token (int n) _ _ all t = search (after_front, digit_is_ascii)
IsUtf8-after_token (text s) _ _ all (quote, more, is, e, q) =
    let ends = quoted_ends _ s _ _ q in
    IsUtf8-after_ascii (quote ∷ ends.0) _ _ (grind arith) (subst IsUtf8 (e ∙ ap (λ bs. quote ∷ bs) ends.1) all)
IsUtf8-after_token (op o) _ _ all t = after_front _ below_128_is_below (spelling_of o) _ _ t.0 (operator_is_ascii o) all
IsUtf8-after_token (mark m) _ _ all t = IsUtf8-after_ascii [] _ _ (grind arith) (subst IsUtf8 t.0 all)
